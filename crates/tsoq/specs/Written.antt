-- What the files of a search have taken.
use Rattle.std.specs.Prelude.{◌≡◌, ◌-◌, ◌^◌, ℕ, Bool, true, false, List, Option, Some, None, length, min}
use Rattle.tso_cert.specs.Certificates.{Fits, certificate}
use Rattle.tso_cert.specs.Trees.{IsWithinLimits, Tree, record_count}
use Rattle.tso_client.specs.Headline.{DenotesChecked}
use Rattle.tso_write.specs.Worked.{IsCertificate}
use Rattle.tso_write.specs.Worked.{IsTreeOf}
use Rattle.tso_write.specs.declared.worked.Worked.{Worked}
use Rattle.tso_foot.specs.declared.table.Table.{Table}
use Rattle.tso_foot.specs.declared.table.Table.TheVariants as tables
use Rattle.tso_front.specs.declared.failure.Failure.{Failure}
use Rattle.tso_judge.specs.Valid.{IsValidCertificate, IsValidTree}
use Rattle.tso_prog.specs.declared.client.Client.{Client}
use Rattle.tso_rec.specs.Bases.{basis}
use Rattle.tso_rec.specs.declared.basis.Grain.{Grain}
use Rattle.tso_rec.specs.declared.basis.Grain.TheVariants as grains
use Rattle.tso_replay.specs.declared.report.Report.{Report}
use Rattle.tso_replay.specs.declared.report.Report.TheVariants.{Certified, Violated}
use Rattle.tso_request.specs.declared.form.Form.{Form}
use Rattle.tso_request.specs.declared.form.Form.TheVariants.{Arrays, Intervals, Crossings}
use Rattle.tso_search.specs.Grounds.{grain_of}
use Rattle.tso_search.specs.declared.ground.Ground.{Ground}
use Rattle.tso_search.specs.declared.ground.Ground.TheVariants as grounds
use Rattle.tso_trace.specs.Grammar.{trace_text}
use Rattle.tso_trace.specs.declared.trace.Trace.{Trace}
use Rattle.tsoq.specs.Reports.{IsOfRecords}
use Rattle.tsoq.specs.declared.counted.Taken.{Taken}

-- a file, if there is one, has taken these bytes, and no others
abbrev pub HasTaken : List ℕ → Option Taken → Type 0
HasTaken bytes None = Unit {0}
HasTaken bytes (Some taken) = taken.which.numbers ≡ bytes

-- where a file is asked for, it has taken what it should or it is told why not; else there is neither
abbrev pub IsAsked : Bool → Option Taken → Option Failure → Type 0
IsAsked false None None = Unit {0}
IsAsked true (Some taken) None = Unit {0}
IsAsked true None (Some failure) = Unit {0}
IsAsked _ _ _ = ⊥

-- how many bytes a file has taken, if there is one; 2^64 - 1 where there are more
abbrev pub count_of : Option Taken → Option ℕ
count_of None = None
count_of (Some taken) = Some (min (length taken.which.numbers) (2 ^ 64 - 1))

-- how many bytes were written, as it is reported
abbrev pub bytes_of : Report → Option ℕ
bytes_of (Certified records bytes) = bytes
bytes_of (Violated violation labels bytes) = bytes

-- ---- certificates

-- the table is one of this form
abbrev pub IsTableOf : Form → Table → Type 0
IsTableOf Arrays (tables.Arrays t) = Unit {0}
IsTableOf Arrays (tables.Intervals t) = ⊥
IsTableOf Intervals (tables.Arrays t) = ⊥
IsTableOf Intervals (tables.Intervals t) = Unit {0}
IsTableOf Crossings (tables.Arrays t) = ⊥
IsTableOf Crossings (tables.Intervals t) = Unit {0}

-- how far apart the records of such a certificate lie
abbrev pub grain_of_form : Form → Grain
grain_of_form Arrays = grains.Steps
grain_of_form Intervals = grains.Steps
grain_of_form Crossings = grains.Crossings

-- the form in which what a search found is written with the table of the search
abbrev pub own_form : Ground → Form
own_form (grounds.Steps t) = Arrays
own_form (grounds.Crossings own t) = Crossings

-- a table of this form and a tree that are valid for the client, within the limits, with each number in its range: their spelling is a valid
-- certificate of it
pub record IsWritable (form : Form) (c : Client) (t : Table) (tree : Tree) : Type 0 where
  pub formed : IsTableOf form t
  pub valid : IsValidTree c (basis (grain_of_form form) t) tree
  pub fits : Fits (basis (grain_of_form form) t) tree
  pub within : IsWithinLimits tree

-- the bytes spell the tree with such a table
pub record IsSpelledWith (form : Form) (c : Client) (tree : Tree) (bytes : List ℕ) : Type 0 where
  pub table : Table
  pub writable : IsWritable form c table tree
  pub spelled : bytes ≡ certificate (basis (grain_of_form form) table) tree

-- a file, if there is one, has taken such bytes, and no others
abbrev pub HasTakenTree : Form → Client → Tree → Option Taken → Type 0
HasTakenTree form c tree None = Unit {0}
HasTakenTree form c tree (Some taken) = IsSpelledWith form c tree taken.which.numbers

-- ---- certificates of worked states

-- the bytes spell this table and a tree of records of the worked states
pub record IsSpelledOf (c : Client) (w : Worked) (t : Table) (bytes : List ℕ) : Type 0 where
  pub tree : Tree
  pub made : IsTreeOf c w tree
  pub spelled : bytes ≡ certificate (basis (grain_of w.ground) t) tree

-- each such tree can be written with this table, one of this form
abbrev pub IsTableFor : Form → Client → Worked → Table → Type 0
IsTableFor form c w t = (tree : Tree) → IsTreeOf c w tree → IsWritable form c t tree

-- the bytes spell such a tree with a table of this form
pub record IsSpelledFrom (form : Form) (c : Client) (w : Worked) (bytes : List ℕ) : Type 0 where
  pub tree : Tree
  pub made : IsTreeOf c w tree
  pub with_table : IsSpelledWith form c tree bytes

-- there is such a tree, and a file, if there is one, has taken bytes that spell it, and no others
pub record HasTakenFrom (form : Form) (c : Client) (w : Worked) (o : Option Taken) : Type 0 where
  pub tree : Tree
  pub made : IsTreeOf c w tree
  pub taken : HasTakenTree form c tree o

-- there is a certificate of the client with as many records as are reported, and a file, if there is one, has taken bytes that spell its
-- tree, and no others
pub record IsAllGood (form : Form) (c : Client) (r : Report) (o : Option Taken) : Type 0 where
  pub limit : ℕ
  pub ground : Ground
  pub tree : Tree
  pub good : IsCertificate c limit ground tree
  pub records : IsOfRecords (record_count tree) r
  pub taken : HasTakenTree form c tree o

-- ---- files of certificates

-- the text denotes a client of which these bytes are a valid certificate of this form
pub record AreCertificate (form : Form) (text bytes : List ℕ) : Type 0 where
  pub searched : Client
  pub denotes : DenotesChecked text searched
  pub valid : IsValidCertificate searched bytes
  pub formed : IsTableOf form valid.basis.table
  pub grain : valid.basis.grain ≡ grain_of_form form

abbrev pub IsCertificateOf : Form → List ℕ → Option Taken → Type 0
IsCertificateOf form text None = Unit {0}
IsCertificateOf form text (Some taken) = AreCertificate form text taken.which.numbers

-- ---- what was asked for

-- the file of a certificate has taken a valid certificate of the client of the text, with a table of the form that is asked for, and that of a
-- trace the text of the trace that is handed out
abbrev pub IsFiled : Form → List ℕ → Report → Option Trace → Option Taken → Type 0
IsFiled form text (Certified records bytes) trace taken = IsCertificateOf form text taken
IsFiled form text (Violated violation labels bytes) None taken = ⊥
IsFiled form text (Violated violation labels bytes) (Some trace) taken = HasTaken (trace_text trace.checked.client.arrays trace.labels) taken

-- which file was asked for: that of a certificate, which is reported only where its file did not fail, or that of a trace
abbrev pub IsAskedFor : Bool → Bool → Report → Option Taken → Option Failure → Type 0
IsAskedFor cert trace (Certified records bytes) taken failure = IsAsked cert taken None × (failure ≡ None)
IsAskedFor cert trace (Violated violation labels bytes) taken failure = IsAsked trace taken failure
