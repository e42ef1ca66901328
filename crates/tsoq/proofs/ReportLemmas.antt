-- What reports say, from what the search found.
use Rattle.std.proofs.Common.{◌≡◌, ◌∙◌, ap, ℕ, Bool, List, Option, Some, None, refl, sym, subst}
use Rattle.std.specs.Prelude.{length}
use Rattle.tso_cells.specs.Inductive.{IsInductive}
use Rattle.tso_cells.specs.declared.table.IntervalTable.{IntervalTable}
use Rattle.tso_cert.specs.Lookup.{tree_states}
use Rattle.tso_cert.specs.Seen.{AreWithin}
use Rattle.tso_cert.specs.Trees.{Tree, record_count}
use Rattle.tso_cert.specs.Certificates.{certificate}
use Rattle.tso_check.proofs.Goodness.{each_run_is_good}
use Rattle.tso_check.proofs.UpgradeLemmas.{new_spelled, new_tree}
use Rattle.tso_client.specs.Headline.{DenotesChecked}
use Rattle.tso_write.specs.Worked.{IsCertificate}
use Rattle.tso_write.specs.Worked.{IsTreeOf}
use Rattle.tso_write.specs.declared.worked.Worked.{Worked}
use Rattle.tso_foot.specs.Narrower.{IsNarrowerThanClosed}
use Rattle.tso_foot.specs.declared.table.Table.{Table}
use Rattle.tso_foot.specs.declared.table.Table.TheVariants as tables
use Rattle.tso_front.specs.declared.failure.Failure.{Failure}
use Rattle.tso_judge.specs.Valid.{IsValidCertificate}
use Rattle.tso_machine.specs.declared.label.Label.{Label}
use Rattle.tso_prog.specs.declared.client.Client.{Client}
use Rattle.tso_rec.specs.Bases.{basis, by_steps}
use Rattle.tso_rec.specs.declared.basis.Grain.{Grain}
use Rattle.tso_rec.specs.declared.basis.Grain.TheVariants as grains
use Rattle.tso_replay.specs.declared.report.Report.{Report}
use Rattle.tso_replay.specs.declared.report.Report.TheVariants.{Certified, Violated}
use Rattle.tso_request.specs.declared.form.Form.{Form}
use Rattle.tso_request.specs.declared.form.Form.TheVariants as forms
use Rattle.tso_search.specs.Grounds.{basis_of, grain_of, table_of}
use Rattle.tso_search.specs.declared.ground.Ground.{Ground}
use Rattle.tso_search.specs.declared.ground.Ground.TheVariants as grounds
use Rattle.tso_trace.specs.Grammar.{trace_text}
use Rattle.tso_trace.specs.Runs.{IsErrorTrace, first_fault, violation_of}
use Rattle.tso_trace.specs.declared.trace.Trace.{Trace}
use Rattle.tso_trace.specs.declared.trace.Violation.{Violation}
use Rattle.tsoq.specs.Reports.{IsOfLabels, IsOfRecords, IsReport, IsTold}
use Rattle.tsoq.specs.Written.{HasTaken, HasTakenFrom, HasTakenTree, IsAllGood, IsAsked, IsAskedFor, IsCertificateOf, IsFiled, IsSpelledFrom, IsSpelledOf, IsTableFor, IsWritable, grain_of_form, own_form}
use Rattle.tsoq.specs.declared.counted.Taken.{Taken}

pub all_good : (text : List ℕ) (c : Client) (limit : ℕ) (g : Ground) (tree : Tree) (r : Report) → DenotesChecked text c → IsCertificate c limit g tree
    → IsOfRecords (record_count tree) r → IsReport text r
all_good text c limit g tree (Certified records bytes) d v is = record { verified = c; denotes = d; good = each_run_is_good c (basis_of g) tree v.valid }
all_good text c limit g tree (Violated violation labels bytes) d v is = absurd is

pub one_errs : (text : List ℕ) (c : Client) (ls : List Label) (wrong : Violation) (r : Report) → DenotesChecked text c → ∥ IsErrorTrace c ls ∥₁
    → IsOfLabels wrong (length ls) r → IsReport text r
one_errs text c ls wrong (Certified records bytes) d e is = absurd is
one_errs text c ls wrong (Violated violation labels bytes) d e is = record { erring = c; denotes = d; labels = ls; run = e }

-- beside a certificate there is no trace
pub told_certified : (r : Report) (count : ℕ) → IsOfRecords count r → IsTold r None
told_certified (Certified records bytes) count is = refl
told_certified (Violated violation labels bytes) count is = absurd is

-- and beside a violation that of its run
told_violated : (r : Report) (t : Trace) → IsOfLabels (violation_of (first_fault t.labels)) (length t.labels) r → IsTold r (Some t)
told_violated (Certified records bytes) t is = absurd is
told_violated (Violated violation labels bytes) t is = is

pub told_of : (r : Report) (t : Trace) (o : Option Trace) → o ≡ Some t → IsOfLabels (violation_of (first_fault t.labels)) (length t.labels) r → IsTold r o
told_of r t o e is = subst (IsTold r) (sym e) (told_violated r t is)

-- ---- tables

-- what a search finds is written with its own table
pub as_searched : (c : Client) (limit : ℕ) (g : Ground) (tree : Tree) → IsCertificate c limit g tree → IsWritable (own_form g) c (table_of g) tree
as_searched c limit (grounds.Steps (tables.Arrays a)) tree v = record { formed = tt; valid = v.valid; fits = v.fits; within = v.within }
as_searched c limit (grounds.Steps (tables.Intervals u)) tree v = absurd v.least
as_searched c limit (grounds.Crossings own (tables.Arrays a)) tree v = absurd v.fits.0
as_searched c limit (grounds.Crossings own (tables.Intervals u)) tree v = record { formed = tt; valid = v.valid; fits = v.fits; within = v.within }

-- and as well with one of intervals that holds its states, and names no more arrays than a closed one
pub with_intervals : (c : Client) (t : Table) (u : IntervalTable) (tree : Tree) → IsWritable forms.Arrays c t tree → IsInductive c u → AreWithin (tables.Intervals u) (tree_states tree)
    → IsNarrowerThanClosed c u → IsWritable forms.Intervals c (tables.Intervals u) tree
with_intervals c (tables.Arrays a) u tree is inductive within narrow =
    let bytes = certificate (by_steps (tables.Arrays a)) tree in
    let old : IsValidCertificate c bytes = record { basis = by_steps (tables.Arrays a); tree = tree; spelled = (is.fits, refl); within = is.within; valid = is.valid } in
    let anew = certificate (by_steps (tables.Intervals u)) tree in
    let spelled = new_spelled c bytes a u tree old (is.fits, refl) is.within inductive within (narrow a is.valid.closed) anew refl in
    record {
      formed = tt;
      valid = new_tree c bytes a u tree old (is.fits, refl) is.within inductive within (narrow a is.valid.closed) anew refl;
      fits = spelled.0;
      within = is.within;
    }
with_intervals c (tables.Intervals a) u tree is inductive within narrow = absurd is.formed

-- ---- worked states

-- they are written with their own table
pub own_table : (c : Client) (w : Worked) → IsTableFor (own_form w.ground) c w (table_of w.ground)
own_table c w tree made = as_searched c (length w.store.states) w.ground tree made.good

-- by steps it is one of arrays
pub steps_table : (c : Client) (w : Worked) → own_form w.ground ≡ forms.Arrays → IsTableFor forms.Arrays c w (table_of w.ground)
steps_table c w steps tree made = subst (λ (f : Form). IsWritable f c (table_of w.ground) tree) steps (own_table c w tree made)

-- and as well with one of intervals that holds them
pub new_table : (c : Client) (w : Worked) (u : IntervalTable) → own_form w.ground ≡ forms.Arrays → IsInductive c u → AreWithin (tables.Intervals u) w.store.states → IsNarrowerThanClosed c u
    → IsTableFor forms.Intervals c w (tables.Intervals u)
new_table c w u steps inductive within narrow tree made =
    with_intervals c (table_of w.ground) u tree (steps_table c w steps tree made) inductive (λ k s at. let from = made.states k s at in within from.0 s from.1) narrow

-- the form that is asked for, where it is the search's own
pub by_arrays : (g : Ground) → grain_of g ≡ grain_of_form forms.Arrays → own_form g ≡ forms.Arrays
by_arrays (grounds.Steps t) e = refl
by_arrays (grounds.Crossings own t) e = let clash : grains.Crossings ≡ grains.Steps = e in absurd (cc)

pub by_crossings : (g : Ground) → grain_of g ≡ grain_of_form forms.Crossings → own_form g ≡ forms.Crossings
by_crossings (grounds.Steps t) e = let clash : grains.Steps ≡ grains.Crossings = e in absurd (cc)
by_crossings (grounds.Crossings own t) e = refl

pub own_grain : (g : Ground) → grain_of_form (own_form g) ≡ grain_of g
own_grain (grounds.Steps t) = refl
own_grain (grounds.Crossings own t) = refl

pub spelled_from : (form : Form) (c : Client) (w : Worked) (t : Table) (bytes : List ℕ) → grain_of_form form ≡ grain_of w.ground → IsTableFor form c w t → IsSpelledOf c w t bytes → IsSpelledFrom form c w bytes
spelled_from form c w t bytes grain fits is = record {
  tree = is.tree;
  made = is.made;
  with_table = record { table = t; writable = fits is.tree is.made; spelled = is.spelled ∙ ap (λ (g : Grain). certificate (basis g t) is.tree) (sym grain) };
}

pub good_of_worked : (form : Form) (c : Client) (w : Worked) (r : Report) (o : Option Taken) → HasTakenFrom form c w o → IsOfRecords (length w.store.states) r → IsAllGood form c r o
good_of_worked form c w r o from records = record {
  limit = length w.store.states;
  ground = w.ground;
  tree = from.tree;
  good = from.made.good;
  records = subst (λ (n : ℕ). IsOfRecords n r) (sym from.made.count) records;
  taken = from.taken;
}

pub good_of_tree : (form : Form) (c : Client) (w : Worked) (tree : Tree) (r : Report) (o : Option Taken) → IsTreeOf c w tree → IsOfRecords (record_count tree) r → HasTakenTree form c tree o → IsAllGood form c r o
good_of_tree form c w tree r o made records taken = record { limit = length w.store.states; ground = w.ground; tree = tree; good = made.good; records = records; taken = taken }

-- ---- files

certificate_taken : (form : Form) (text : List ℕ) (c : Client) (tree : Tree) (o : Option Taken) → DenotesChecked text c → HasTakenTree form c tree o → IsCertificateOf form text o
certificate_taken form text c tree None d is = tt
certificate_taken form text c tree (Some taken) d is = record {
  searched = c;
  denotes = d;
  valid = record { basis = basis (grain_of_form form) is.table; tree = tree; spelled = (is.writable.fits, is.spelled); within = is.writable.within; valid = is.writable.valid };
  formed = is.writable.formed;
  grain = refl;
}

-- where the file of a certificate has taken its spelling
pub filed_certificate : (form : Form) (text : List ℕ) (c : Client) (count : ℕ) (tree : Tree) (r : Report) (o : Option Taken) → DenotesChecked text c
    → IsOfRecords count r → HasTakenTree form c tree o → IsFiled form text r None o
filed_certificate form text c count tree (Certified records bytes) o d of is = certificate_taken form text c tree o d is
filed_certificate form text c count tree (Violated violation labels bytes) o d of is = absurd of

filed_text : (form : Form) (text : List ℕ) (wrong : Violation) (count : ℕ) (r : Report) (t : Trace) (o : Option Taken) → IsOfLabels wrong count r
    → HasTaken (trace_text t.checked.client.arrays t.labels) o → IsFiled form text r (Some t) o
filed_text form text wrong count (Certified records bytes) t o of is = absurd of
filed_text form text wrong count (Violated violation labels bytes) t o of is = is

-- where that of a trace has taken its text
pub filed_trace : (form : Form) (text : List ℕ) (wrong : Violation) (count : ℕ) (r : Report) (t : Trace) (u : Option Trace) (o : Option Taken) → u ≡ Some t → IsOfLabels wrong count r
    → HasTaken (trace_text t.checked.client.arrays t.labels) o → IsFiled form text r u o
filed_trace form text wrong count r t u o e of is = subst (λ x. IsFiled form text r x o) (sym e) (filed_text form text wrong count r t o of is)

pub asked_certified : (cert trace : Bool) (count : ℕ) (r : Report) (o : Option Taken) → IsOfRecords count r → IsAsked cert o None → IsAskedFor cert trace r o None
asked_certified cert trace count (Certified records bytes) o of is = (is, refl)
asked_certified cert trace count (Violated violation labels bytes) o of is = absurd of

pub asked_violated : (cert trace : Bool) (wrong : Violation) (count : ℕ) (r : Report) (o : Option Taken) (f : Option Failure) → IsOfLabels wrong count r → IsAsked trace o f
    → IsAskedFor cert trace r o f
asked_violated cert trace wrong count (Certified records bytes) o f of is = absurd of
asked_violated cert trace wrong count (Violated violation labels bytes) o f of is = is
