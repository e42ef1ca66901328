-- Leaves, forks and whole certificates that were read.
use Rattle.std.proofs.Common.{Box, Global, ◌≡◌, ℕ, zero, suc, ◌-◌, ◌≤◌, List, [], ◌∷◌, ◌++◌, length, min, Option, Some, None, Result, Ok, Err, IfOk, refl, sym, ap, ◌∙◌, arith, slice_get}
use Rattle.std.specs.Prelude.{IfSome}
use Rattle.std.proofs.lemmas.Bool.{le-ltb}
use Rattle.std.proofs.lemmas.List.{append-nil, length-map, map-append}
use Rattle.tso_cert.proofs.TreeCode.{Three, behind, ended}
use Rattle.tso_cert.specs.Certificates.{◌>>=◌, Branch, certificate_at, fork_at, front_at, leaf_at, tree_at}
use Rattle.tso_cert.specs.Lookup.{tree_states}
use Rattle.tso_cert.specs.Trees.{fork, leaf, records_of}
use Rattle.tso_cert.specs.declared.fault.Fault.{Fault}
use Rattle.tso_code.specs.Numbers.{number_at}
use Rattle.tso_foot.specs.declared.table.Table.{Table}
use Rattle.tso_prog.specs.declared.client.Client.{Client}
use Rattle.tso_rec.specs.Bases.{by_steps}
use Rattle.tso_rec.specs.Records.{ends_of}
use Rattle.tso_rec.specs.declared.basis.Basis.{Basis}
use Rattle.tso_rec.specs.declared.basis.Grain.TheVariants.{Steps}
use Rattle.tso_rec.specs.declared.record.End.{End}
use Rattle.tso_rec.specs.declared.record.Record.{Record}
use Rattle.tso_scan.proofs.ScanLemmas.{twice_more}
use Rattle.tso_scan.specs.Scanned.{AreRecordsScanned, HasMore, IsBranchScanned, IsScan, IsScanned, IsScannedBehind, scanned_states}
use Rattle.tso_scan.specs.Sources.{IsKeyReadAs, parts_of}
use Rattle.tso_scan.specs.declared.scanned.Scanned.{Scanned}
use Rattle.tso_scan.specs.declared.shape.Shape.{Shape, Leaf}
use Rattle.tso_scan.specs.declared.shape.Shape.TheViews.{Fork}
use Rattle.tso_scan.specs.declared.sources.Sources.{Sources}
use Rattle.tso_scan.specs.declared.states.Scan.{Scan}
use Rattle.tso_state.specs.declared.state.State.{State}
use Rattle.tso_keys.proofs.StateLemmas.{key_more, key_state, kept_stay, state_got, states_stay}
use Rattle.tso_keys.specs.Keys.{IsKeyOf, state_at}
use Rattle.tso_keys.specs.declared.key.Key.{Key}

pub leaf_scanned : (c : Client) (old new : Scan) (room found : ℕ) (bytes rest after : List ℕ) → number_at bytes ≡ Some (found, rest) → found ≤ min 64 room → AreRecordsScanned c old new found rest after → IsBranchScanned c old new (leaf_at Steps room bytes) (Leaf found) (room - found) after
unfolding leaf_at
leaf_scanned c old new room found bytes rest after number few is = record {
  tree = leaf is.records;
  reads = rw (number, le-ltb (min 64 room) found few, is.reads) refl;
  shape = sym is.count;
  forks = tt;
  more = is.more;
}

-- the same reading, told otherwise
pub branch_is : (c : Client) (old new : Scan) (one two : Branch) (sh : Shape) (left : ℕ) (rest : List ℕ) → two ≡ one → IsBranchScanned c old new one sh left rest → IsBranchScanned c old new two sh left rest
branch_is c old new one two sh left rest same is = record { tree = is.tree; reads = same ∙ is.reads; shape = is.shape; forks = is.forks; more = is.more }

-- ---- forks

-- a key that is read changes no state
pub key_scanned : (c : Client) (old : Scan) (now : Sources) (k : Key) (bytes rest : List ℕ) → IsScan c old → IsKeyReadAs c old.sources now bytes k rest → HasMore c old (record { sources = now; keys = old.keys; reader = old.reader; ends = old.ends }) [] []
key_scanned c old now k bytes rest is read = record {
  scan = record { kept = kept_stay c (parts_of old.sources) (parts_of now) old.keys read.grows read.small is.kept; small = read.small; rows = read.rows };
  grows = read.grows;
  states = states_stay c (parts_of old.sources) (parts_of now) old.keys read.grows read.small is.kept ∙ sym (append-nil (scanned_states old));
  ends = sym (append-nil old.ends);
}

pub first_behind : {X : Type 0} (xs ys : List X) (n : ℕ) → n ≡ length xs → slice_get (xs ++ ys) n ≡ slice_get ys 0
first_behind [] ys n e = ap (slice_get ys) e
first_behind (x ∷ xs) ys zero e = absurd (omega (arith, e))
first_behind (x ∷ xs) ys (suc n) e = first_behind xs ys n (omega (arith, e))

-- the state with this key is the first of those that came since
first_is : (c : Client) (mid new : Scan) (ss : List State) (es : List End) (k : Key) (s : State) → HasMore c mid new ss es → IsKeyOf (parts_of mid.sources) k s → slice_get new.keys (length mid.keys) ≡ Some k → slice_get ss 0 ≡ Some s
first_is c mid new ss es k s more key at =
    let grown_key = key_more (parts_of mid.sources) (parts_of new.sources) k s more.grows key in
    let there : slice_get (scanned_states new) (length mid.keys) ≡ Some s = state_got (parts_of new.sources) new.keys (length mid.keys) k at ∙ ap Some (key_state (parts_of new.sources) k s more.scan.small grown_key) in
    let many : length mid.keys ≡ length (scanned_states mid) = sym (length-map mid.keys (state_at (parts_of mid.sources))) in
    sym (first_behind (scanned_states mid) ss (length mid.keys) many) ∙ ap (λ (l : List State). slice_get l (length mid.keys)) (sym more.states) ∙ there

-- a fork is its left half, its state and its right half
pub fork_scanned : (c : Client) (old left_read now : Scan) (sources : Sources) (depth room : ℕ) (bytes after_left after_state rest : List ℕ) (one two : Box Shape Global) (middle left : ℕ) (k : Key)
    → IsBranchScanned c old left_read (tree_at Steps depth room bytes) one.value middle after_left
    → (read : IsKeyReadAs c left_read.sources sources after_left k after_state)
    → IsBranchScanned c (record { sources = sources; keys = left_read.keys; reader = left_read.reader; ends = left_read.ends }) now (tree_at Steps depth middle after_state) two.value left rest
    → slice_get now.keys (length left_read.keys) ≡ Some k
    → IsBranchScanned c old now (fork_at (tree_at Steps depth) room bytes) (Fork one two) left rest
fork_scanned c old left_read now sources depth room bytes after_left after_state rest one two middle left k first read second at =
    let mid : Scan = record { sources = sources; keys = left_read.keys; reader = left_read.reader; ends = left_read.ends } in
    let key = key_scanned c left_read sources k after_left after_state first.more.scan read in
    let until = twice_more c old left_read mid (tree_states first.tree) [] (ends_of (records_of first.tree)) [] first.more key in
    let whole = twice_more c old mid now (tree_states first.tree ++ []) (tree_states second.tree) (ends_of (records_of first.tree) ++ []) (ends_of (records_of second.tree)) until second.more in
    let a : tree_states (fork first.tree read.state second.tree) ≡ tree_states first.tree ++ tree_states second.tree = map-append (λ (r : Record). r.state) (records_of first.tree) (records_of second.tree) in
    let b : ends_of (records_of (fork first.tree read.state second.tree)) ≡ ends_of (records_of first.tree) ++ ends_of (records_of second.tree) = map-append (λ (r : Record). r.end) (records_of first.tree) (records_of second.tree) in
    record {
      tree = fork first.tree read.state second.tree;
      reads = rw (first.reads, read.reads, second.reads) refl;
      shape = (first.shape, second.shape);
      forks = (first.forks, second.forks, first_is c mid now (tree_states second.tree) (ends_of (records_of second.tree)) k read.state second.more read.key at);
      more = rw (a, b) (rw (append-nil (tree_states first.tree), append-nil (ends_of (records_of first.tree))) at whole);
    }

-- ---- whole certificates

pub whole_reads : (bytes rest : List ℕ) (b : Basis) (x : Three) → front_at bytes ≡ Ok (b, rest) → tree_at b.grain 64 4194304 rest ≡ Ok x → x.2 ≡ [] → certificate_at bytes ≡ Ok (b, x.0)
unfolding certificate_at
whole_reads bytes rest b x front tree nothing =
    ap (λ (r : Result (Basis × List ℕ) Fault). r >>= behind) front
    ∙ ap (λ (r : Branch). r >>= ended b) tree
    ∙ ap (λ (w : List ℕ). ended b (x.0, x.1, w)) nothing

pub certificate_scanned : (c : Client) (bytes rest : List ℕ) (t : Table) (s : Scanned) → front_at bytes ≡ Ok (by_steps t, rest) → IsScannedBehind c t rest s → IsScanned c bytes s
certificate_scanned c bytes rest t s front is = record {
  tree = is.tree;
  reads = whole_reads bytes rest (by_steps t) (is.tree, is.left, []) front is.reads refl ∙ ap (λ (x : Table). Ok (by_steps x, is.tree)) (sym is.table);
  scanned = is.scanned;
}

-- what holds of an answer, if there is one
pub if_ok_some : {X E : Type 0} (P Q : X → Type 0) (result : Result (Option X) E) → ((x : X) → P x → Q x) → IfOk result (λ o. IfSome o P) → IfOk result (λ o. IfSome o Q)
if_ok_some P Q (Ok (Some x)) f p = f x p
if_ok_some P Q (Ok None) f p = tt
if_ok_some P Q (Err e) f p = tt
