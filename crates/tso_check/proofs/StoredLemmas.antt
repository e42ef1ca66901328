-- Certificates in a store.
use Rattle.std.proofs.Common.{◌≡◌, ◌∙◌, ℕ, zero, suc, ◌+◌, ◌<◌, ◌≤◌, inl, inr, List, [], ◌∷◌, length, Option, None, Some, slice_get, refl, sym, ap, subst, arith}
use Rattle.std.proofs.lemmas.Bool.{cases_lt}
use Rattle.std.proofs.lemmas.List.{length-map}
use Rattle.std.proofs.lemmas.Option.{same_Some, slice_get_within}
use Rattle.tso_cert.proofs.TreeCode.{certificate_take}
use Rattle.tso_cert.specs.Lookup.{IsOrdered}
use Rattle.tso_state.specs.Rising.{IsRising}
use Rattle.tso_cert.specs.Trees.{Tree, leaf, fork, record_count, records_of}
use Rattle.tso_check.proofs.NumberedLemmas.{at_place}
use Rattle.tso_check.proofs.RisingLemmas.{begins_split}
use Rattle.tso_check.proofs.VerdictLemmas.{whole}
use Rattle.tso_check.proofs.WalkLemmas.{count_is}
use Rattle.tso_check.specs.Numbered.{IsJudgedAt}
use Rattle.tso_check.specs.Spans.{AreValidBetween, IsSpanJudged, IsStored, IsVerdictOn, IsWhole, records_with, stored_span, whole_span}
use Rattle.tso_check.specs.Verdicts.{IsTreeFault, IsVerdict, no_initial, not_closed}
use Rattle.tso_check.specs.declared.judging.Bad.{Bad}
use Rattle.tso_check.specs.declared.verdict.Verdict.{Verdict}
use Rattle.tso_foot.specs.Closed.{IsClosed}
use Rattle.tso_foot.specs.Within.{IsWithin}
use Rattle.tso_rec.specs.Conditions.{AreMet, SuccessorsAreKept}
use Rattle.tso_judge.specs.Judging.{IsFirstFault}
use Rattle.tso_judge.specs.Valid.{ContainsInitial}
use Rattle.tso_judge.specs.declared.code.Code.{Code}
use Rattle.tso_judge.specs.declared.code.Code.TheVariants as faults
use Rattle.tso_prog.specs.declared.client.Client.{Client}
use Rattle.tso_rec.specs.Bases.{by_steps}
use Rattle.tso_rec.specs.Records.{ends_of, states_of}
use Rattle.tso_rec.specs.declared.record.End.{End}
use Rattle.tso_rec.specs.declared.record.Record.{Record}
use Rattle.tso_scan.specs.Scanned.{IsScanned, IsScannedTree, IsShapeOf, shape_count}
use Rattle.tso_scan.specs.declared.scanned.Scanned.{Scanned}
use Rattle.tso_scan.specs.declared.shape.Shape.{Shape, Leaf, Fork'}
use Rattle.tso_state.specs.declared.state.State.{State}

-- ---- states with their ends

states_with : (ss : List State) (es : List End) → length ss ≡ length es → states_of (records_with ss es) ≡ ss
states_with [] es e = refl
states_with (s ∷ ss) [] e = absurd (omega (arith, e))
states_with (s ∷ ss) (d ∷ es) e = ap (λ (l : List State). s ∷ l) (states_with ss es (omega (arith, e)))

-- a tree's records are its states with their ends
tree_with : (rs : List Record) → records_with (states_of rs) (ends_of rs) ≡ rs
tree_with [] = refl
tree_with (r ∷ rs) = ap (λ (l : List Record). r ∷ l) (tree_with rs)

its_parts : (ss : List State) (es : List End) (k : ℕ) (r : Record) → length ss ≡ length es → slice_get (records_with ss es) k ≡ Some r → (slice_get ss k ≡ Some r.state) × (slice_get es k ≡ Some r.end)
its_parts [] es k r e at = absurd (let h : None ≡ Some r = at in cc)
its_parts (s ∷ ss) [] k r e at = absurd (omega (arith, e))
its_parts (s ∷ ss) (d ∷ es) zero r e at = let same = same_Some (record { state = s; end = d }) r at in (λ i. Some (same i).state, λ i. Some (same i).end)
its_parts (s ∷ ss) (d ∷ es) (suc k) r e at = its_parts ss es k r (omega (arith, e)) at

of_parts : (ss : List State) (es : List End) (k : ℕ) (s : State) (d : End) → slice_get ss k ≡ Some s → slice_get es k ≡ Some d → slice_get (records_with ss es) k ≡ Some (record { state = s; end = d })
of_parts [] es k s d a b = absurd (let h : None ≡ Some s = a in cc)
of_parts (x ∷ ss) [] k s d a b = absurd (let h : None ≡ Some d = b in cc)
of_parts (x ∷ ss) (y ∷ es) zero s d a b = let one = same_Some x s a in let two = same_Some y d b in λ i. Some (record { state = one i; end = two i })
of_parts (x ∷ ss) (y ∷ es) (suc k) s d a b = of_parts ss es k s d a b

beyond : {X : Type 0} (xs : List X) (n : ℕ) → slice_get xs n ≡ None → length xs ≤ n
beyond [] n e = omega arith
beyond (x ∷ xs) zero e = absurd (let h : Some x ≡ None = e in cc)
beyond (x ∷ xs) (suc n) e = let le = beyond xs n e in omega (arith, le)

-- ---- records by their numbers

module _ (c : Client) (s : Scanned) (stored : IsStored c s) where
  pub none_valid : (from : ℕ) → AreValidBetween c (by_steps s.table) (records_with s.store.states s.ends) from from
  none_valid from k r begins ends at = absurd (omega (arith, begins, ends))

  pub number_valid : (from n : ℕ) (e : End) → Some e ≡ slice_get s.ends n → AreValidBetween c (by_steps s.table) (records_with s.store.states s.ends) from n → IsJudgedAt c s.table s.store.states n e None
      → AreValidBetween c (by_steps s.table) (records_with s.store.states s.ends) from (n + 1)
  number_valid from n e there valid judged k r begins ends at = elim (cases_lt k n) [
    | inl less ↦ valid k r begins less at
    | inr ge ↦
        let same : n ≡ k = omega (arith, ends, ge) in
        let parts = its_parts s.store.states s.ends k r stored.long at in
        let met = judged r.state (ap (slice_get s.store.states) same ∙ parts.0) in
        let its_end : e ≡ r.end = same_Some e r.end (there ∙ ap (slice_get s.ends) same ∙ parts.1) in
        let here : AreMet c (by_steps s.table) (SuccessorsAreKept c (by_steps s.table) s.store.states r.state r.end) (IsWithin s.table r.state) r.state r.end = subst (λ (d : End). AreMet c (by_steps s.table) (SuccessorsAreKept c (by_steps s.table) s.store.states r.state d) (IsWithin s.table r.state) r.state d) its_end met in
        subst (λ (l : List State). AreMet c (by_steps s.table) (SuccessorsAreKept c (by_steps s.table) l r.state r.end) (IsWithin s.table r.state) r.state r.end) (sym (states_with s.store.states s.ends stored.long)) here
  ]

  pub number_bad : (from to n : ℕ) (e : End) (code : Code) → from ≤ n → n < to → Some e ≡ slice_get s.ends n → AreValidBetween c (by_steps s.table) (records_with s.store.states s.ends) from n → IsJudgedAt c s.table s.store.states n e (Some code)
      → IsSpanJudged (stored_span c s from to) (Some (record { place = n; code = code }))
  number_bad from to n e code begins ends there valid judged =
      let lt = slice_get_within s.ends n e (sym there) in
      let long = stored.long in
      let (x, at) = at_place s.store.states n (omega (arith, lt, long)) in
      let fault = judged x at in
      record {
        begins = begins;
        ends = ends;
        found = record { state = x; end = e };
        at = of_parts s.store.states s.ends n x e at (sym there);
        before = valid;
        fault = subst (λ (l : List State). IsFirstFault c (by_steps s.table) (SuccessorsAreKept c (by_steps s.table) l x e) (IsWithin s.table x) x e code) (sym (states_with s.store.states s.ends long)) fault;
      }

  pub none_left : (from to n : ℕ) → None ≡ slice_get s.ends n → AreValidBetween c (by_steps s.table) (records_with s.store.states s.ends) from n → AreValidBetween c (by_steps s.table) (records_with s.store.states s.ends) from to
  none_left from to n none valid k r begins ends at =
      let parts = its_parts s.store.states s.ends k r stored.long at in
      let lt = slice_get_within s.ends k r.end parts.1 in
      let le = beyond s.ends n (sym none) in
      valid k r begins (omega (arith, lt, le)) at

  pub valid_up_to : (from to n : ℕ) → to ≤ n → AreValidBetween c (by_steps s.table) (records_with s.store.states s.ends) from n → AreValidBetween c (by_steps s.table) (records_with s.store.states s.ends) from to
  valid_up_to from to n le valid k r begins ends at = valid k r begins (omega (arith, le, ends)) at

-- ---- what was read

pub shape_counts : (sh : Shape) (t : Tree) → IsShapeOf sh t → shape_count sh ≡ record_count t
shape_counts (Leaf n) (leaf rs) is = is
shape_counts (Leaf n) (fork l m r) is = absurd is
shape_counts (Fork' p one q two) (leaf rs) is = absurd is
shape_counts (Fork' p one q two) (fork l m r) is = let a = shape_counts one l is.0 in let b = shape_counts two r is.1 in omega (arith, a, b)

pub stored_of : (c : Client) (bytes : List ℕ) (s : Scanned) → IsScanned c bytes s → IsStored c s
stored_of c bytes s is =
    let found = certificate_take bytes (by_steps s.table, is.tree) is.reads in
    let states : length s.store.states ≡ length (records_of is.tree) = ap length is.scanned.states ∙ length-map (records_of is.tree) (λ (r : Record). r.state) in
    let ends : length s.ends ≡ length (records_of is.tree) = ap length is.scanned.ends ∙ length-map (records_of is.tree) (λ (r : Record). r.end) in
    let count = count_is is.tree in
    let few = found.1.1 in
    record {
      client = is.scanned.client;
      long = states ∙ sym ends;
      count = shape_counts s.shape is.tree is.scanned.shape ∙ sym count ∙ sym ends;
      few = omega (arith, states, count, few);
      rising = is.scanned.rising;
    }

-- the verdict on what was read is that on the bytes
pub stored_verdict : (c : Client) (bytes : List ℕ) (s : Scanned) (v : Verdict) → IsScanned c bytes s → IsVerdictOn c s v → IsVerdict c bytes v
stored_verdict c bytes s v is on = let found = certificate_take bytes (by_steps s.table, is.tree) is.reads in whole c bytes (by_steps s.table) is.tree found.0 found.1 v (on is.tree is.scanned)

-- the records of the tree are those with these numbers
pub stored_whole : (c : Client) (s : Scanned) (tree : Tree) (to : ℕ) (found : Option Bad) → IsScannedTree c tree s → to ≡ shape_count s.shape → IsSpanJudged (stored_span c s 0 to) found → IsSpanJudged (whole_span c (by_steps s.table) tree) found
stored_whole c s tree to found is count judged =
    let records : records_with s.store.states s.ends ≡ records_of tree = (λ i. records_with (is.states i) (is.ends i)) ∙ tree_with (records_of tree) in
    let many : to ≡ record_count tree = count ∙ shape_counts s.shape tree is.shape in
    subst (λ (n : ℕ). IsSpanJudged (record { client = c; basis = by_steps s.table; records = records_of tree; from = 0; to = n }) found) many
    (subst (λ (l : List Record). IsSpanJudged (record { client = c; basis = by_steps s.table; records = l; from = 0; to = to }) found) records judged)

-- ---- the conditions of the tree and the table as wholes

ordered_of : (c : Client) (s : Scanned) (tree : Tree) → IsScannedTree c tree s → IsRising s.store.states → IsOrdered tree
ordered_of c s tree is rising = let r = subst IsRising is.states rising in (r, begins_split tree r is.forks)

module _ (c : Client) (s : Scanned) (rising : IsRising s.store.states) where
  pub initial_missing : IsClosed c s.table → (ContainsInitial c s.store.states → ⊥) → (tree : Tree) → IsScannedTree c tree s → IsTreeFault c (by_steps s.table) tree faults.K09 None
  initial_missing closed fails tree is = no_initial (ordered_of c s tree is rising) closed (λ h. fails (subst (ContainsInitial c) (sym is.states) h))

  pub table_not_closed : (IsClosed c s.table → ⊥) → (tree : Tree) → IsScannedTree c tree s → IsTreeFault c (by_steps s.table) tree faults.K04 None
  table_not_closed fails tree is = not_closed (ordered_of c s tree is rising) fails

  pub all_whole : IsClosed c s.table → ContainsInitial c s.store.states → (tree : Tree) → IsScannedTree c tree s → IsWhole c (by_steps s.table) tree
  all_whole closed initial tree is = record { ordered = ordered_of c s tree is rising; closed = closed; initial = subst (ContainsInitial c) is.states initial }
