-- A certificate has one verdict.
use Rattle.std.proofs.Common.{◌≡◌, ◌∙◌, ℕ, inl, inr, List, Option, Some, slice_get, refl, sym, ap, subst, arith}
use Rattle.std.proofs.lemmas.Bool.{cases_lt}
use Rattle.std.proofs.lemmas.Option.{same_Some}
use Rattle.tso_cert.proofs.Uniqueness.{unique}
use Rattle.tso_cert.specs.Lookup.{tree_states}
use Rattle.tso_cert.specs.Trees.{Tree, records_of}
use Rattle.tso_judge.specs.Valid.{IsValidCertificate, IsValidTree}
use Rattle.tso_check.specs.Verdicts.{IsFault, IsFirstBadRecord, IsTreeFault, IsVerdict, no_certificate, no_initial, not_closed, not_ordered, of_record, of_tree, past_limit}
use Rattle.tso_check.specs.declared.verdict.Verdict.{Verdict}
use Rattle.tso_check.specs.declared.verdict.Verdict.TheVariants.{Accepted, Rejected}
use Rattle.tso_rec.specs.declared.basis.Basis.{Basis}
use Rattle.tso_foot.specs.Within.{IsWithin}
use Rattle.tso_judge.proofs.OneFault.{not_both, one_fault}
use Rattle.tso_rec.specs.Conditions.{SuccessorsAreKept}
use Rattle.tso_judge.specs.Judging.{IsFirstFault}
use Rattle.tso_judge.specs.declared.code.Code.{Code}
use Rattle.tso_prog.specs.declared.client.Client.{Client}
use Rattle.tso_rec.specs.declared.record.Record.{Record}
use Rattle.tso_state.specs.declared.state.State.{State}

-- ---- records

module _ (c : Client) (t : Basis) (states : List State) (records : List Record) where
  one_bad : (m n : ℕ) (j k : Code) → IsFirstBadRecord c t states records m j → IsFirstBadRecord c t states records n k → (m ≡ n) × (j ≡ k)
  one_bad m n j k f g = elim (cases_lt m n) [
    | inl less ↦ absurd (not_both c t (SuccessorsAreKept c t states f.bad.state f.bad.end) (IsWithin t.table f.bad.state) f.bad.state f.bad.end j (g.before m f.bad less f.at) f.fault)
    | inr ge ↦ elim (cases_lt n m) [
      | inl more ↦ absurd (not_both c t (SuccessorsAreKept c t states g.bad.state g.bad.end) (IsWithin t.table g.bad.state) g.bad.state g.bad.end k (f.before n g.bad more g.at) g.fault)
      | inr le ↦
          let same : m ≡ n = omega (arith, ge, le) in
          let bad : f.bad ≡ g.bad = same_Some f.bad g.bad (sym f.at ∙ ap (slice_get records) same ∙ g.at) in
          let there : IsFirstFault c t (SuccessorsAreKept c t states g.bad.state g.bad.end) (IsWithin t.table g.bad.state) g.bad.state g.bad.end j =
          subst (λ (r : Record). IsFirstFault c t (SuccessorsAreKept c t states r.state r.end) (IsWithin t.table r.state) r.state r.end j) bad f.fault in
          (same, one_fault c t (SuccessorsAreKept c t states g.bad.state g.bad.end) (IsWithin t.table g.bad.state) g.bad.state g.bad.end j k there g.fault)
    ]
  ]

-- ---- trees

module _ (c : Client) (t : Basis) (tree : Tree) where
  no_tree_fault : (code : Code) (place : Option ℕ) → IsValidTree c t tree → IsTreeFault c t tree code place → ⊥
  no_tree_fault code place v (not_ordered fails) = fails v.ordered
  no_tree_fault code place v (not_closed o fails) = fails v.closed
  no_tree_fault code place v (no_initial o d fails) = fails v.initial
  no_tree_fault code place v (of_record code' n o d i f) =
      not_both c t (SuccessorsAreKept c t (tree_states tree) f.bad.state f.bad.end) (IsWithin t.table f.bad.state) f.bad.state f.bad.end code' (v.records n f.bad f.at) f.fault

  one_tree_fault : (j k : Code) (m n : Option ℕ) → IsTreeFault c t tree j m → IsTreeFault c t tree k n → Rejected j m ≡ Rejected k n
  one_tree_fault j k m n (not_ordered fails1) (not_ordered fails2) = refl
  one_tree_fault j k m n (not_ordered fails1) (not_closed o2 fails2) = absurd (fails1 o2)
  one_tree_fault j k m n (not_ordered fails1) (no_initial o2 d2 fails2) = absurd (fails1 o2)
  one_tree_fault j k m n (not_ordered fails1) (of_record code2 q2 o2 d2 i2 f2) = absurd (fails1 o2)
  one_tree_fault j k m n (not_closed o1 fails1) (not_ordered fails2) = absurd (fails2 o1)
  one_tree_fault j k m n (not_closed o1 fails1) (not_closed o2 fails2) = refl
  one_tree_fault j k m n (not_closed o1 fails1) (no_initial o2 d2 fails2) = absurd (fails1 d2)
  one_tree_fault j k m n (not_closed o1 fails1) (of_record code2 q2 o2 d2 i2 f2) = absurd (fails1 d2)
  one_tree_fault j k m n (no_initial o1 d1 fails1) (not_ordered fails2) = absurd (fails2 o1)
  one_tree_fault j k m n (no_initial o1 d1 fails1) (not_closed o2 fails2) = absurd (fails2 d1)
  one_tree_fault j k m n (no_initial o1 d1 fails1) (no_initial o2 d2 fails2) = refl
  one_tree_fault j k m n (no_initial o1 d1 fails1) (of_record code2 q2 o2 d2 i2 f2) = absurd (fails1 i2)
  one_tree_fault j k m n (of_record code1 q1 o1 d1 i1 f1) (not_ordered fails2) = absurd (fails2 o1)
  one_tree_fault j k m n (of_record code1 q1 o1 d1 i1 f1) (not_closed o2 fails2) = absurd (fails2 d1)
  one_tree_fault j k m n (of_record code1 q1 o1 d1 i1 f1) (no_initial o2 d2 fails2) = absurd (fails2 i1)
  one_tree_fault j k m n (of_record code1 q1 o1 d1 i1 f1) (of_record code2 q2 o2 d2 i2 f2) = let same = one_bad c t (tree_states tree) (records_of tree) q1 q2 code1 code2 f1 f2 in λ x. Rejected (same.1 x) (Some (same.0 x))

-- ---- verdicts

no_fault : (c : Client) (bytes : List ℕ) (code : Code) (place : Option ℕ) → IsValidCertificate c bytes → IsFault c bytes code place → ⊥
no_fault c bytes code place v (no_certificate fails) = fails.0 v.basis v.tree v.spelled v.within
no_fault c bytes code place v (past_limit p) = unique.not_both bytes v.basis v.tree v.spelled v.within p
no_fault c bytes code place v (of_tree code' place' t tree spelled within f) =
    let (table, same) = unique.one_value bytes v.basis t v.tree tree v.spelled v.within spelled within in
    no_tree_fault c t tree code' place' (subst (λ u. IsValidTree c u tree) table (subst (λ x. IsValidTree c v.basis x) same v.valid)) f

one_rejection : (c : Client) (bytes : List ℕ) (j k : Code) (m n : Option ℕ) → IsFault c bytes j m → IsFault c bytes k n → Rejected j m ≡ Rejected k n
one_rejection c bytes j k m n (no_certificate fails) (no_certificate other) = refl
one_rejection c bytes j k m n (no_certificate fails) (past_limit p) = absurd (fails.1 p)
one_rejection c bytes j k m n (no_certificate fails) (of_tree code place t tree spelled within f) = absurd (fails.0 t tree spelled within)
one_rejection c bytes j k m n (past_limit p) (no_certificate fails) = absurd (fails.1 p)
one_rejection c bytes j k m n (past_limit p) (past_limit q) = refl
one_rejection c bytes j k m n (past_limit p) (of_tree code place t tree spelled within f) = absurd (unique.not_both bytes t tree spelled within p)
one_rejection c bytes j k m n (of_tree code place t tree spelled within f) (no_certificate fails) = absurd (fails.0 t tree spelled within)
one_rejection c bytes j k m n (of_tree code place t tree spelled within f) (past_limit p) = absurd (unique.not_both bytes t tree spelled within p)
one_rejection c bytes j k m n (of_tree code1 place1 t1 tree1 spelled1 within1 f1) (of_tree code2 place2 t2 tree2 spelled2 within2 f2) =
    let (table, same) = unique.one_value bytes t1 t2 tree1 tree2 spelled1 within1 spelled2 within2 in
    one_tree_fault c t2 tree2 code1 code2 place1 place2 (subst (λ u. IsTreeFault c u tree2 code1 place1) table (subst (λ x. IsTreeFault c t1 x code1 place1) same f1)) f2

pub one_verdict : (c : Client) (bytes : List ℕ) (v w : Verdict) → IsVerdict c bytes v → IsVerdict c bytes w → v ≡ w
one_verdict c bytes Accepted Accepted f g = refl
one_verdict c bytes Accepted (Rejected k n) f g = absurd (no_fault c bytes k n f g)
one_verdict c bytes (Rejected j m) Accepted f g = absurd (no_fault c bytes j m g f)
one_verdict c bytes (Rejected j m) (Rejected k n) f g = one_rejection c bytes j k m n f g
