-- Records that are judged one by one, and the two halves of a fork.
use Rattle.std.proofs.Common.{◌≡◌, ◌∙◌, ℕ, zero, suc, ◌+◌, ◌<◌, ◌≤◌, ◌++◌, inl, inr, List, [], ◌∷◌, length, Option, None, Some, slice_get, refl, sym, ap, subst, arith, Result, Ok, Err, IfOk}
use Rattle.std.proofs.lemmas.Bool.{cases_lt}
use Rattle.std.proofs.lemmas.List.{length-append}
use Rattle.std.proofs.lemmas.Option.{same_Some, slice_get_within}
use Rattle.tso_check.proofs.RisingLemmas.{got_left, got_right}
use Rattle.tso_cert.specs.Trees.{Tree, leaf, fork, record_count, records_of}
use Rattle.tso_judge.specs.Valid.{AreValidRecords, IsValidRecord}
use Rattle.tso_check.specs.Verdicts.{AreJudged, IsFirstBadRecord}
use Rattle.tso_check.specs.declared.judging.Bad.{Bad}
use Rattle.tso_rec.specs.declared.basis.Basis.{Basis}
use Rattle.tso_foot.specs.Within.{IsWithin}
use Rattle.tso_rec.specs.Conditions.{AreMet, SuccessorsAreKept}
use Rattle.tso_judge.specs.Judging.{IsFirstFault}
use Rattle.tso_judge.specs.declared.code.Code.{Code}
use Rattle.tso_prog.specs.declared.client.Client.{Client}
use Rattle.tso_rec.specs.Records.{ends_of, states_of}
use Rattle.tso_rec.specs.declared.record.End.{End}
use Rattle.tso_rec.specs.declared.record.Record.{Record}
use Rattle.tso_state.specs.declared.state.State.{State}

-- a record is its state and its end
record_at : (rs : List Record) (k : ℕ) (s : State) (e : End) → slice_get (states_of rs) k ≡ Some s → slice_get (ends_of rs) k ≡ Some e → slice_get rs k ≡ Some (record { state = s; end = e })
record_at [] k s e at is = absurd (let lt = slice_get_within [] k s at in omega (arith, lt))
record_at (r ∷ rs) zero s e at is = let a = same_Some r.state s at in let b = same_Some r.end e is in λ i. Some (record { state = a i; end = b i })
record_at (r ∷ rs) (suc k) s e at is = record_at rs k s e at is

before_left : (xs ys : List Record) (k : ℕ) (r : Record) → k < length xs → slice_get (xs ++ ys) k ≡ Some r → slice_get xs k ≡ Some r
before_left [] ys k r lt at = absurd (omega (arith, lt))
before_left (x ∷ xs) ys zero r lt at = at
before_left (x ∷ xs) ys (suc k) r lt at = before_left xs ys k r (omega (arith, lt)) at

behind_left : (xs ys : List Record) (k : ℕ) (r : Record) → length xs ≤ k → slice_get (xs ++ ys) k ≡ Some r → (n : ℕ) × (k ≡ length xs + n) × (slice_get ys n ≡ Some r)
behind_left [] ys k r le at = (k, omega arith, at)
behind_left (x ∷ xs) ys zero r le at = absurd (omega (arith, le))
behind_left (x ∷ xs) ys (suc k) r le at = let (n, e, there) = behind_left xs ys k r (omega (arith, le)) at in (n, omega (arith, e), there)

module _ (c : Client) (t : Basis) (states : List State) where
  -- the records before this number are valid
  abbrev pub AreValidTo : List Record → ℕ → Type 0
  AreValidTo records n = (k : ℕ) (r : Record) → k < n → slice_get records k ≡ Some r → IsValidRecord c t states r

  pub valid_one_more : (records : List Record) (n : ℕ) (s : State) (e : End) → AreValidTo records n → slice_get (states_of records) n ≡ Some s → slice_get (ends_of records) n ≡ Some e
      → AreMet c t (SuccessorsAreKept c t states s e) (IsWithin t.table s) s e → AreValidTo records (n + 1)
  valid_one_more records n s e valid at is met k r lt there = elim (cases_lt k n) [
    | inl less ↦ valid k r less there
    | inr ge ↦
        let same : n ≡ k = omega (arith, lt, ge) in
        subst (IsValidRecord c t states) (same_Some (record { state = s; end = e }) r (sym (record_at records n s e at is) ∙ ap (slice_get records) same ∙ there)) met
  ]

  pub valid_all : (records : List Record) (n : ℕ) → length records ≤ n → AreValidTo records n → AreValidRecords c t states records
  valid_all records n le valid k r at = let lt = slice_get_within records k r at in valid k r (omega (arith, lt, le)) at

  pub first_bad : (records : List Record) (n : ℕ) (s : State) (e : End) (code : Code) → AreValidTo records n → slice_get (states_of records) n ≡ Some s → slice_get (ends_of records) n ≡ Some e
      → IsFirstFault c t (SuccessorsAreKept c t states s e) (IsWithin t.table s) s e code → IsFirstBadRecord c t states records n code
  first_bad records n s e code valid at is fault = record { bad = record { state = s; end = e }; at = record_at records n s e at is; before = valid; fault = fault }

  pub both_valid : (left right : List Record) → AreValidRecords c t states left → AreValidRecords c t states right → AreValidRecords c t states (left ++ right)
  both_valid left right a b k r at = elim (cases_lt k (length left)) [
    | inl less ↦ a k r (before_left left right k r less at)
    | inr ge ↦ let (n, e, there) = behind_left left right k r ge at in b n r there
  ]

  pub bad_left : (left right : List Record) (start : ℕ) (bad : Bad) → AreJudged c t states left start (Some bad) → AreJudged c t states (left ++ right) start (Some bad)
  bad_left left right start bad (k, e, f) = (
    k,
    e,
    record {
      bad = f.bad;
      at = got_left left right k f.bad f.at;
      before = λ n r lt there. let within = slice_get_within left k f.bad f.at in f.before n r lt (before_left left right n r (omega (arith, lt, within)) there);
      fault = f.fault;
    },
  )

  pub bad_right : (left right : List Record) (start : ℕ) (bad : Bad) → AreValidRecords c t states left → AreJudged c t states right (start + length left) (Some bad)
      → AreJudged c t states (left ++ right) start (Some bad)
  bad_right left right start bad valid (k, e, f) = (
    length left + k,
    omega (arith, e),
    record {
      bad = f.bad;
      at = got_right left right k ∙ f.at;
      before = λ n r lt there. elim (cases_lt n (length left)) [
        | inl less ↦ valid n r (before_left left right n r less there)
        | inr ge ↦ let (m, same, at) = behind_left left right n r ge there in f.before m r (omega (arith, lt, same)) at
      ];
      fault = f.fault;
    },
  )

-- ---- trees

pub count_is : (t : Tree) → length (records_of t) ≡ record_count t
count_is (leaf rs) = refl
count_is (fork l m r) = let long = length-append (records_of l) (records_of r) in let a = count_is l in let b = count_is r in omega (arith, long, a, b)

module _ (c : Client) (t : Basis) (states : List State) (l r : Tree) (start : ℕ) where
  -- the right half, where the left one is valid
  pub judged_right : (n : ℕ) (found : Option Bad) → n ≡ record_count l → AreValidRecords c t states (records_of l) → AreJudged c t states (records_of r) (start + n) found
      → AreJudged c t states (records_of l ++ records_of r) start found
  judged_right n None count valid judged = both_valid c t states (records_of l) (records_of r) valid judged
  judged_right n (Some bad) count valid judged =
      let long = count_is l in
      let same : start + n ≡ start + length (records_of l) = omega (arith, count, long) in
      bad_right c t states (records_of l) (records_of r) start bad valid (subst (λ k. AreJudged c t states (records_of r) k (Some bad)) same judged)

-- what holds of an answer
pub if_ok : {X E : Type 0} (P Q : X → Type 0) (result : Result X E) → ((x : X) → P x → Q x) → IfOk result P → IfOk result Q
if_ok P Q (Ok x) f p = f x p
if_ok P Q (Err e) f p = tt
