-- What comes before a condition that fails, and what is left when all others hold.
use Rattle.std.proofs.Common.{ℕ, ◌<◌, List, None, Some, arith}
use Rattle.tso_foot.specs.Within.{IsWithin}
use Rattle.tso_judge.specs.Codes.{code_number}
use Rattle.tso_rec.specs.Conditions.{EndFits, HaveReasons, IsExplained, IsUnstopped, SuccessorsAreKept}
use Rattle.tso_judge.specs.Judging.{IsFirstFault, IsJudgedAlone, IsJudgedAmong, Meets}
use Rattle.tso_judge.specs.declared.code.Code.{Code}
use Rattle.tso_judge.specs.declared.code.Code.TheVariants as faults
use Rattle.tso_prog.specs.declared.client.Client.{Client}
use Rattle.tso_rec.specs.declared.basis.Basis.{Basis}
use Rattle.tso_rec.specs.declared.record.End.{End}
use Rattle.tso_rec.specs.declared.record.End.TheVariants.{Choices, Order}
use Rattle.tso_state.specs.WellFormed.{IsWellFormed}
use Rattle.tso_state.specs.declared.state.State.{State}

-- the conditions with codes below n hold
record AreMetBelow (c : Client) (t : Basis) (Kept Within : Type 0) (s : State) (e : End) (n : ℕ) : Type 0 where
  well_formed : 5 < n → IsWellFormed c s
  fits : 6 < n → EndFits c t s e
  reasons : 7 < n → HaveReasons c t s e
  successors : 8 < n → Kept
  unstopped : 10 < n → IsUnstopped s e
  explained : 11 < n → IsExplained c s e
  within : 12 < n → Within

met_below : (c : Client) (t : Basis) (Kept Within : Type 0) (s : State) (e : End) (n : ℕ) → AreMetBelow c t Kept Within s e n → (k : Code) → code_number k < n → Meets c t Kept Within s e k
met_below c t Kept Within s e n m faults.K01 lt = tt
met_below c t Kept Within s e n m faults.K02 lt = tt
met_below c t Kept Within s e n m faults.K03 lt = tt
met_below c t Kept Within s e n m faults.K04 lt = tt
met_below c t Kept Within s e n m faults.K05 lt = m.well_formed lt
met_below c t Kept Within s e n m faults.K06 lt = m.fits lt
met_below c t Kept Within s e n m faults.K07 lt = m.reasons lt
met_below c t Kept Within s e n m faults.K08 lt = m.successors lt
met_below c t Kept Within s e n m faults.K09 lt = tt
met_below c t Kept Within s e n m faults.K10 lt = m.unstopped lt
met_below c t Kept Within s e n m faults.K11 lt = m.explained lt
met_below c t Kept Within s e n m faults.K12 lt = m.within lt

module _ (c : Client) (t : Basis) (Kept Within : Type 0) (s : State) (e : End) where
  pub not_well_formed : (IsWellFormed c s → ⊥) → IsFirstFault c t Kept Within s e faults.K05
  not_well_formed fails = record {
    before = met_below c t Kept Within s e 5 (record { well_formed = λ lt. absurd (omega (arith, lt)); fits = λ lt. absurd (omega (arith, lt)); reasons = λ lt. absurd (omega (arith, lt)); successors = λ lt. absurd (omega (arith, lt)); unstopped = λ lt. absurd (omega (arith, lt)); explained = λ lt. absurd (omega (arith, lt)); within = λ lt. absurd (omega (arith, lt)) });
    broken = fails;
  }

  pub no_fitting_end : IsWellFormed c s → (EndFits c t s e → ⊥) → IsFirstFault c t Kept Within s e faults.K06
  no_fitting_end has_well_formed fails = record {
    before = met_below c t Kept Within s e 6 (record { well_formed = λ lt. has_well_formed; fits = λ lt. absurd (omega (arith, lt)); reasons = λ lt. absurd (omega (arith, lt)); successors = λ lt. absurd (omega (arith, lt)); unstopped = λ lt. absurd (omega (arith, lt)); explained = λ lt. absurd (omega (arith, lt)); within = λ lt. absurd (omega (arith, lt)) });
    broken = fails;
  }

  pub no_reasons : IsWellFormed c s → EndFits c t s e → (HaveReasons c t s e → ⊥) → IsFirstFault c t Kept Within s e faults.K07
  no_reasons has_well_formed has_fits fails = record {
    before = met_below c t Kept Within s e 7 (record { well_formed = λ lt. has_well_formed; fits = λ lt. has_fits; reasons = λ lt. absurd (omega (arith, lt)); successors = λ lt. absurd (omega (arith, lt)); unstopped = λ lt. absurd (omega (arith, lt)); explained = λ lt. absurd (omega (arith, lt)); within = λ lt. absurd (omega (arith, lt)) });
    broken = fails;
  }

  pub no_successors : IsWellFormed c s → EndFits c t s e → HaveReasons c t s e → (Kept → ⊥) → IsFirstFault c t Kept Within s e faults.K08
  no_successors has_well_formed has_fits has_reasons fails = record {
    before = met_below c t Kept Within s e 8 (record { well_formed = λ lt. has_well_formed; fits = λ lt. has_fits; reasons = λ lt. has_reasons; successors = λ lt. absurd (omega (arith, lt)); unstopped = λ lt. absurd (omega (arith, lt)); explained = λ lt. absurd (omega (arith, lt)); within = λ lt. absurd (omega (arith, lt)) });
    broken = fails;
  }

  pub a_stopped_thread : IsWellFormed c s → EndFits c t s e → HaveReasons c t s e → Kept → (IsUnstopped s e → ⊥) → IsFirstFault c t Kept Within s e faults.K10
  a_stopped_thread has_well_formed has_fits has_reasons has_successors fails = record {
    before = met_below c t Kept Within s e 10 (record { well_formed = λ lt. has_well_formed; fits = λ lt. has_fits; reasons = λ lt. has_reasons; successors = λ lt. has_successors; unstopped = λ lt. absurd (omega (arith, lt)); explained = λ lt. absurd (omega (arith, lt)); within = λ lt. absurd (omega (arith, lt)) });
    broken = fails;
  }

  pub no_explanation : IsWellFormed c s → EndFits c t s e → HaveReasons c t s e → Kept → IsUnstopped s e → (IsExplained c s e → ⊥) → IsFirstFault c t Kept Within s e faults.K11
  no_explanation has_well_formed has_fits has_reasons has_successors has_unstopped fails = record {
    before = met_below c t Kept Within s e 11 (record { well_formed = λ lt. has_well_formed; fits = λ lt. has_fits; reasons = λ lt. has_reasons; successors = λ lt. has_successors; unstopped = λ lt. has_unstopped; explained = λ lt. absurd (omega (arith, lt)); within = λ lt. absurd (omega (arith, lt)) });
    broken = fails;
  }

  pub outside : IsWellFormed c s → EndFits c t s e → HaveReasons c t s e → Kept → IsUnstopped s e → IsExplained c s e → (Within → ⊥) → IsFirstFault c t Kept Within s e faults.K12
  outside has_well_formed has_fits has_reasons has_successors has_unstopped has_explained fails = record {
    before = met_below c t Kept Within s e 12 (record { well_formed = λ lt. has_well_formed; fits = λ lt. has_fits; reasons = λ lt. has_reasons; successors = λ lt. has_successors; unstopped = λ lt. has_unstopped; explained = λ lt. has_explained; within = λ lt. absurd (omega (arith, lt)) });
    broken = fails;
  }

-- ---- what is left to look at

-- a failure of a later condition is one of an order, which has fails successors
kept_by : (c : Client) (t : Basis) (states : List State) (s : State) (e : End) (code : Code) → (Meets c t (Unit {0}) (Unit {0}) s e code → ⊥) → 8 < code_number code → SuccessorsAreKept c t states s e
kept_by c t states s (Order order) code fails lt = tt
kept_by c t states s (Choices choices) faults.K01 fails lt = absurd (omega (arith, lt))
kept_by c t states s (Choices choices) faults.K02 fails lt = absurd (omega (arith, lt))
kept_by c t states s (Choices choices) faults.K03 fails lt = absurd (omega (arith, lt))
kept_by c t states s (Choices choices) faults.K04 fails lt = absurd (omega (arith, lt))
kept_by c t states s (Choices choices) faults.K05 fails lt = absurd (omega (arith, lt))
kept_by c t states s (Choices choices) faults.K06 fails lt = absurd (omega (arith, lt))
kept_by c t states s (Choices choices) faults.K07 fails lt = absurd (omega (arith, lt))
kept_by c t states s (Choices choices) faults.K08 fails lt = absurd (omega (arith, lt))
kept_by c t states s (Choices choices) faults.K09 fails lt = absurd (fails tt)
kept_by c t states s (Choices choices) faults.K10 fails lt = absurd (fails tt)
kept_by c t states s (Choices choices) faults.K11 fails lt = absurd (fails tt)
kept_by c t states s (Choices choices) faults.K12 fails lt = absurd (fails tt)

broken_too : (c : Client) (t : Basis) (Kept Within : Type 0) (s : State) (e : End) (code : Code) → (Meets c t (Unit {0}) (Unit {0}) s e code → ⊥) → Meets c t Kept Within s e code → ⊥
broken_too c t Kept Within s e faults.K01 fails = fails
broken_too c t Kept Within s e faults.K02 fails = fails
broken_too c t Kept Within s e faults.K03 fails = fails
broken_too c t Kept Within s e faults.K04 fails = fails
broken_too c t Kept Within s e faults.K05 fails = fails
broken_too c t Kept Within s e faults.K06 fails = fails
broken_too c t Kept Within s e faults.K07 fails = fails
broken_too c t Kept Within s e faults.K08 fails = absurd (fails tt)
broken_too c t Kept Within s e faults.K09 fails = fails
broken_too c t Kept Within s e faults.K10 fails = fails
broken_too c t Kept Within s e faults.K11 fails = fails
broken_too c t Kept Within s e faults.K12 fails = absurd (fails tt)

-- no code has a number past 12
last_code : (code : Code) → 12 < code_number code → ⊥
last_code faults.K01 lt = omega (arith, lt)
last_code faults.K02 lt = omega (arith, lt)
last_code faults.K03 lt = omega (arith, lt)
last_code faults.K04 lt = omega (arith, lt)
last_code faults.K05 lt = omega (arith, lt)
last_code faults.K06 lt = omega (arith, lt)
last_code faults.K07 lt = omega (arith, lt)
last_code faults.K08 lt = omega (arith, lt)
last_code faults.K09 lt = omega (arith, lt)
last_code faults.K10 lt = omega (arith, lt)
last_code faults.K11 lt = omega (arith, lt)
last_code faults.K12 lt = omega (arith, lt)

before_too : (c : Client) (t : Basis) (states : List State) (s : State) (e : End) (code : Code) → IsFirstFault c t (Unit {0}) (Unit {0}) s e code → (k : Code) → code_number k < code_number code
    → Meets c t (SuccessorsAreKept c t states s e) (IsWithin t.table s) s e k
before_too c t states s e code f faults.K01 lt = f.before faults.K01 lt
before_too c t states s e code f faults.K02 lt = f.before faults.K02 lt
before_too c t states s e code f faults.K03 lt = f.before faults.K03 lt
before_too c t states s e code f faults.K04 lt = f.before faults.K04 lt
before_too c t states s e code f faults.K05 lt = f.before faults.K05 lt
before_too c t states s e code f faults.K06 lt = f.before faults.K06 lt
before_too c t states s e code f faults.K07 lt = f.before faults.K07 lt
before_too c t states s e code f faults.K08 lt = kept_by c t states s e code f.broken lt
before_too c t states s e code f faults.K09 lt = f.before faults.K09 lt
before_too c t states s e code f faults.K10 lt = f.before faults.K10 lt
before_too c t states s e code f faults.K11 lt = f.before faults.K11 lt
before_too c t states s e code f faults.K12 lt = absurd (last_code code lt)

-- the first fault of a record by itself is the first among all
pub alone_first : (c : Client) (t : Basis) (states : List State) (s : State) (e : End) (code : Code) → IsJudgedAlone c t s e (Some code) → IsJudgedAmong c t states s e (Some code)
alone_first c t states s e code f = record { before = before_too c t states s e code f; broken = broken_too c t (SuccessorsAreKept c t states s e) (IsWithin t.table s) s e code f.broken }

-- a record that meets all by itself meets all where the states after its steps are kept, and its registers lie where the table says
pub all_met : (c : Client) (t : Basis) (states : List State) (s : State) (e : End) → IsJudgedAlone c t s e None → SuccessorsAreKept c t states s e → IsWithin t.table s → IsJudgedAmong c t states s e None
all_met c t states s e m kept within =
    record { well_formed = m.well_formed; fits = m.fits; reasons = m.reasons; successors = kept; unstopped = m.unstopped; explained = m.explained; within = within }

-- it fails in that one condition where they are not
pub not_kept : (c : Client) (t : Basis) (states : List State) (s : State) (e : End) → IsJudgedAlone c t s e None → (SuccessorsAreKept c t states s e → ⊥) → IsJudgedAmong c t states s e (Some faults.K08)
not_kept c t states s e m fails = no_successors c t (SuccessorsAreKept c t states s e) (IsWithin t.table s) s e m.well_formed m.fits m.reasons fails

-- and in the last one where they are, and a register lies elsewhere
pub not_within : (c : Client) (t : Basis) (states : List State) (s : State) (e : End) → IsJudgedAlone c t s e None → SuccessorsAreKept c t states s e → (IsWithin t.table s → ⊥)
    → IsJudgedAmong c t states s e (Some faults.K12)
not_within c t states s e m kept fails = outside c t (SuccessorsAreKept c t states s e) (IsWithin t.table s) s e m.well_formed m.fits m.reasons kept m.unstopped m.explained fails
