-- Which condition of a record fails first.
use Rattle.std.specs.Prelude.{◌<◌, List, Option, None, Some}
use Rattle.tso_foot.specs.Within.{IsWithin}
use Rattle.tso_judge.specs.Codes.{code_number}
use Rattle.tso_judge.specs.declared.code.Code.{Code}
use Rattle.tso_judge.specs.declared.code.Code.TheVariants as faults
use Rattle.tso_prog.specs.declared.client.Client.{Client}
use Rattle.tso_rec.specs.Conditions.{AreMet, EndFits, HaveReasons, IsExplained, IsUnstopped, SuccessorsAreKept}
use Rattle.tso_rec.specs.declared.basis.Basis.{Basis}
use Rattle.tso_rec.specs.declared.record.End.{End}
use Rattle.tso_state.specs.WellFormed.{IsWellFormed}
use Rattle.tso_state.specs.declared.state.State.{State}

-- The condition of a record that has this code, where `Kept` says that the states to which its actors lead are kept, and `Within` that its
-- running registers lie where the table says. The other codes are of the certificate as a whole, and ask nothing of a record.
abbrev pub Meets : Client → Basis → (Kept Within : Type 0) → State → End → Code → Type 0
Meets c b Kept Within s e faults.K01 = Unit {0}
Meets c b Kept Within s e faults.K02 = Unit {0}
Meets c b Kept Within s e faults.K03 = Unit {0}
Meets c b Kept Within s e faults.K04 = Unit {0}
Meets c b Kept Within s e faults.K05 = IsWellFormed c s
Meets c b Kept Within s e faults.K06 = EndFits c b s e
Meets c b Kept Within s e faults.K07 = HaveReasons c b s e
Meets c b Kept Within s e faults.K08 = Kept
Meets c b Kept Within s e faults.K09 = Unit {0}
Meets c b Kept Within s e faults.K10 = IsUnstopped s e
Meets c b Kept Within s e faults.K11 = IsExplained c s e
Meets c b Kept Within s e faults.K12 = Within

-- the condition with this code fails, and none with a lower one
pub record IsFirstFault (c : Client) (b : Basis) (Kept Within : Type 0) (s : State) (e : End) (code : Code) : Type 0 where
  pub before : (k : Code) → code_number k < code_number code → Meets c b Kept Within s e k
  pub broken : Meets c b Kept Within s e code → ⊥

-- the record meets all conditions, or this is the code of the first that fails
abbrev pub IsJudged : Client → Basis → (Kept Within : Type 0) → State → End → Option Code → Type 0
IsJudged c b Kept Within s e None = AreMet c b Kept Within s e
IsJudged c b Kept Within s e (Some code) = IsFirstFault c b Kept Within s e code

-- of all conditions but that the states to which its actors lead are kept, and that registers lie where the table says
abbrev pub IsJudgedAlone : Client → Basis → State → End → Option Code → Type 0
IsJudgedAlone c b s e code = IsJudged c b (Unit {0}) (Unit {0}) s e code

-- of all conditions, where these are the states that are kept
abbrev pub IsJudgedAmong : Client → Basis → List State → State → End → Option Code → Type 0
IsJudgedAmong c b states s e code = IsJudged c b (SuccessorsAreKept c b states s e) (IsWithin b.table s) s e code
