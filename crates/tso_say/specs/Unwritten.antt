-- Reads of a register or a flag on a path that has not written it.
use Rattle.std.specs.Prelude.{◌≡◌, ℕ, false, true, List, Some, slice_get, codes}
use Rattle.tso_line.specs.Vocabulary.{register_word}
use Rattle.tso_line.specs.declared.instruction.Instruction.{Instruction}
use Rattle.tso_prog.specs.declared.client.Procedure.{Procedure}
use Rattle.tso_flow.specs.Accesses.{is_given, reads}
use Rattle.tso_flow.specs.Paths.{Path}
use Rattle.tso_flow.specs.declared.location.Flag.TheVariants as flags
use Rattle.tso_flow.specs.declared.location.Location.{Location as Place}
use Rattle.tso_flow.specs.declared.location.Location.TheVariants as locations
use Rattle.tso_flow.specs.declared.location.ProcedureKind.{ProcedureKind}
use Rattle.tso_say.specs.declared.reading.UnwrittenRead.{UnwrittenRead}

-- The instruction at this position reads the register or flag, with which no call of the kind begins, and its path leads
-- there from the first instruction with nothing before that writes it.
pub record IsUnwrittenAt (kind : ProcedureKind) (procedure : Procedure) (position : ℕ) (u : UnwrittenRead) : Type 0 where
  pub kinds : u.kind ≡ kind
  pub there : u.position ≡ position
  pub step : Instruction ℕ ℕ
  pub stands : slice_get procedure.instructions position ≡ Some step
  pub reads_it : reads kind step u.location ≡ true
  pub begins_without : is_given kind u.location ≡ false
  pub leads : Path (Some u.location) procedure.instructions 0 u.path.items position

-- and the instruction stands on this line
pub record IsUnwritten (kind : ProcedureKind) (procedure : Procedure) (line : ℕ) (u : UnwrittenRead) : Type 0 where
  pub at : IsUnwrittenAt kind procedure u.position u
  pub stands_on : slice_get procedure.lines u.position ≡ Some line

abbrev pub location_word : Place → List ℕ
location_word (locations.Register register) = register_word register
location_word (locations.Flag flags.Zero) = codes "ZF"
location_word (locations.Flag flags.Carry) = codes "CF"
location_word (locations.Flag flags.Sign) = codes "SF"
location_word (locations.Flag flags.Overflow) = codes "OF"
