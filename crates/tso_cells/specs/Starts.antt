-- What calls begin with.
use Rattle.std.specs.Prelude.{◌≡◌, ℕ, List, Some, replicate, slice_get, slice_set, IsTrue}
use Rattle.tso_flow.specs.Accesses.{register_number}
use Rattle.tso_cells.specs.Intervals.{alone, has}
use Rattle.tso_cells.specs.declared.interval.Interval.{Interval}
use Rattle.tso_line.specs.declared.instruction.CallKind.{CallKind}
use Rattle.tso_line.specs.declared.instruction.CallKind.TheVariants.{Push}
use Rattle.tso_line.specs.declared.instruction.Register.TheVariants.{Rdi}

-- it has each argument that the calls push
abbrev pub HasArguments : Interval → List CallKind → Type 0
HasArguments i calls = (n v : ℕ) → slice_get calls n ≡ Some (Push v) → IsTrue (has i v)

-- 0 in each register, but this interval in RDI
abbrev pub entry_row : Interval → List Interval
entry_row argument = slice_set (replicate 15 (alone 0)) (register_number Rdi) argument
