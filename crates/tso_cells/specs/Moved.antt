-- Where the words of registers lie after an instruction, where they lay in these intervals before it.
use Rattle.std.specs.Prelude.{ℕ, ◌^◌, nat_lt, if◌then◌else◌, List, slice_index_or, slice_set}
use Rattle.tso_flow.specs.Accesses.{register_number}
use Rattle.tso_cells.specs.Intervals.{all_words, alone, below_both, raised}
use Rattle.tso_cells.specs.declared.interval.Interval.{Interval}
use Rattle.tso_line.specs.declared.instruction.Instruction.{Instruction}
use Rattle.tso_line.specs.declared.instruction.Instruction.TheVariants as the
use Rattle.tso_line.specs.declared.instruction.LockedOperation.{LockedOperation}
use Rattle.tso_line.specs.declared.instruction.LockedOperation.TheVariants.{Exchange, CompareExchange, ExchangeAdd}
use Rattle.tso_line.specs.declared.instruction.Operation.{Operation}
use Rattle.tso_line.specs.declared.instruction.Operation.TheVariants.{Add, Sub, Logic}
use Rattle.tso_line.specs.declared.instruction.Register.{Register}
use Rattle.tso_line.specs.declared.instruction.Register.TheVariants.{Rax}
use Rattle.tso_line.specs.declared.instruction.Source.{Source}
use Rattle.tso_line.specs.declared.instruction.Source.TheVariants as sources
use Rattle.tso_word.specs.declared.BitOperation.TheVariants.{And, Or, Xor}

abbrev pub interval_of : List Interval → Register → Interval
interval_of xs r = slice_index_or xs (register_number r) all_words

abbrev pub source_interval : List Interval → Source → Interval
source_interval xs (sources.Register r) = interval_of xs r
source_interval xs (sources.Word w) = alone w

abbrev pub put : List Interval → Register → Interval → List Interval
put xs r i = slice_set xs (register_number r) i

-- Of a register's interval and that of the source. A sum raises both ends where an immediate is added that is not below 0 as a
-- signed number, and a bitwise and is at most either operand; of all else nothing is known.
abbrev pub computed : Operation → Interval → Source → Interval → Interval
computed Add i (sources.Register r) j = all_words
computed Add i (sources.Word w) j = if nat_lt w (2 ^ 63) then raised i w else all_words
computed Sub i s j = all_words
computed (Logic And) i s j = below_both i j
computed (Logic Or) i s j = all_words
computed (Logic Xor) i s j = all_words

-- the register that a locked instruction can write: RAX where a compare fails
abbrev pub exchanged : LockedOperation → Register → Register
exchanged Exchange r = r
exchanged CompareExchange r = Rax
exchanged ExchangeAdd r = r

abbrev pub moved : List Interval → Instruction ℕ ℕ → List Interval
moved xs (the.Move to from) = put xs to (source_interval xs from)
moved xs (the.Load to from) = put xs to all_words
moved xs (the.Store to from) = xs
moved xs (the.Compute operation to from) = put xs to (computed operation (interval_of xs to) from (source_interval xs from))
moved xs (the.Compare comparison left right) = xs
moved xs (the.Increment r) = put xs r (raised (interval_of xs r) 1)
moved xs (the.Decrement r) = put xs r all_words
moved xs (the.Jump when target bound) = xs
moved xs (the.Assert condition) = xs
moved xs (the.Locked operation cell r) = put xs (exchanged operation r) all_words
moved xs the.Fence = xs
moved xs the.Nop = xs
moved xs the.Pause = xs
moved xs the.Return = xs
