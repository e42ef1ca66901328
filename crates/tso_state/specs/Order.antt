-- The order of states: field by field, cases in the order listed, lists as Rust orders them.
use Rattle.std.specs.Prelude.{ℕ, ◌+◌, ◌*◌, Bool, true, false, Option, Some, None}
use Rattle.std.specs.Ordering.{nat_cmp, on, then_cmp}
use Rattle.std.specs.Cmp.Lexicographic.{slice_cmp}
use Rattle.std.specs.declared.cmp.Ordering.{Ordering}
use Rattle.std.specs.declared.cmp.Ordering.TheVariants.{Less, Equal, Greater}
use Rattle.tso_hist.specs.declared.call.Call.{Call}
use Rattle.tso_line.specs.declared.instruction.CallKind.{CallKind}
use Rattle.tso_line.specs.declared.instruction.CallKind.TheVariants.{Push, Pop}
use Rattle.tso_machine.specs.declared.buffer.Entry.{Entry}
use Rattle.tso_machine.specs.declared.frame.Frame.{Frame}
use Rattle.tso_prog.specs.declared.answer.Answer.{Answer}
use Rattle.tso_prog.specs.declared.answer.Answer.TheVariants.{Refused, Done, Value}
use Rattle.tso_word.specs.declared.Flags.{Flags}
use Rattle.tso_state.specs.declared.state.Core.{Core}
use Rattle.tso_state.specs.declared.state.Core.TheVariants.{Idle, Running, Stopped}
use Rattle.tso_state.specs.declared.state.State.{State}
use Rattle.tso_state.specs.declared.state.Thread.{Thread}

-- ---- threads

abbrev pub bit : Bool → ℕ
bit true = 1
bit false = 0

-- ZF 1, CF 2, SF 4, OF 8, added
abbrev pub flags_number : Flags → ℕ
flags_number f = bit f.zf + 2 * bit f.cf + 4 * bit f.sf + 8 * bit f.of

-- position, registers, flags, counts of back jumps
abbrev pub frame_cmp : Frame → Frame → Ordering
frame_cmp = then_cmp (on (λ f. f.pc) nat_cmp) (then_cmp (on (λ f. f.registers) (slice_cmp nat_cmp)) (then_cmp (on (λ f. flags_number f.flags) nat_cmp) (on (λ f. f.taken) (slice_cmp nat_cmp))))

-- Idle, Running, Stopped
abbrev pub core_cmp : Core → Core → Ordering
core_cmp Idle Idle = Equal
core_cmp Idle b = Less
core_cmp (Running a) Idle = Greater
core_cmp (Running a) (Running b) = frame_cmp a b
core_cmp (Running a) Stopped = Less
core_cmp Stopped Stopped = Equal
core_cmp Stopped b = Greater

abbrev pub entry_cmp : Entry → Entry → Ordering
entry_cmp = then_cmp (on (λ e. e.place) nat_cmp) (on (λ e. e.word) nat_cmp)

abbrev pub thread_cmp : Thread → Thread → Ordering
thread_cmp = then_cmp (on (λ t. t.core) core_cmp) (on (λ t. t.buffer) (slice_cmp entry_cmp))

-- ---- calls

-- pushes by their arguments, then pops
abbrev pub kind_cmp : CallKind → CallKind → Ordering
kind_cmp (Push a) (Push b) = nat_cmp a b
kind_cmp (Push a) Pop = Less
kind_cmp Pop (Push b) = Greater
kind_cmp Pop Pop = Equal

abbrev pub answer_number : Option Answer → ℕ
answer_number None = 0
answer_number (Some Refused) = 1
answer_number (Some Done) = 2
answer_number (Some (Value v)) = 3

abbrev pub answer_word : Option Answer → ℕ
answer_word (Some (Value v)) = v
answer_word a = 0

-- none, Refused, Done, values by their words
abbrev pub answer_cmp : Option Answer → Option Answer → Ordering
answer_cmp = then_cmp (on answer_number nat_cmp) (on answer_word nat_cmp)

-- kind, seen, answer
abbrev pub call_cmp : Call → Call → Ordering
call_cmp = then_cmp (on (λ c. c.kind) kind_cmp) (then_cmp (on (λ c. c.seen) (slice_cmp nat_cmp)) (on (λ c. c.answer) answer_cmp))

-- ---- states

-- memory, threads, history
abbrev pub state_cmp : State → State → Ordering
state_cmp = then_cmp (on (λ s. s.memory) (slice_cmp nat_cmp)) (then_cmp (on (λ s. s.threads) (slice_cmp thread_cmp)) (on (λ s. s.history) (slice_cmp (slice_cmp call_cmp))))
