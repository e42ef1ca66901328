-- The orders that are derived are those of the specification.
use Rattle.std.proofs.Common.{◌≡◌, ℕ, ◌+◌, ◌*◌, ◌<◌, Bool, true, false, Option, Some, None, refl, ap, ◌∙◌, arith}
use Rattle.std.specs.declared.cmp.Ordering.{Ordering}
use Rattle.std.specs.Cmp.Lexicographic.{slice_cmp}
use Rattle.std.specs.Option.{option_cmp}
use Rattle.std.specs.Ordering.{bool_cmp, nat_cmp, ordering_then}
use Rattle.std.proofs.lemmas.Bool.Decides.{nat_tests}
use Rattle.tso_hist.specs.contracts.call.CallOrd.TheImpl as call_impl
use Rattle.tso_line.specs.contracts.instruction.CallKindOrd.TheImpl as kind_impl
use Rattle.tso_line.specs.declared.instruction.CallKind.TheVariants.{Push, Pop}
use Rattle.tso_machine.specs.contracts.buffer.EntryOrd.TheImpl as entry_impl
use Rattle.tso_machine.specs.contracts.frame.FrameOrd.TheImpl as frame_impl
use Rattle.tso_prog.specs.contracts.answer.AnswerOrd.TheImpl as answer_impl
use Rattle.tso_prog.specs.declared.answer.Answer.{Answer}
use Rattle.tso_prog.specs.declared.answer.Answer.TheVariants.{Refused, Done, Value}
use Rattle.tso_word.specs.contracts.FlagsOrd.TheImpl as flags_impl
use Rattle.tso_word.specs.declared.Flags.{Flags}
use Rattle.tso_state.specs.Actors.{number_of}
use Rattle.tso_state.specs.contracts.actor.ActorOrd.TheImpl as actor_impl
use Rattle.tso_state.specs.contracts.state.CoreOrd.TheImpl as core_impl
use Rattle.tso_state.specs.contracts.state.StateOrd.TheImpl as state_impl
use Rattle.tso_state.specs.contracts.state.ThreadOrd.TheImpl as thread_impl
use Rattle.tso_state.specs.declared.actor.Actor.{Actor}
use Rattle.tso_state.specs.declared.actor.Actor.TheVariants.{Exec, Drain}
use Rattle.tso_state.specs.declared.state.Core.TheVariants.{Idle, Running, Stopped}
use Rattle.tso_state.specs.Order.{answer_cmp, bit, call_cmp, core_cmp, entry_cmp, flags_number, frame_cmp, kind_cmp, state_cmp, thread_cmp}

-- two orders are one
abbrev Alike : {X : Type 0} → (R S : X → X → Ordering) → Type 0
Alike {X} R S = (x y : X) → R x y ≡ S x y

lists_alike : {X : Type 0} (R S : X → X → Ordering) → Alike R S → Alike (slice_cmp R) (slice_cmp S)
lists_alike {X} R S e xs ys = let f : R ≡ S = λ i x y. e x y i in ap (λ (Q : X → X → Ordering). slice_cmp Q xs ys) f

-- a higher bit decides, and else the lower ones
higher : (k m n : ℕ) (a e : Bool) → m < k → n < k → ordering_then (bool_cmp a e) (nat_cmp m n) ≡ nat_cmp (m + k * bit a) (n + k * bit e)
higher k m n true true p q = grind (arith, nat_tests)
higher k m n true false p q = grind (arith, nat_tests)
higher k m n false true p q = grind (arith, nat_tests)
higher k m n false false p q = grind (arith, nat_tests)

bit_below : (b : Bool) → bit b < 2
bit_below true = omega arith
bit_below false = omega arith

bit_cmp : (a b : Bool) → bool_cmp a b ≡ nat_cmp (bit a) (bit b)
bit_cmp true true = refl
bit_cmp true false = refl
bit_cmp false true = refl
bit_cmp false false = refl

flags_alike : (x y : Flags) → flags_impl.cmp-value.it x y ≡ nat_cmp (flags_number x) (flags_number y)
flags_alike x y =
    let x0 = bit_below x.zf in let x1 = bit_below x.cf in let x2 = bit_below x.sf in
    let y0 = bit_below y.zf in let y1 = bit_below y.cf in let y2 = bit_below y.sf in
    let one = higher 2 (bit x.zf) (bit y.zf) x.cf y.cf x0 y0 in
    let two = higher 4 (bit x.zf + 2 * bit x.cf) (bit y.zf + 2 * bit y.cf) x.sf y.sf (omega arith) (omega arith) in
    let three = higher 8 (bit x.zf + 2 * bit x.cf + 4 * bit x.sf) (bit y.zf + 2 * bit y.cf + 4 * bit y.sf) x.of y.of (omega arith) (omega arith) in
    let low = ap (λ (o : Ordering). ordering_then (bool_cmp x.cf y.cf) o) (bit_cmp x.zf y.zf) ∙ one in
    let mid = ap (λ (o : Ordering). ordering_then (bool_cmp x.sf y.sf) o) low ∙ two in
    ap (λ (o : Ordering). ordering_then (bool_cmp x.of y.of) o) mid ∙ three

frame_alike : Alike frame_impl.cmp-value.it frame_cmp
frame_alike x y = let e = flags_alike x.flags y.flags in λ i. ordering_then (nat_cmp x.pc y.pc) (ordering_then (slice_cmp nat_cmp x.registers y.registers) (ordering_then (e i) (slice_cmp nat_cmp x.taken y.taken)))

core_alike : Alike core_impl.cmp-value.it core_cmp
core_alike Idle Idle = refl
core_alike Idle (Running b) = refl
core_alike Idle Stopped = refl
core_alike (Running a) Idle = refl
core_alike (Running a) (Running b) = frame_alike a b
core_alike (Running a) Stopped = refl
core_alike Stopped Idle = refl
core_alike Stopped (Running b) = refl
core_alike Stopped Stopped = refl

entry_alike : Alike entry_impl.cmp-value.it entry_cmp
entry_alike x y = refl

thread_alike : Alike thread_impl.cmp-value.it thread_cmp
thread_alike x y =
    let core = core_alike x.core y.core in
    let buffer = lists_alike entry_impl.cmp-value.it entry_cmp entry_alike x.buffer y.buffer in
    λ i. ordering_then (core i) (buffer i)

kind_alike : Alike kind_impl.cmp-value.it kind_cmp
kind_alike (Push a) (Push b) = refl
kind_alike (Push a) Pop = refl
kind_alike Pop (Push b) = refl
kind_alike Pop Pop = refl

answer_alike : (x y : Option Answer) → option_cmp answer_impl.cmp-value.it x y ≡ answer_cmp x y
answer_alike None None = refl
answer_alike None (Some Refused) = refl
answer_alike None (Some Done) = refl
answer_alike None (Some (Value v)) = refl
answer_alike (Some Refused) None = refl
answer_alike (Some Refused) (Some Refused) = refl
answer_alike (Some Refused) (Some Done) = refl
answer_alike (Some Refused) (Some (Value v)) = refl
answer_alike (Some Done) None = refl
answer_alike (Some Done) (Some Refused) = refl
answer_alike (Some Done) (Some Done) = refl
answer_alike (Some Done) (Some (Value v)) = refl
answer_alike (Some (Value u)) None = refl
answer_alike (Some (Value u)) (Some Refused) = refl
answer_alike (Some (Value u)) (Some Done) = refl
answer_alike (Some (Value u)) (Some (Value v)) = refl

call_alike : Alike call_impl.cmp-value.it call_cmp
call_alike x y =
    let kind = kind_alike x.kind y.kind in
    let answer = answer_alike x.answer y.answer in
    λ i. ordering_then (kind i) (ordering_then (slice_cmp nat_cmp x.seen y.seen) (answer i))

pub state_alike : Alike state_impl.cmp-value.it state_cmp
state_alike x y =
    let threads = lists_alike thread_impl.cmp-value.it thread_cmp thread_alike x.threads y.threads in
    let history = lists_alike (slice_cmp call_impl.cmp-value.it) (slice_cmp call_cmp) (lists_alike call_impl.cmp-value.it call_cmp call_alike) x.history y.history in
    λ i. ordering_then (slice_cmp nat_cmp x.memory y.memory) (ordering_then (threads i) (history i))

pub actor_alike : (a b : Actor) → actor_impl.cmp-value.it a b ≡ nat_cmp (number_of a) (number_of b)
actor_alike (Exec i) (Exec j) = grind (arith, nat_tests)
actor_alike (Exec i) (Drain j) = grind (arith, nat_tests)
actor_alike (Drain i) (Exec j) = grind (arith, nat_tests)
actor_alike (Drain i) (Drain j) = grind (arith, nat_tests)
