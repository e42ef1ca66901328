-- The parts of a state.
use Rattle.std.proofs.Common.{◌≡◌, ℕ, zero, suc, ◌+◌, ◌*◌, ◌/◌, ◌%◌, ◌^◌, ◌<◌, Bool, true, false, eqb, List, [], ◌∷◌, ◌++◌, Option, Some, None, refl, sym, ap, subst, ◌∙◌, arith}
use Rattle.tso_line.specs.declared.instruction.CallKind.{CallKind}
use Rattle.tso_line.specs.declared.instruction.CallKind.TheVariants.{Push, Pop}
use Rattle.tso_prog.specs.declared.answer.Answer.{Answer}
use Rattle.tso_prog.specs.declared.answer.Answer.TheVariants.{Refused, Done, Value}
use Rattle.tso_state.specs.Order.{bit, flags_number}
use Rattle.tso_state.specs.declared.state.Core.{Core}
use Rattle.tso_state.specs.declared.state.Core.TheVariants.{Idle, Running, Stopped}
use Rattle.tso_word.specs.declared.Flags.{Flags}
use Rattle.tso_code.specs.Fields.{items_at}
use Rattle.tso_code.specs.Numbers.{◌>>=◌, Reading, number, below_at, IsPlace, IsCount, word_at, place_at, count_at}
use Rattle.tso_code.specs.States.{FlagsFit, flags_of, flags_at, registers, registers_at, RegistersFit, frame, frame_at, FrameFits, core, core_at, CoreFits, entry, entry_at, EntryFits, thread, thread_at, ThreadFits, kind, kind_at, KindFits, answer, answer_at, AnswerFits, any_answer, any_answer_at, AnyAnswerFits, call, call_at, CallFits, state, state_at, StateFits}
use Rattle.tso_code.proofs.Codes.{IsCode, bind_some, two, three, four, items_take, items_again, list_code}
use Rattle.tso_code.proofs.NumberCode.{word_code, below_code}

pub place_code : IsCode IsPlace number place_at
place_code = below_code (2 ^ 16) (omega arith)

pub count_code : IsCode IsCount number count_at
count_code = below_code (2 ^ 8) (omega arith)

entry_code : IsCode EntryFits entry entry_at
unfolding entry_at
entry_code = two place_code word_code (λ place word. record { place = place; word = word }) (λ e. e.place) (λ e. e.word) (λ x. refl) (λ p q. refl) (λ p q. refl)

registers_code : IsCode RegistersFit registers registers_at
unfolding registers_at
registers_code = record {
  takes = λ bytes x e. let t = items_take word_code 15 bytes x e in (t.0, (t.1, t.2));
  again = λ words rest fits. ap (λ (n : ℕ). items_at word_at n (registers words ++ rest)) (sym fits.0) ∙ items_again word_code words rest fits.1;
}

back_at : (o s c z : Bool) → flags_of (bit z + 2 * bit c + 4 * bit s + 8 * bit o) ≡ record { of = o; sf = s; cf = c; zf = z }
back_at true true true true = refl
back_at true true true false = refl
back_at true true false true = refl
back_at true true false false = refl
back_at true false true true = refl
back_at true false true false = refl
back_at true false false true = refl
back_at true false false false = refl
back_at false true true true = refl
back_at false true true false = refl
back_at false true false true = refl
back_at false true false false = refl
back_at false false true true = refl
back_at false false true false = refl
back_at false false false true = refl
back_at false false false false = refl

flags_back : (f : Flags) → flags_of (flags_number f) ≡ f
flags_back f = back_at f.of f.sf f.cf f.zf

bit_of : (m : ℕ) → m < 2 → bit (eqb m 1) ≡ m
bit_of zero lt = refl
bit_of (suc zero) lt = refl
bit_of (suc (suc m)) lt = absurd (omega arith)

flags_there : (n : ℕ) → n < 16 → flags_number (flags_of n) ≡ n
flags_there n lt =
    let z = bit_of (n % 2) (omega arith) in
    let c = bit_of (n / 2 % 2) (omega arith) in
    let s = bit_of (n / 4 % 2) (omega arith) in
    let o = bit_of (n / 8) (omega arith) in
    rw (z, c, s, o) (omega arith)

bit_below : (b : Bool) → bit b < 2
bit_below true = omega arith
bit_below false = omega arith

number_below : (f : Flags) → flags_number f < 16
number_below f = omega (arith, bit_below f.of, bit_below f.sf, bit_below f.cf, bit_below f.zf)

flags_code : IsCode FlagsFit (λ f. number (flags_number f)) flags_at
unfolding flags_at
flags_code = record {
  takes = λ bytes x e.
      let p = bind_some (below_at 16 bytes) (λ n. Some (flags_of n.0, n.1)) x e in
      let t = (below_code 16 (omega arith)).takes bytes p.0 p.1 in
      let made : Flags × List ℕ = (flags_of p.0.0, p.0.1) in
      let k = p.2 in
      let is : made ≡ x = cc in
      subst (λ (y : Flags × List ℕ). (bytes ≡ number (flags_number y.0) ++ y.1) × FlagsFit y.0) is (t.0 ∙ ap (λ (n : ℕ). number n ++ p.0.1) (sym (flags_there p.0.0 t.1)), number_below (flags_of p.0.0));
  again = λ f rest fits. rw ((below_code 16 (omega arith)).again (flags_number f) rest (number_below f), flags_back f) refl;
}

frame_code : IsCode FrameFits frame frame_at
unfolding frame_at
frame_code = four place_code registers_code flags_code (list_code word_code count_code) (λ pc words flags taken. record { pc = pc; registers = words; flags = flags; taken = taken })
    (λ r. r.pc) (λ r. r.registers) (λ r. r.flags) (λ r. r.taken) (λ x. refl) (λ y z w i bytes rest h. h)

-- a variant that holds one value
pub held : {A X : Type 0} {F : A → Type 0} {s : A → List ℕ} {r : Reading A} → IsCode F s r → (make : A → X) (rest : List ℕ) (x : X × List ℕ) → (r rest >>= λ y. Some (make y.0, y.1)) ≡ Some x
    → (y : A) × (x.0 ≡ make y) × (rest ≡ s y ++ x.1) × F y
held {A} {X} {F} {s} {r} c make rest x e =
    let p = bind_some (r rest) (λ y. Some (make y.0, y.1)) x e in
    let t = c.takes rest p.0 p.1 in
    let made : X × List ℕ = (make p.0.0, p.0.1) in
    let last = p.2 in
    let is : made ≡ x = cc in
    (p.0.0, ap (λ (y : X × List ℕ). y.0) (sym is), t.0 ∙ ap (λ (w : List ℕ). s p.0.0 ++ w) (ap (λ (y : X × List ℕ). y.1) is), t.1)

core_take : (bytes : List ℕ) (x : Core × List ℕ) → core_at bytes ≡ Some x → (bytes ≡ core x.0 ++ x.1) × CoreFits x.0
unfolding core_at
core_take [] x e = absurd cc
core_take (zero ∷ rest) x e = let made : Core × List ℕ = (Idle, rest) in let is : made ≡ x = cc in subst (λ (y : Core × List ℕ). (0 ∷ rest ≡ core y.0 ++ y.1) × CoreFits y.0) is (refl, tt)
core_take (suc zero ∷ rest) x e =
    let h = held frame_code Running rest x e in
    subst (λ (y : Core). (1 ∷ rest ≡ core y ++ x.1) × CoreFits y) (sym h.1) (ap (λ (w : List ℕ). 1 ∷ w) h.2, h.3)
core_take (suc (suc zero) ∷ rest) x e = let made : Core × List ℕ = (Stopped, rest) in let is : made ≡ x = cc in subst (λ (y : Core × List ℕ). (2 ∷ rest ≡ core y.0 ++ y.1) × CoreFits y.0) is (refl, tt)
core_take (suc (suc (suc b)) ∷ rest) x e = absurd cc

core_again : (c : Core) (rest : List ℕ) → CoreFits c → core_at (core c ++ rest) ≡ Some (c, rest)
unfolding core_at
core_again Idle rest fits = refl
core_again (Running r) rest fits = rw (frame_code.again r rest fits) refl
core_again Stopped rest fits = refl

core_code : IsCode CoreFits core core_at
core_code = record { takes = core_take; again = core_again }

pub thread_code : IsCode ThreadFits thread thread_at
unfolding thread_at
thread_code = two core_code (list_code word_code entry_code) (λ core buffer. record { core = core; buffer = buffer }) (λ t. t.core) (λ t. t.buffer) (λ x. refl) (λ p q. refl) (λ p q. refl)

kind_take : (bytes : List ℕ) (x : CallKind × List ℕ) → kind_at bytes ≡ Some x → (bytes ≡ kind x.0 ++ x.1) × KindFits x.0
unfolding kind_at
kind_take [] x e = absurd cc
kind_take (zero ∷ rest) x e =
    let h = held word_code Push rest x e in
    subst (λ (y : CallKind). (0 ∷ rest ≡ kind y ++ x.1) × KindFits y) (sym h.1) (ap (λ (w : List ℕ). 0 ∷ w) h.2, h.3)
kind_take (suc zero ∷ rest) x e = let made : CallKind × List ℕ = (Pop, rest) in let is : made ≡ x = cc in subst (λ (y : CallKind × List ℕ). (1 ∷ rest ≡ kind y.0 ++ y.1) × KindFits y.0) is (refl, tt)
kind_take (suc (suc b) ∷ rest) x e = absurd cc

kind_again : (k : CallKind) (rest : List ℕ) → KindFits k → kind_at (kind k ++ rest) ≡ Some (k, rest)
unfolding kind_at
kind_again (Push v) rest fits = rw (word_code.again v rest fits) refl
kind_again Pop rest fits = refl

kind_code : IsCode KindFits kind kind_at
kind_code = record { takes = kind_take; again = kind_again }

answer_take : (bytes : List ℕ) (x : Answer × List ℕ) → answer_at bytes ≡ Some x → (bytes ≡ answer x.0 ++ x.1) × AnswerFits x.0
unfolding answer_at
answer_take [] x e = absurd cc
answer_take (zero ∷ rest) x e = absurd cc
answer_take (suc zero ∷ rest) x e = let made : Answer × List ℕ = (Refused, rest) in let is : made ≡ x = cc in subst (λ (y : Answer × List ℕ). (1 ∷ rest ≡ answer y.0 ++ y.1) × AnswerFits y.0) is (refl, tt)
answer_take (suc (suc zero) ∷ rest) x e = let made : Answer × List ℕ = (Done, rest) in let is : made ≡ x = cc in subst (λ (y : Answer × List ℕ). (2 ∷ rest ≡ answer y.0 ++ y.1) × AnswerFits y.0) is (refl, tt)
answer_take (suc (suc (suc zero)) ∷ rest) x e =
    let h = held word_code Value rest x e in
    subst (λ (y : Answer). (3 ∷ rest ≡ answer y ++ x.1) × AnswerFits y) (sym h.1) (ap (λ (w : List ℕ). 3 ∷ w) h.2, h.3)
answer_take (suc (suc (suc (suc b))) ∷ rest) x e = absurd cc

answer_again : (a : Answer) (rest : List ℕ) → AnswerFits a → answer_at (answer a ++ rest) ≡ Some (a, rest)
unfolding answer_at
answer_again Refused rest fits = refl
answer_again Done rest fits = refl
answer_again (Value v) rest fits = rw (word_code.again v rest fits) refl

pub answer_code : IsCode AnswerFits answer answer_at
answer_code = record { takes = answer_take; again = answer_again }

any_answer_take : (bytes : List ℕ) (x : Option Answer × List ℕ) → any_answer_at bytes ≡ Some x → (bytes ≡ any_answer x.0 ++ x.1) × AnyAnswerFits x.0
unfolding any_answer_at
any_answer_take [] x e = absurd cc
any_answer_take (zero ∷ rest) x e = let made : Option Answer × List ℕ = (None, rest) in let is : made ≡ x = cc in subst (λ (y : Option Answer × List ℕ). (0 ∷ rest ≡ any_answer y.0 ++ y.1) × AnyAnswerFits y.0) is (refl, tt)
any_answer_take (suc b ∷ rest) x e =
    let h = held answer_code Some (suc b ∷ rest) x e in
    subst (λ (y : Option Answer). (suc b ∷ rest ≡ any_answer y ++ x.1) × AnyAnswerFits y) (sym h.1) (h.2, h.3)

any_answer_again : (a : Option Answer) (rest : List ℕ) → AnyAnswerFits a → any_answer_at (any_answer a ++ rest) ≡ Some (a, rest)
unfolding any_answer_at
any_answer_again None rest fits = refl
any_answer_again (Some Refused) rest fits = rw (answer_code.again Refused rest fits) refl
any_answer_again (Some Done) rest fits = rw (answer_code.again Done rest fits) refl
any_answer_again (Some (Value v)) rest fits = rw (answer_code.again (Value v) rest fits) refl

any_answer_code : IsCode AnyAnswerFits any_answer any_answer_at
any_answer_code = record { takes = any_answer_take; again = any_answer_again }

pub call_code : IsCode CallFits call call_at
unfolding call_at
call_code = three kind_code (list_code word_code count_code) any_answer_code (λ kind seen answer. record { kind = kind; seen = seen; answer = answer })
    (λ c. c.kind) (λ c. c.seen) (λ c. c.answer) (λ x. refl) (λ y z w. refl) (λ y z w. refl) (λ y z w. refl)

pub state_code : IsCode StateFits state state_at
unfolding state_at
state_code = three (list_code word_code word_code) (list_code word_code thread_code) (list_code word_code (list_code word_code call_code)) (λ memory threads history. record { memory = memory; threads = threads; history = history })
    (λ s. s.memory) (λ s. s.threads) (λ s. s.history) (λ x. refl) (λ y z w. refl) (λ y z w. refl) (λ y z w. refl)
