-- The bounded queue is first-in first-out and bounded, and a strict one has but one answer to each call.
use Rattle.std.proofs.Common.{◌≡◌, ◌≤◌, ℕ, List, [], ◌∷◌, ◌++◌, length, refl, sym, ◌∙◌, ap, subst, append_assoc, arith, length-append, inl, inr}
use Rattle.std.proofs.lemmas.List.{append-nil}
use Rattle.std.proofs.Math.Nat.{eq-or-lt_of_le}
use Rattle.tso_model.specs.Objects.{Mode, QueueStep, Strict, Weak}
use Rattle.tso_model.specs.Programs.{Answer, CallKind, Done, IsAnswerOf, Pop, Push, Refused, Value}
use Rattle.tso_model.specs.Queues.{AnswersAreQueueAnswers, QueuesAreBounded, QueuesAreFifo, StrictIsWeak, StrictQueuesAnswer, StrictQueuesAreDetermined, IsAnswered, all_popped, all_pushed, word_popped, word_pushed}

one : (mode : Mode) (capacity : ℕ) (before : List ℕ) (k : CallKind) (a : Answer) (after : List ℕ) → QueueStep mode capacity before k a after → before ++ word_pushed k a ≡ word_popped k a ++ after
one mode capacity before (Push v) Done after s = sym s.1
one mode capacity before (Push v) Refused after s = append-nil before ∙ sym s.1
one mode capacity before (Push v) (Value w) after s = absurd s
one mode capacity before Pop (Value v) after s = append-nil before ∙ s
one mode capacity before Pop Refused after s = append-nil before ∙ sym s.1
one mode capacity before Pop Done after s = absurd s

joins : (b p q o r m a : List ℕ) → b ++ p ≡ o ++ m → m ++ q ≡ r ++ a → b ++ (p ++ q) ≡ (o ++ r) ++ a
joins b p q o r m a x y = sym (append_assoc b p q) ∙ (ap (λ l. l ++ q) x ∙ (append_assoc o m q ∙ (ap (λ l. o ++ l) y ∙ sym (append_assoc o r a))))

pub queues_are_fifo : QueuesAreFifo
queues_are_fifo mode capacity before [] after s = append-nil before ∙ sym s
queues_are_fifo mode capacity before (c ∷ cs) after (mid, x, rest) =
    joins before (word_pushed c.0 c.1) (all_pushed cs) (word_popped c.0 c.1) (all_popped cs) mid after (one mode capacity before c.0 c.1 mid x) (queues_are_fifo mode capacity mid cs after rest)

bounded_one : (mode : Mode) (capacity : ℕ) (before : List ℕ) (k : CallKind) (a : Answer) (after : List ℕ) → QueueStep mode capacity before k a after → length before ≤ capacity → length after ≤ capacity
bounded_one mode capacity before (Push v) Done after s le = rw s.1 (let lt = s.0 in omega (arith, length-append before (v ∷ []), lt))
bounded_one mode capacity before (Push v) Refused after s le = rw s.1 le
bounded_one mode capacity before (Push v) (Value w) after s le = absurd s
bounded_one mode capacity before Pop (Value v) after s le = (let e = ap length s in omega (arith, e, le))
bounded_one mode capacity before Pop Refused after s le = rw s.1 le
bounded_one mode capacity before Pop Done after s le = absurd s

pub queues_are_bounded : QueuesAreBounded
queues_are_bounded mode capacity before [] after s le = rw s le
queues_are_bounded mode capacity before (c ∷ cs) after (mid, x, rest) le = queues_are_bounded mode capacity mid cs after rest (bounded_one mode capacity before c.0 c.1 mid x le)

pub strict_queues_are_determined : StrictQueuesAreDetermined
strict_queues_are_determined capacity before (Push v) Done Done x y s t = (refl, s.1 ∙ sym t.1)
strict_queues_are_determined capacity before (Push v) Refused Refused x y s t = (refl, s.1 ∙ sym t.1)
strict_queues_are_determined capacity before (Push v) Done Refused x y s t = absurd (let lt = s.0 in let e = t.0 in omega (arith, lt, e))
strict_queues_are_determined capacity before (Push v) Refused Done x y s t = absurd (let lt = t.0 in let e = s.0 in omega (arith, lt, e))
strict_queues_are_determined capacity before (Push v) (Value w) b x y s t = absurd s
strict_queues_are_determined capacity before (Push v) a (Value w) x y s t = absurd t
strict_queues_are_determined capacity before Pop (Value v) (Value w) x y s t = (let e = sym s ∙ t in (cc, cc))
strict_queues_are_determined capacity before Pop Refused Refused x y s t = (refl, s.1 ∙ sym t.1)
strict_queues_are_determined capacity before Pop (Value v) Refused x y s t = (let e = sym s ∙ t.0 in cc)
strict_queues_are_determined capacity before Pop Refused (Value v) x y s t = (let e = sym t ∙ s.0 in cc)
strict_queues_are_determined capacity before Pop Done b x y s t = absurd s
strict_queues_are_determined capacity before Pop a Done x y s t = absurd t

answered : (capacity : ℕ) (before : List ℕ) (k : CallKind) → length before ≤ capacity → IsAnswered capacity before k
answered capacity before (Push v) le = elim (eq-or-lt_of_le le) [ inl e ↦ (Refused, before, (e, refl)) | inr lt ↦ (Done, before ++ v ∷ [], (lt, refl)) ]
answered capacity [] Pop le = (Refused, [], (refl, refl))
answered capacity (v ∷ rest) Pop le = (Value v, rest, refl)

popped : (capacity front : ℕ) (rest : List ℕ) (a : Answer) (after : List ℕ) → QueueStep Strict capacity (front ∷ rest) Pop a after → (a ≡ Value front) × (after ≡ rest)
popped capacity front rest (Value v) after s = (let e = s in (cc, cc))
popped capacity front rest Refused after s = absurd (let e = s.0 in cc)
popped capacity front rest Done after s = absurd s

pops : (capacity front : ℕ) (rest : List ℕ) (a : Answer) (after : List ℕ) → (a ≡ Value front) × (after ≡ rest) → QueueStep Strict capacity (front ∷ rest) Pop a after
pops capacity front rest a after p =
    let Q : Answer → Type 0 = λ x. QueueStep Strict capacity (front ∷ rest) Pop x after in
    subst Q (sym p.0) (ap (λ (l : List ℕ). front ∷ l) (sym p.1))

refused : (capacity : ℕ) (a : Answer) (after : List ℕ) → QueueStep Strict capacity [] Pop a after → (a ≡ Refused) × (after ≡ [])
refused capacity (Value v) after s = absurd (let e = s in cc)
refused capacity Refused after s = (refl, s.1)
refused capacity Done after s = absurd s

refuses : (capacity : ℕ) (a : Answer) (after : List ℕ) → (a ≡ Refused) × (after ≡ []) → QueueStep Strict capacity [] Pop a after
refuses capacity a after p =
    let Q : Answer → Type 0 = λ x. QueueStep Strict capacity [] Pop x after in
    subst Q (sym p.0) (refl, p.1)

pub strict_queues_answer : StrictQueuesAnswer
strict_queues_answer = record {
  answered = answered;
  pushes = λ capacity before v. (λ s. s.0, λ lt. (lt, refl));
  full = λ capacity before v. (λ s. s.0, λ e. (e, refl));
  pops = λ capacity front rest a after. (popped capacity front rest a after, pops capacity front rest a after);
  empty = λ capacity a after. (refused capacity a after, refuses capacity a after);
}

weak_one : (capacity : ℕ) (before : List ℕ) (k : CallKind) (a : Answer) (after : List ℕ) → QueueStep Strict capacity before k a after → QueueStep Weak capacity before k a after
weak_one capacity before (Push v) Done after s = s
weak_one capacity before (Push v) Refused after s = (tt, s.1)
weak_one capacity before (Push v) (Value w) after s = s
weak_one capacity before Pop (Value v) after s = s
weak_one capacity before Pop Refused after s = (tt, s.1)
weak_one capacity before Pop Done after s = s

pub strict_is_weak : StrictIsWeak
strict_is_weak capacity before [] after s = s
strict_is_weak capacity before (c ∷ cs) after (mid, x, rest) = (mid, weak_one capacity before c.0 c.1 mid x, strict_is_weak capacity mid cs after rest)

to_queue : (k : CallKind) (a : Answer) → IsAnswerOf k a → (before after : List ℕ) × QueueStep Weak 1 before k a after
to_queue (Push v) Refused is = ([], [], (tt, refl))
to_queue (Push v) Done is = ([], v ∷ [], (omega arith, refl))
to_queue (Push v) (Value w) is = absurd is
to_queue Pop Refused is = ([], [], (tt, refl))
to_queue Pop Done is = absurd is
to_queue Pop (Value w) is = (w ∷ [], [], refl)

from_queue : (k : CallKind) (a : Answer) → (before after : List ℕ) × QueueStep Weak 1 before k a after → IsAnswerOf k a
from_queue (Push v) Refused s = tt
from_queue (Push v) Done s = tt
from_queue (Push v) (Value w) s = absurd s.2
from_queue Pop Refused s = tt
from_queue Pop Done s = absurd s.2
from_queue Pop (Value w) s = tt

pub answers_are_queue_answers : AnswersAreQueueAnswers
answers_are_queue_answers k a = (to_queue k a, from_queue k a)
