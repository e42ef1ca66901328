-- The spelling of what ends a record: choices of actors with their reasons, and entries of an order.
use Rattle.std.specs.Prelude.{ℕ, zero, suc, ◌/◌, ◌%◌, List, [], ◌∷◌, ◌++◌, Option, Some, None, ◌==◌, if◌then◌else◌}
use Rattle.tso_choose.specs.declared.choice.Choice.{Choice}
use Rattle.tso_fifo.specs.declared.order.Placed.{Placed}
use Rattle.tso_indep.specs.declared.reason.Reason.{Reason}
use Rattle.tso_indep.specs.declared.reason.Reason.TheVariants.{Own, Far, Inside, Buffer, Return, NoReturn}
use Rattle.tso_state.specs.Actors.{number_of}
use Rattle.tso_state.specs.declared.actor.Actor.{Actor}
use Rattle.tso_state.specs.declared.actor.Actor.TheVariants.{Exec, Drain}
use Rattle.tso_code.specs.Fields.{at1, at2, at3, list, list_at, ListFits}
use Rattle.tso_code.specs.Numbers.{Reading, number, word_at, IsWord}
use Rattle.tso_code.specs.States.{answer, answer_at, AnswerFits}

-- ---- choices: the actor's number, list of reasons 0 to 5

abbrev pub actor_of : ℕ → Actor
actor_of n = if n % 2 == 0 then Exec (n / 2) else Drain (n / 2)

unfoldable pub actor_at : Reading Actor
actor_at = at1 actor_of word_at

abbrev pub ActorFits : Actor → Type 0
ActorFits a = IsWord (number_of a)

abbrev pub reason : Reason → List ℕ
reason Own = 0 ∷ []
reason Far = 1 ∷ []
reason Inside = 2 ∷ []
reason Buffer = 3 ∷ []
reason Return = 4 ∷ []
reason NoReturn = 5 ∷ []

unfoldable pub reason_at : Reading Reason
reason_at [] = None
reason_at (zero ∷ rest) = Some (Own, rest)
reason_at (suc zero ∷ rest) = Some (Far, rest)
reason_at (suc (suc zero) ∷ rest) = Some (Inside, rest)
reason_at (suc (suc (suc zero)) ∷ rest) = Some (Buffer, rest)
reason_at (suc (suc (suc (suc zero))) ∷ rest) = Some (Return, rest)
reason_at (suc (suc (suc (suc (suc zero)))) ∷ rest) = Some (NoReturn, rest)
reason_at (suc (suc (suc (suc (suc (suc b))))) ∷ rest) = None

abbrev pub ReasonFits : Reason → Type 0
ReasonFits r = Unit {0}

abbrev pub choice : Choice → List ℕ
choice c = number (number_of c.actor) ++ list reason c.reasons

unfoldable pub choice_at : Reading Choice
choice_at = at2 (λ actor reasons. record { actor = actor; reasons = reasons }) actor_at (list_at reason_at)

abbrev pub ChoiceFits : Choice → Type 0
ChoiceFits c = ActorFits c.actor × ListFits ReasonFits c.reasons

-- ---- entries of an order: thread, call, answer

abbrev pub placed : Placed → List ℕ
placed p = number p.thread ++ (number p.call ++ answer p.answer)

unfoldable pub placed_at : Reading Placed
placed_at = at3 (λ thread call answer. record { thread = thread; call = call; answer = answer }) word_at word_at answer_at

abbrev pub PlacedFits : Placed → Type 0
PlacedFits p = IsWord p.thread × IsWord p.call × AnswerFits p.answer
