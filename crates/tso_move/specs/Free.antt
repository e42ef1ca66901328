-- Free actors: those whose move may come before all that other threads do.
use Rattle.std.specs.Prelude.{◌≡◌, ℕ, zero, suc, ◌<◌, ◌==◌, ◌&&◌, ◌||◌, Bool, true, IsTrue, is_none, length, List, Some}
use Rattle.std.specs.List.{list_all}
use Rattle.tso_choose.specs.Needs.{is_apart}
use Rattle.tso_compact.specs.declared.sort.StepKind.{StepKind}
use Rattle.tso_foot.specs.declared.table.ArrayTable.{ArrayTable}
use Rattle.tso_foot.specs.declared.table.Table.{Table}
use Rattle.tso_indep.specs.Reasons.{kind_in}
use Rattle.tso_move.specs.Parts.{part_kinds}
use Rattle.tso_prog.specs.declared.client.Client.{Client}
use Rattle.tso_state.specs.Actors.{number_of, thread_of}
use Rattle.tso_state.specs.declared.actor.Actor.{Actor}
use Rattle.tso_state.specs.declared.actor.Actor.TheVariants.{Exec, Drain}
use Rattle.tso_state.specs.declared.state.State.{State}

-- neither actor of thread j has a step, and with it neither has a move
abbrev pub is_still : Client → State → ℕ → Bool
is_still c s j = is_none (kind_in c s (Exec j)) && is_none (kind_in c s (Drain j))

-- against thread j parts of these kinds need nobody, or it is still
abbrev pub passes : Client → Table → State → List StepKind → ℕ → Bool
passes c t s kinds j = list_all (λ kind. is_apart c t s kind j) kinds || is_still c s j

-- the same against each of the first n threads but thread i
abbrev pub passes_below : Client → Table → State → ℕ → List StepKind → ℕ → Bool
passes_below c t s i kinds zero = true
passes_below c t s i kinds (suc n) = passes_below c t s i kinds n && (n == i || passes c t s kinds n)

-- parts of these kinds, of thread i, may come before all that other threads do
abbrev pub is_free_of : Client → Table → State → ℕ → List StepKind → Bool
is_free_of c t s i kinds = passes_below c t s i kinds (length s.threads)

-- the actor has a move, and it may come before all that other threads do
pub record IsFree (c : Client) (own : ArrayTable) (t : Table) (s : State) (a : Actor) : Type 0 where
  pub kinds : List StepKind
  pub parts : part_kinds c own s a ≡ Some kinds
  pub passes : IsTrue (is_free_of c t s (thread_of a) kinds)

-- of the free actors it has the lowest number
pub record IsLowestFree (c : Client) (own : ArrayTable) (t : Table) (s : State) (a : Actor) : Type 0 where
  pub free : IsFree c own t s a
  pub lowest : (b : Actor) → number_of b < number_of a → IsFree c own t s b → ⊥

-- no actor is free
abbrev pub HasNoFree : Client → ArrayTable → Table → State → Type 0
HasNoFree c own t s = (a : Actor) → IsFree c own t s a → ⊥

-- ---- thread by thread

-- no actor of a thread below n is free
abbrev pub HasNoFreeBelow : Client → ArrayTable → Table → State → ℕ → Type 0
HasNoFreeBelow c own t s n = (b : Actor) → thread_of b < n → IsFree c own t s b → ⊥

-- neither actor of thread i is free
abbrev pub HasNoFreeOf : Client → ArrayTable → Table → State → ℕ → Type 0
HasNoFreeOf c own t s i = (b : Actor) → thread_of b ≡ i → IsFree c own t s b → ⊥

-- of thread i's free actors it has the lowest number
pub record IsLowestOf (c : Client) (own : ArrayTable) (t : Table) (s : State) (i : ℕ) (a : Actor) : Type 0 where
  pub thread : thread_of a ≡ i
  pub free : IsFree c own t s a
  pub lowest : (b : Actor) → thread_of b ≡ i → number_of b < number_of a → IsFree c own t s b → ⊥
