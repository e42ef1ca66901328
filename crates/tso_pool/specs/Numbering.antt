-- The numbers of the states after chosen steps, as they are found one after another.
use Rattle.std.specs.Prelude.{◌≡◌, ◌++◌, ◌∷◌, [], ℕ, List, Option, None, Some, slice_get}
use Rattle.tso_choose.specs.declared.choice.Choice.{Choice}
use Rattle.tso_compact.specs.Plans.{IsStep}
use Rattle.tso_foot.specs.declared.table.Table.{Table}
use Rattle.tso_pool.specs.declared.finished.Finished.{Finished}
use Rattle.tso_pool.specs.declared.finished.Moves.{Moves}
use Rattle.tso_prog.specs.declared.client.Client.{Client}
use Rattle.tso_rec.specs.declared.record.End.TheVariants.{Choices}
use Rattle.tso_state.specs.declared.actor.Actor.{Actor}
use Rattle.tso_state.specs.declared.state.State.{State}
use Rattle.tso_table.specs.Ends.{AreNear, IsEnd, IsNamed}
use Rattle.tso_table.specs.Leading.{shard_of}
use Rattle.tso_table.specs.declared.number.Number.{Number}
use Rattle.tso_table.specs.declared.slot.Near.{Near}

-- the state, exactly where it belongs to shard k
abbrev pub IsOfShard : ℕ → State → Option State → Type 0
IsOfShard k s None = shard_of s ≡ k → ⊥
IsOfShard k s (Some t) = (shard_of s ≡ k) × (t ≡ s)

-- the state, if there is one, with its place
abbrev pub near_of : Number → Option State → List Near
near_of n None = []
near_of n (Some s) = record { place = n.place; state = s } ∷ []

-- The first of the chosen steps have these numbers, each of the shard of the state after its step; those of these states that
-- belong to shard k are near.
pub record AreNumbered (c : Client) (k : ℕ) (s : State) (choices : List Choice) (m : Moves) : Type 0 where
  pub named : (i : ℕ) (x : Choice) (n : Number) → slice_get choices i ≡ Some x → slice_get m.numbers i ≡ Some n → IsNamed c s x n
  pub near : AreNear c k s (record { end = Choices choices; numbers = m.numbers }) m.near.items

-- the number of the state after the actor's step was added, and the state itself, where it belongs to shard k
pub record HasMoved (c : Client) (k : ℕ) (s : State) (a : Actor) (old new : Moves) : Type 0 where
  pub number : Number
  pub after : State
  pub own : Option State
  pub step : IsStep c s a after
  pub shard : number.shard ≡ shard_of after
  pub is_own : IsOfShard k after own
  pub numbers : new.numbers ≡ old.numbers ++ number ∷ []
  pub near : new.near.items ≡ old.near.items ++ near_of number own

-- an end of the state, with the states after its steps that belong to shard k
pub record IsFinished (c : Client) (t : Table) (k : ℕ) (s : State) (f : Finished) : Type 0 where
  pub end : IsEnd c t s f.filed
  pub near : AreNear c k s f.filed f.near.items
