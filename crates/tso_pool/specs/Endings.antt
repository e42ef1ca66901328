-- How a worker ends, and what it knows then.
use Rattle.std.specs.Prelude.{◌⊎◌}
use Rattle.tso_fifo.specs.Orders.{HasOrder}
use Rattle.tso_rec.specs.Conditions.{HasNoStopped}
use Rattle.tso_pool.specs.declared.ending.Ending.{Ending}
use Rattle.tso_pool.specs.declared.ending.Ending.TheVariants.{Quiet, Astray, Violation, Full, Memory}
use Rattle.tso_prog.specs.declared.client.Client.{Client}
use Rattle.tso_state.specs.declared.state.State.{State}
use Rattle.tso_table.specs.Leading.{IsKept}

-- a run to this state is not good: a fault has stopped a thread, or no order explains the calls
abbrev pub IsBad : Client → State → Type 0
IsBad c s = (HasNoStopped s → ⊥) ⊎ (HasOrder c.mode c.capacity s.history → ⊥)

-- the worker ends before all is worked, and says so
abbrev pub IsEarly : Ending → Type 0
IsEarly Quiet = ⊥
IsEarly Astray = Unit {0}
IsEarly (Violation k) = Unit {0}
IsEarly (Full k) = Unit {0}
IsEarly Memory = Unit {0}

-- a state that ends a worker is one that the client's steps reach, by the actors that are kept with it
abbrev pub IsEndingOf : Client → Ending → Type 0
IsEndingOf c Quiet = Unit {0}
IsEndingOf c Astray = Unit {0}
IsEndingOf c (Violation k) = IsKept c k × IsBad c k.state
IsEndingOf c (Full k) = IsKept c k
IsEndingOf c Memory = Unit {0}

-- what ends a worker before all is worked
pub record IsEndedBy (c : Client) (e : Ending) : Type 0 where
  pub early : IsEarly e
  pub ending : IsEndingOf c e
