-- What is said of searches by steps.
use Rattle.std.specs.Prelude.{ℕ, Bool, List, []}
use Rattle.tso_foot.specs.declared.table.Table.{Table}
use Rattle.tso_foot.specs.declared.table.Table.TheVariants.{Arrays}
use Rattle.tso_prog.specs.declared.client.Client.{Client}
use Rattle.tso_search.specs.Searched as searched
use Rattle.tso_search.specs.declared.ground.Ground.{Ground}
use Rattle.tso_search.specs.declared.ground.Ground.TheVariants.{Steps}
use Rattle.tso_state.specs.declared.actor.Actor.{Actor}
use Rattle.tso_state.specs.declared.state.State.{State}

-- by steps, where nothing is asked of the table
abbrev pub any_steps : Ground
any_steps = Steps (Arrays (record { push = []; pop = [] }))

abbrev pub IsWorked : Client → Table → List State → State → Type 0
IsWorked c t states s = searched.IsWorked c (Steps t) states s

abbrev pub IsWorkedAt : Client → Table → List State → ℕ → Type 0
IsWorkedAt c t states n = searched.IsWorkedAt c (Steps t) states n

abbrev pub AreWorkedBetween : Client → Table → List State → ℕ → ℕ → Type 0
AreWorkedBetween c t states from to = searched.AreWorkedBetween c (Steps t) states from to

abbrev pub IsDone : Client → Table → List State → ℕ → Type 0
IsDone c t states n = searched.IsDone c (Steps t) states n

abbrev pub AreDone : Client → Table → List State → List Bool → Type 0
AreDone c t states marks = searched.AreDone c (Steps t) states marks

abbrev pub AreSearched : Client → Table → List State → Type 0
AreSearched c t states = searched.AreSearched c (Steps t) states

abbrev pub HasBegun : Client → List State → Type 0
HasBegun c states = searched.HasBegun c any_steps states

abbrev pub IsFollowed : Client → List State → List State → ℕ → Actor → Type 0
IsFollowed c old new n a = searched.IsFollowed c any_steps old new n a

abbrev pub AreFollowed : Client → List State → List State → ℕ → ℕ → ℕ → Type 0
AreFollowed c old new n set upto = searched.AreFollowed c any_steps old new n set upto
