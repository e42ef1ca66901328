-- What a search knows before anything of it is written.
use Rattle.std.specs.Prelude.{◌≡◌, ◌≤◌, ℕ, length}
use Rattle.tso_explore.specs.Outcomes.{IsStopped}
use Rattle.tso_explore.specs.declared.ended.Ended.{Ended}
use Rattle.tso_explore.specs.declared.ended.Ended.TheVariants as endings
use Rattle.tso_explore.specs.declared.finding.Finding.{Finding}
use Rattle.tso_explore.specs.declared.finding.Finding.TheVariants as findings
use Rattle.tso_search.specs.declared.ground.Ground.{Ground}
use Rattle.tso_prog.specs.declared.client.Client.{Client}
use Rattle.tso_rec.specs.declared.basis.Grain.{Grain}
use Rattle.tso_search.specs.Grounds.{grain_of}
use Rattle.tso_search.specs.Searched.{AreSearched, HasMore}
use Rattle.tso_store.specs.Sheets.{Sheet}
use Rattle.tso_trace.specs.Runs.{IsErrorTrace}
use Rattle.tso_write.specs.Worked.{AreWorkedOut}

-- the store is of this client, all its states are worked, and there are no more of them than the limit allows; or this is why the
-- search stopped early
abbrev pub IsEnded : Client → ℕ → Ground → Sheet → Ended → Type 0
IsEnded c limit g store endings.Worked = (store.client ≡ c) × AreSearched c g store.states × (length store.states ≤ limit)
IsEnded c limit g store (endings.Early why) = IsStopped c limit why

-- what a search of this grain finds: no more worked states than the limit allows; the trace of an error of this client; that more can be reached
abbrev pub IsFinding : Client → ℕ → Grain → Finding → Type 0
IsFinding c limit grain (findings.Worked w) = AreWorkedOut c w × (length w.store.states ≤ limit) × (grain_of w.ground ≡ grain)
IsFinding c limit grain (findings.Trace trace) = (trace.checked.client ≡ c) × ∥ IsErrorTrace c trace.labels ∥₁
IsFinding c limit grain findings.LimitReached = HasMore c limit
IsFinding c limit grain findings.NoMemory = Unit {0}
