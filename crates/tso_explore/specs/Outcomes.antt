-- What a search finds.
use Rattle.std.specs.Prelude.{◌≡◌, ℕ}
use Rattle.tso_cert.specs.Trees.{tree_of}
use Rattle.tso_search.specs.Searched.{HasMore}
use Rattle.tso_explore.specs.declared.ended.Stopped.{Stopped}
use Rattle.tso_explore.specs.declared.ended.Stopped.TheVariants as stops
use Rattle.tso_explore.specs.declared.outcome.Outcome.{Outcome}
use Rattle.tso_explore.specs.declared.outcome.Outcome.TheVariants as found
use Rattle.tso_prog.specs.declared.client.Client.{Client}
use Rattle.tso_trace.specs.Runs.{IsErrorTrace}
use Rattle.tso_write.specs.Worked.{IsCertificate}

-- what is found: a valid certificate; the trace of an error of this client; that more states can be reached than the limit allows
abbrev pub IsOutcome : Client → ℕ → Outcome → Type 0
IsOutcome c limit (found.Certificate g cert) = IsCertificate c limit g (tree_of cert)
IsOutcome c limit (found.Trace trace) = (trace.checked.client ≡ c) × ∥ IsErrorTrace c trace.labels ∥₁
IsOutcome c limit found.LimitReached = HasMore c limit
IsOutcome c limit found.NoMemory = Unit {0}

-- why a search stopped early: the trace of an error of this client, or that more states can be reached than the limit allows
abbrev pub IsStopped : Client → ℕ → Stopped → Type 0
IsStopped c limit (stops.Trace trace) = (trace.checked.client ≡ c) × ∥ IsErrorTrace c trace.labels ∥₁
IsStopped c limit stops.LimitReached = HasMore c limit
