-- Traces with labels left out.
use Rattle.std.specs.Prelude.{◌≡◌, ◌≤◌, length}
use Rattle.tso_prog.specs.declared.client.Client.{Client}
use Rattle.tso_trace.specs.Runs.{IsErrorTrace}
use Rattle.tso_trace.specs.declared.trace.Trace.{Trace}

-- a trace of a run of this client that is not good
abbrev pub IsTraceOf : Client → Trace → Type 0
IsTraceOf c t = (t.checked.client ≡ c) × ∥ IsErrorTrace c t.labels ∥₁

-- one with no more labels than another has
pub record IsShorter (c : Client) (old new : Trace) : Type 0 where
  pub trace : IsTraceOf c new
  pub shorter : length new.labels ≤ length old.labels
