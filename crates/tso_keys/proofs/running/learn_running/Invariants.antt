use Rattle.std.proofs.Common.{◌≡◌, length}
use Rattle.tso_keys.specs.Running.{AreRunning}
use Rattle.tso_keys.proofs.running.learn_running.Given as goal

abbrev pub invariant-loop-number : goal.invariant-loop-number
invariant-loop-number l = AreRunning l.histories l.running × (length l.running ≡ l.number)
