-- The spellings of the parts of kept states, as the code has them. Nothing here need be believed: it serves the code.
use Rattle.std.specs.Prelude.{◌≡◌, ℕ, List, map}
use Rattle.tso_code.specs.Fields.{list}
use Rattle.tso_code.specs.Numbers.{number}
use Rattle.tso_code.specs.States.{call, thread}
use Rattle.tso_keys.specs.Keys.{AreSomeones}
use Rattle.tso_keys.specs.declared.key.Key.{Key}
use Rattle.tso_keys.specs.declared.parts.Parts.{Parts}

-- the keys are of states, and each part is spelled
pub record AreSpelled (p : Parts) (ks : List Key) (memories threads histories : List (List ℕ)) : Type 0 where
  pub kept : AreSomeones p ks
  pub memories_are : memories ≡ map (list number) p.memories
  pub threads_are : threads ≡ map thread p.threads
  pub histories_are : histories ≡ map (list (list call)) p.histories
