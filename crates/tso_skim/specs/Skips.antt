-- What passing over values comes to, against what reading them gives.
use Rattle.std.specs.Prelude.{◌≡◌, ◌==◌, ℕ, List, Option, Some, None, Result, Ok, Err, length, if◌then◌else◌}
use Rattle.tso_cert.specs.Certificates.{Branch}
use Rattle.tso_cert.specs.declared.fault.Fault.{Fault}
use Rattle.tso_cert.specs.declared.fault.Fault.TheVariants.{K01, K02}
use Rattle.tso_skim.specs.declared.skip.Stop.{Stop}
use Rattle.tso_skim.specs.declared.tree.Halt.{Halt}
use Rattle.tso_skim.specs.declared.tree.Halt.TheVariants as halts
use Rattle.tso_skim.specs.declared.whole.Skimmed.{Skimmed}
use Rattle.tso_skim.specs.declared.whole.Skimmed.TheVariants as told

-- ---- a value

-- the bytes behind what was read
abbrev pub after : {X : Type 0} → Option (X × List ℕ) → Option (List ℕ)
after (Some x) = Some x.1
after None = None

-- the bytes behind what was passed over
abbrev pub past : {R : Type 0} → (R → List ℕ) → Result R Stop → Option (List ℕ)
past view (Ok rest) = Some (view rest)
past view (Err stop) = None

-- ---- a tree

-- the fault of bytes that are not passed over
abbrev pub fault_of : Halt → Fault
fault_of halts.Cut = K01
fault_of halts.Broken = K01
fault_of halts.Beyond = K02

-- how many records may still come, and the bytes behind the tree that was read
abbrev pub without_tree : Branch → Result (ℕ × List ℕ) Fault
without_tree (Ok x) = Ok (x.1, x.2)
without_tree (Err fault) = Err fault

-- the same of a tree that was passed over
abbrev pub past_tree : {R : Type 0} → (R → ℕ × List ℕ) → Result R Halt → Result (ℕ × List ℕ) Fault
past_tree view (Ok rest) = Ok (view rest)
past_tree view (Err halt) = Err (fault_of halt)

-- ---- a certificate

-- the fault that reading met, if it met one
abbrev pub fault_in : {X : Type 0} → Result X Fault → Option Fault
fault_in (Ok x) = None
fault_in (Err fault) = Some fault

-- the fault of a tree that should take all bytes
abbrev pub fault_in_tree : Result (ℕ × List ℕ) Fault → Option Fault
fault_in_tree (Ok x) = if length x.1 == 0 then None else Some K01
fault_in_tree (Err fault) = Some fault

-- the fault of what bytes were found to be
abbrev pub fault_told : Skimmed → Option Fault
fault_told told.Whole = None
fault_told told.Cut = Some K01
fault_told told.Broken = Some K01
fault_told told.Beyond = Some K02
