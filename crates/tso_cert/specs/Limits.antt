-- Where bytes pass a limit, said of the bytes alone.
use Rattle.std.specs.Prelude.{◌≡◌, ℕ, suc, ◌-◌, ◌^◌, ◌<◌, ◌≤◌, List, [], ◌∷◌, ◌++◌, min}
use Rattle.tso_code.specs.Numbers.{number}
use Rattle.tso_code.specs.States.{state, StateFits}
use Rattle.tso_rec.specs.declared.basis.Basis.{Basis}
use Rattle.tso_rec.specs.declared.basis.Grain.{Grain}
use Rattle.tso_state.specs.declared.state.State.{State}
use Rattle.tso_cert.specs.Certificates.{front, FrontFits, magic, Spells}
use Rattle.tso_cert.specs.Trees.{Tree, spelling_of, record_count, TreeFits, IsWithin, IsWithinLimits}

-- The beginning of a tree that goes beyond a limit with its last byte, where at most depth forks may be inside one another and at
-- most room records may come.
pub data GoesBeyond (g : Grain) : ℕ → ℕ → List ℕ → Type 0 where
  -- the count of a leaf
  leaf_count : (depth room n : ℕ) → n < 2 ^ 64 → min 64 room < n → GoesBeyond g depth room (0 ∷ number n)
  -- a fork inside too many others
  fork_inside : (room : ℕ) → GoesBeyond g 0 room (1 ∷ [])
  -- in the left half of a fork
  in_left : (depth room : ℕ) (start : List ℕ) → GoesBeyond g depth room start → GoesBeyond g (suc depth) room (1 ∷ start)
  -- in the right half of a fork
  in_right : (depth room : ℕ) (left : Tree) (s : State) (start : List ℕ) → TreeFits g left → IsWithin depth left → record_count left ≤ room → StateFits s
      → GoesBeyond g depth (room - record_count left) start → GoesBeyond g (suc depth) room (1 ∷ (spelling_of g left ++ (state s ++ start)))

-- the bytes begin as a certificate, and go beyond a limit before they stop being the beginning of one
abbrev pub PassesLimit : List ℕ → Type 0
PassesLimit bytes = (b : Basis) × (start : List ℕ) × (rest : List ℕ) × FrontFits b × GoesBeyond b.grain 64 4194304 start × (bytes ≡ magic b.grain ++ (front b ++ (start ++ rest)))

-- the bytes spell nothing within the limits, and pass none
abbrev pub IsNoCertificate : List ℕ → Type 0
IsNoCertificate bytes = ((b : Basis) (c : Tree) → Spells bytes b c → IsWithinLimits c → ⊥) × (PassesLimit bytes → ⊥)

-- bytes spell at most one value within the limits, and a value has at most one spelling
pub record SpellingsAreUnique : Type 0 where
  pub one_value : (bytes : List ℕ) (a b : Basis) (c d : Tree) → Spells bytes a c → IsWithinLimits c → Spells bytes b d → IsWithinLimits d → (a ≡ b) × (c ≡ d)
  pub one_spelling : (bytes others : List ℕ) (b : Basis) (c : Tree) → Spells bytes b c → Spells others b c → bytes ≡ others
  -- what passes a limit spells nothing within the limits
  pub not_both : (bytes : List ℕ) (b : Basis) (c : Tree) → Spells bytes b c → IsWithinLimits c → PassesLimit bytes → ⊥
