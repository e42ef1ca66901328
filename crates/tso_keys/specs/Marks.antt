-- What a key feeds a hasher with.
use Rattle.std.specs.Prelude.{ℕ, ◌+◌, ◌*◌, ◌++◌, List, [], ◌∷◌}
use Rattle.std.specs.Hash.{HashWrites, u32, u64}
use Rattle.tso_keys.specs.declared.key.Key.{Key}

-- two numbers below 2^32 as one
abbrev pub pair : ℕ → ℕ → ℕ
pair a b = a * 4294967296 + b

-- two numbers in a write, and the last of an odd count in one of its own
abbrev pub pairs : List ℕ → HashWrites
pairs [] = []
pairs (a ∷ []) = u32 a
pairs (a ∷ b ∷ rest) = u64 (pair a b) ++ pairs rest

abbrev pub key_writes : Key → HashWrites
key_writes k = u64 (pair k.memory k.history) ++ pairs k.threads
