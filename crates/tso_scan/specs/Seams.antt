-- Forks at the front of a certificate. Nothing here need be believed: it serves the code.
use Rattle.std.specs.Prelude.{◌≡◌, ◌==◌, ◌<◌, if◌then◌else◌, ℕ, zero, suc, List, [], ◌∷◌, length, Ok}
use Rattle.tso_cert.specs.Certificates.{front_at}
use Rattle.tso_foot.specs.declared.table.Table.{Table}
use Rattle.tso_rec.specs.Bases.{by_steps}

-- how many bytes at the front are those of forks, of so many at most
abbrev pub forks_before : ℕ → List ℕ → ℕ
forks_before zero bytes = 0
forks_before (suc most) [] = 0
forks_before (suc most) (b ∷ bytes) = if b == 1 then suc (forks_before most bytes) else 0

-- behind the front of a certificate of steps so many forks stand inside one another, up to 64, and something behind them
pub record HasForks (bytes : List ℕ) (n : ℕ) : Type 0 where
  pub table : Table
  pub rest : List ℕ
  pub front : front_at bytes ≡ Ok (by_steps table, rest)
  pub forks : n ≡ forks_before 64 rest
  pub fewer : n < length rest
