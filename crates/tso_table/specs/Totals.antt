-- What all shards have together.
use Rattle.std.specs.Prelude.{◌≡◌, ◌+◌, ◌^◌, ◌<◌, ◌⊎◌, ℕ, List, [], ◌∷◌, length}
use Rattle.tso_parts.specs.Numbers.{IsNowhere}
use Rattle.tso_state.specs.declared.state.State.{State}
use Rattle.tso_table.specs.OneThread.{Call, IsRefused}
use Rattle.tso_table.specs.Sheets.{Sheet}
use Rattle.tso_table.specs.declared.errors.FinishError.{FinishError}
use Rattle.tso_table.specs.declared.errors.FinishError.TheVariants.{NotReady, Memory as Uncounted}
use Rattle.tso_table.specs.declared.errors.InternError.{InternError}
use Rattle.tso_table.specs.declared.errors.InternError.TheVariants.{Full, Memory}

-- how many entries a shard can count
abbrev pub allotment : ℕ
allotment = 2 ^ 63

-- what contracts see of a budget: the units that it began with, and how many of them were given
pub record Purse : Type 0 where
  pub limit : ℕ
  pub given : ℕ

-- what the shares of a shard say of its table
pub record Claims : Type 0 where
  pub number : ℕ
  pub states : ℕ
  pub entries : ℕ

abbrev pub claims : Sheet → Claims
claims s = record { number = s.number; states = length s.rows.states; entries = s.entries }

-- how many states all have
abbrev pub all_states : List Claims → ℕ
all_states [] = 0
all_states (x ∷ more) = x.states + all_states more

-- how long all logs are
abbrev pub all_entries : List Claims → ℕ
all_entries [] = 0
all_entries (x ∷ more) = x.entries + all_entries more

-- Why a state has no number: it is not there and the budget is empty; else it is not there, a unit is left and a growth was refused,
-- or no entry more can be counted.
abbrev pub IsRefusal : Sheet → Purse → State → InternError → Type 0
IsRefusal t b s Full = IsNowhere t.rows.states s × (b.given ≡ b.limit)
IsRefusal t b s Memory = (IsNowhere t.rows.states s × (b.given < b.limit)) ⊎ (t.entries ≡ allotment)

-- why an end is not filed: one thread's call is refused, or no entry more can be counted
abbrev pub IsUnfiled : Sheet → Call → FinishError → Type 0
IsUnfiled s call NotReady = IsRefused s.rows call
IsUnfiled s call Uncounted = s.entries ≡ allotment
