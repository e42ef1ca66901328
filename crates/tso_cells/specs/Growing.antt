-- How intervals grow to hold others.
use Rattle.std.specs.Prelude.{◌≡◌, ℕ, ◌-◌, ◌<◌, ◌^◌, ◌&&◌, nat_le, if◌then◌else◌, Bool, true, false, List, length, slice_index_or, sum_by}
use Rattle.tso_cells.specs.Inductive.{AreInside}
use Rattle.tso_cells.specs.Intervals.{alone}
use Rattle.tso_cells.specs.declared.interval.Interval.{Interval}
use Rattle.tso_cells.specs.declared.growing.Growth.{Growth}
use Rattle.tso_cells.specs.declared.growing.Growth.TheVariants.{Least, Whole}

-- no words: its ends lie in those of each interval
abbrev pub empty : Interval
empty = record { lo = 2 ^ 64 - 1; hi = 0 }

-- each end of the one is in the other
abbrev pub is_inside : Interval → Interval → Bool
is_inside i j = nat_le j.lo i.lo && nat_le i.hi j.hi

-- the least interval that holds both
abbrev pub joined : Interval → Interval → Interval
joined i j = record { lo = if nat_le i.lo j.lo then i.lo else j.lo; hi = if nat_le i.hi j.hi then j.hi else i.hi }

-- the least interval with one word more
abbrev pub with_word : Interval → ℕ → Interval
with_word i word = joined i (alone word)

-- what an interval takes up that has to hold another one
abbrev pub taken : Growth → Interval → Interval → Interval
taken Least whole j = j
taken Whole whole j = whole

-- the interval, grown where it does not hold the other one
abbrev pub grown : Growth → Interval → Interval → Interval → Interval
grown growth whole i j = if is_inside j i then i else joined i (taken growth whole j)

abbrev pub interval_at : List Interval → ℕ → Interval
interval_at is n = slice_index_or is n empty

-- the intervals that do not hold the whole, by their number: so many can still grow to it
abbrev pub lacks : Interval → Interval → ℕ
lacks whole i = if is_inside whole i then 0 else 1

abbrev pub room : Interval → List Interval → ℕ
room whole is = sum_by (lacks whole) is

-- intervals before and after some of them grew, or none
pub record AreGrown (growth : Growth) (whole : Interval) (before after : List Interval) (is_grown : Bool) : Type 0 where
  pub count : length after ≡ length before
  pub keeps : AreInside before after
  pub fewer : growth ≡ Whole → is_grown ≡ true → room whole after < room whole before
  pub same : is_grown ≡ false → after ≡ before
