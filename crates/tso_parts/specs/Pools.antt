-- The values of a pool, in each of its forms.
use Rattle.std.specs.Prelude.{◌<◌, ◌^◌, List, length}
use Rattle.tso_parts.specs.Numbers.{IsNumbered}
use Rattle.tso_parts.specs.declared.pool.Items.{Items}
use Rattle.tso_parts.specs.declared.pool.Items.TheVariants.{Indexed, Listed}

-- those of an index, or of a list
abbrev pub values : {T : Type 0} → Items T → List T
values (Indexed set) = set.keys
values (Listed list) = list

-- each value of a list stands there once; of an index that is known
abbrev pub AreApart : {T : Type 0} → Items T → Type 0
AreApart (Indexed set) = Unit {0}
AreApart (Listed list) = IsNumbered list

-- there are not too many values, each once
pub record AreItems {T : Type 0} (items : Items T) : Type 0 where
  pub small : length (values items) < 2 ^ 32
  pub apart : AreApart items
