-- The names of a procedure's labels as a set.
use Rattle.std.specs.Prelude.{◌≡◌, List}
use Rattle.std.specs.Ordering.{nat_cmp}
use Rattle.std.specs.List.{list_any}
use Rattle.std.specs.Str.{bytes_eq}
use Rattle.std.specs.Cmp.Lexicographic.{slice_cmp}
use Rattle.std.specs.BTreeSet.{BTreeSet, contains_by}
use Rattle.tso_line.specs.Lines.{Name}
use Rattle.tso_prog.specs.declared.named.Target.{Target}

module _ {K : Type 0} (bytes : K → Name) where
  -- the set has a name exactly where a label has it
  abbrev pub AreNamed : BTreeSet K → List Target → Type 0
  AreNamed names labels = (name : Name) → contains_by (λ k. slice_cmp nat_cmp name (bytes k)) names ≡ list_any (λ l. bytes_eq l.name.now name) labels
