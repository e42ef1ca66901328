-- Records of a tree in which states are looked up by halves. Nothing here need be believed: it serves the code.
use Rattle.std.specs.Prelude.{◌≡◌, ◌+◌, ℕ, List, Option, Some, slice_get}
use Rattle.tso_cert.specs.Lookup.{tree_states}
use Rattle.tso_cert.specs.Trees.{records_of, tree_of}
use Rattle.tso_check.specs.Spans.{Span}
use Rattle.tso_check.specs.Verdicts.{AreJudged}
use Rattle.tso_judge.specs.declared.whole.Whole.{Whole}
use Rattle.tso_check.specs.declared.judging.Bad.{Bad}
use Rattle.tso_rec.specs.declared.record.Record.{Record}

-- what is found of records, of which the first has this number
abbrev pub AreJudgedIn : Whole → List Record → ℕ → Option Bad → Type 0
AreJudgedIn w records start found = AreJudged w.checked.now.client w.basis.now (tree_states (tree_of w.tree.now)) records start found

-- from this number on these are the records
pub record AreFrom (all : List Record) (start : ℕ) (part : List Record) : Type 0 where
  pub each : (k : ℕ) (r : Record) → slice_get part k ≡ Some r → slice_get all (start + k) ≡ Some r

abbrev pub part_span : Whole → ℕ → ℕ → Span
part_span w from to = record { client = w.checked.now.client; basis = w.basis.now; records = records_of (tree_of w.tree.now); from = from; to = to }
