-- Hulls of the words that were seen.
use Rattle.std.specs.Prelude.{◌≡◌, ℕ, List, [], ◌∷◌, length, replicate, Some, slice_get, slice_index_or, slice_set, IsTrue}
use Rattle.tso_flow.specs.declared.location.ProcedureKind.{ProcedureKind}
use Rattle.tso_flow.specs.declared.location.ProcedureKind.TheVariants as procedures
use Rattle.tso_cells.specs.Intervals.{lie_in}
use Rattle.tso_cells.specs.declared.interval.Interval.{Interval}
use Rattle.tso_prog.specs.declared.client.Client.{Client}
use Rattle.tso_cells.specs.Growing.{empty, with_word}
use Rattle.tso_cells.specs.declared.hulls.Hull.{Hull}

-- nothing was seen at so many positions
abbrev pub empty_rows : ℕ → List (List Interval)
empty_rows count = replicate count (replicate 15 empty)

abbrev pub empty_hull : Client → Hull
empty_hull c = record { push = empty_rows (length c.push.instructions); pop = empty_rows (length c.pop.instructions) }

-- each register's interval with one word more
abbrev pub with_words : List Interval → List ℕ → List Interval
with_words [] words = []
with_words (i ∷ is) [] = i ∷ is
with_words (i ∷ is) (word ∷ words) = with_word i word ∷ with_words is words

abbrev pub row_at : List (List Interval) → ℕ → List Interval
row_at rows position = slice_index_or rows position []

abbrev pub with_words_at : List (List Interval) → ℕ → List ℕ → List (List Interval)
with_words_at rows position words = slice_set rows position (with_words (row_at rows position) words)

abbrev pub rows_of : Hull → ProcedureKind → List (List Interval)
rows_of hull procedures.Push = hull.push
rows_of hull procedures.Pop = hull.pop

-- the hull with the words of the registers at a position of a procedure
abbrev pub taken_in : Hull → ProcedureKind → ℕ → List ℕ → Hull
taken_in hull procedures.Push position words = record hull { push = with_words_at hull.push position words }
taken_in hull procedures.Pop position words = record hull { pop = with_words_at hull.pop position words }

-- what lies in a row before lies in that of its position afterwards, and there are as many rows
pub record KeepsWords (before after : List (List Interval)) : Type 0 where
  pub count : length after ≡ length before
  pub lying : (n : ℕ) (xs ys : List Interval) (words : List ℕ) → slice_get before n ≡ Some xs → slice_get after n ≡ Some ys → IsTrue (lie_in xs words) → IsTrue (lie_in ys words)
