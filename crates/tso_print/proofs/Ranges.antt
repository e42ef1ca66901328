-- Numbers that are printed are read as the same words and displacements.
use Rattle.std.proofs.Common.{◌≡◌, ℕ, suc, ◌+◌, ◌-◌, ◌*◌, ◌/◌, ◌%◌, ◌^◌, ◌<◌, ◌≤◌, Bool, true, false, cond, List, [], ◌∷◌, Some, ℤ, pos, refl, sym, ap, arith}
use Rattle.std.specs.Prelude.{◌==◌, nat_lt, nat_le, negsuc}
use Rattle.std.specs.Option.{option_map}
use Rattle.std.proofs.lemmas.Bool.{leb-true, leb-false, le-leb, eqb-true}
use Rattle.std.proofs.lemmas.Bool.Decides.{nat_tests}
use Rattle.tso_line.specs.declared.lexeme.Ranged.TheVariants.{Within}
use Rattle.tso_line.specs.declared.shape.Offset.{Offset as CellOffset}
use Rattle.tso_line.specs.declared.shape.Offset.TheVariants as offsets
use Rattle.tso_line.specs.declared.instruction.Register.{Register}
use Rattle.tso_line.specs.declared.instruction.Source.{Source}
use Rattle.tso_line.specs.declared.instruction.Source.TheVariants as sources
use Rattle.tso_line.specs.declared.form.RawSource.{RawSource}
use Rattle.tso_line.specs.declared.form.RawSource.TheVariants as raws
use Rattle.tso_line.specs.declared.form.Form.TheVariants as forms
use Rattle.tso_line.specs.declared.instruction.Instruction.TheVariants as instructions
use Rattle.tso_line.specs.Proper.{is_near, is_narrow, is_word_source, is_narrow_source}
use Rattle.tso_line.specs.Lexemes.{signed}
use Rattle.tso_line.specs.Forms.{word_of, from_of, cells_at, cells_of, instruction_of}
use Rattle.tso_print.specs.Signs.{number, plus, minus}
use Rattle.tso_print.specs.Pieces.{Piece, tight, spaced}
use Rattle.tso_print.specs.Layout.{register_sign, source_pieces, offset_pieces}

-- ---- how a displacement and a source are printed

pub data Offset : Type 0 where
  none : Offset
  up : ℕ → Offset
  down : ℕ → Offset

abbrev pub offset_of : ℤ → Offset
offset_of (pos n) = cond (n == 0) none (up (n * 8))
offset_of (negsuc n) = down ((n + 1) * 8)

abbrev pub pieces_of_offset : Offset → List Piece
pieces_of_offset none = []
pieces_of_offset (up m) = spaced plus ∷ spaced (number m) ∷ []
pieces_of_offset (down m) = spaced minus ∷ spaced (number m) ∷ []

abbrev pub signed_of_offset : Offset → CellOffset
signed_of_offset none = offsets.Absent
signed_of_offset (up m) = offsets.By (signed false (Within m))
signed_of_offset (down m) = offsets.By (signed true (Within m))

pub offset_is : (z : ℤ) → offset_pieces z ≡ pieces_of_offset (offset_of z)
offset_is (negsuc n) = refl
offset_is (pos n) = by (n == 0)
  where
    by : (b : Bool) → cond b [] (spaced plus ∷ spaced (number (n * 8)) ∷ []) ≡ pieces_of_offset (cond b none (up (n * 8)))
    by true = refl
    by false = refl

pub data Origin : Type 0 where
  register : Register → Origin
  word : ℕ → Origin
  negative : ℕ → Origin

abbrev pub origin_of : Source → Origin
origin_of (sources.Register r) = register r
origin_of (sources.Word w) = cond (nat_lt w (2 ^ 63)) (word w) (negative (2 ^ 64 - w))

abbrev pub pieces_of_origin : Origin → List Piece
pieces_of_origin (register r) = spaced (register_sign r) ∷ []
pieces_of_origin (word w) = spaced (number w) ∷ []
pieces_of_origin (negative m) = spaced minus ∷ tight (number m) ∷ []

abbrev pub raw_of_origin : Origin → RawSource
raw_of_origin (register r) = raws.Register r
raw_of_origin (word w) = raws.Number (signed false (Within w))
raw_of_origin (negative m) = raws.Number (signed true (Within m))

pub source_is : (s : Source) → source_pieces s ≡ pieces_of_origin (origin_of s)
source_is (sources.Register r) = refl
source_is (sources.Word w) = by (nat_lt w (2 ^ 63))
  where
    by : (b : Bool) → cond b (spaced (number w) ∷ []) (spaced minus ∷ tight (number (2 ^ 64 - w)) ∷ []) ≡ pieces_of_origin (cond b (word w) (negative (2 ^ 64 - w)))
    by true = refl
    by false = refl

-- ---- displacements

whole : (n : ℕ) → (n * 8) % 8 ≡ 0
whole n = omega arith

eighth : (n : ℕ) → n * 8 / 8 ≡ n
eighth n = omega arith

up_is : (n : ℕ) → n < 2 ^ 28 → cells_at false (n * 8) ≡ Some (pos n)
up_is n lt =
    let most : nat_le (n * 8) (2 ^ 31 - 1) ≡ true = le-leb (n * 8) (2 ^ 31 - 1) (omega arith) in
    rw (whole n, most, eighth n) refl

down_is : (n : ℕ) → n < 2 ^ 28 → cells_at true ((n + 1) * 8) ≡ Some (negsuc n)
down_is n lt =
    let most : nat_le ((n + 1) * 8) (2 ^ 31) ≡ true = le-leb ((n + 1) * 8) (2 ^ 31) (omega arith) in
    let more : n + 1 ≡ suc n = omega arith in
    rw (whole (n + 1), most, eighth (n + 1), more) refl

pub cells_is : (z : ℤ) → is_near z ≡ true → cells_of (signed_of_offset (offset_of z)) ≡ Some z
cells_is (negsuc n) e = down_is n (leb-true (suc n) (2 ^ 28) e)
cells_is (pos n) e = by (n == 0) refl
  where
    by : (b : Bool) → (n == 0) ≡ b → cells_of (signed_of_offset (cond b none (up (n * 8)))) ≡ Some (pos n)
    by true f = ap (λ (k : ℕ). Some (pos k)) (sym (eqb-true n 0 f))
    by false f = up_is n (leb-true (suc n) (2 ^ 28) e)

-- ---- words

mod_small : (w : ℕ) → w < 2 ^ 64 → (2 ^ 64 - (2 ^ 64 - w)) % 2 ^ 64 ≡ w
mod_small w lt = let e : 2 ^ 64 - (2 ^ 64 - w) ≡ w = omega arith in rw e (omega arith)

word_plain : (w least greatest : ℕ) → w ≤ greatest → word_of least greatest (signed false (Within w)) ≡ Some w
word_plain w least greatest le = let t : nat_le w greatest ≡ true = le-leb w greatest le in rw t refl

word_far : (w least greatest : ℕ) → w < 2 ^ 64 → 2 ^ 64 - w ≤ least → word_of least greatest (signed true (Within (2 ^ 64 - w))) ≡ Some w
word_far w least greatest lt le = let t : nat_le (2 ^ 64 - w) least ≡ true = le-leb (2 ^ 64 - w) least le in rw (t, mod_small w lt) refl

narrow_near : (w : ℕ) → is_narrow w ≡ true → nat_lt w (2 ^ 63) ≡ true → w ≤ 2 ^ 31 - 1
narrow_near w e f = grind (arith, nat_tests)

narrow_far : (w : ℕ) → is_narrow w ≡ true → nat_lt w (2 ^ 63) ≡ false → (w < 2 ^ 64) × (2 ^ 64 - w ≤ 2 ^ 31)
narrow_far w e f = (grind (arith, nat_tests), grind (arith, nat_tests))

-- the source of an instruction that takes 32 bits
pub from_is : (s : Source) → is_narrow_source s ≡ true → from_of (raw_of_origin (origin_of s)) ≡ Some s
from_is (sources.Register r) e = refl
from_is (sources.Word w) e = by (nat_lt w (2 ^ 63)) refl
  where
    by : (b : Bool) → nat_lt w (2 ^ 63) ≡ b → from_of (raw_of_origin (cond b (word w) (negative (2 ^ 64 - w)))) ≡ Some (sources.Word w)
    by true f = ap (option_map sources.Word) (word_plain w (2 ^ 31) (2 ^ 31 - 1) (narrow_near w e f))
    by false f = let h = narrow_far w e f in ap (option_map sources.Word) (word_far w (2 ^ 31) (2 ^ 31 - 1) h.0 h.1)

-- a word that is moved to a register
pub move_is : (to : Register) (s : Source) → is_word_source s ≡ true → instruction_of (forms.Move to (raw_of_origin (origin_of s))) ≡ Some (instructions.Move to s)
move_is to (sources.Register r) e = refl
move_is to (sources.Word w) e = by (nat_lt w (2 ^ 63)) refl
  where
    lt : w < 2 ^ 64
    lt = leb-true (suc w) (2 ^ 64) e

    by : (b : Bool) → nat_lt w (2 ^ 63) ≡ b → instruction_of (forms.Move to (raw_of_origin (cond b (word w) (negative (2 ^ 64 - w))))) ≡ Some (instructions.Move to (sources.Word w))
    by true f = ap (option_map (λ (x : ℕ). instructions.Move to (sources.Word x))) (word_plain w (2 ^ 63) (2 ^ 64 - 1) (omega (arith, lt)))
    by false f = let ge : 2 ^ 63 < suc w = leb-false (suc w) (2 ^ 63) f in ap (option_map (λ (x : ℕ). instructions.Move to (sources.Word x))) (word_far w (2 ^ 63) (2 ^ 64 - 1) lt (omega (arith, ge)))
