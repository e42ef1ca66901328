-- Intel 64 on words of 64 bits: results, the flags ZF, CF, SF and OF, and the conditions.
use Rattle.std.specs.Prelude.{ℕ, ◌+◌, ◌-◌, ◌%◌, ◌^◌, Bool, true, false, not, ◌&&◌, ◌||◌, ◌==◌, nat_lt, nat_le, if◌then◌else◌, bit_and, bit_or, bit_xor, ℤ, pos, ◌+ℤ◌, ◌-ℤ◌, int_lt}
use Rattle.tso_word.specs.declared.Flags.{Flags}
use Rattle.tso_word.specs.declared.Condition.{Condition}
use Rattle.tso_word.specs.declared.Condition.TheVariants.{E, Ne, B, Ae, Be, A, L, Ge, Le, G}
use Rattle.tso_word.specs.declared.BitOperation.{BitOperation}
use Rattle.tso_word.specs.declared.BitOperation.TheVariants.{And, Or, Xor}

-- ---- results

abbrev pub sum : ℕ → ℕ → ℕ
sum a b = (a + b) % 2 ^ 64

abbrev pub difference : ℕ → ℕ → ℕ
difference a b = (a + (2 ^ 64 - b)) % 2 ^ 64

abbrev pub bitwise : BitOperation → ℕ → ℕ → ℕ
bitwise And a b = bit_and a b
bitwise Or a b = bit_or a b
bitwise Xor a b = bit_xor a b

-- ---- flags

-- the number that a word stands for in signed arithmetic
abbrev pub signed : ℕ → ℤ
signed a = if nat_lt a (2 ^ 63) then pos a else (pos a -ℤ pos (2 ^ 64))

-- the number leaves the range from -2^63 to 2^63-1
abbrev pub leaves_signed : ℤ → Bool
leaves_signed z = int_lt z (pos 0 -ℤ pos (2 ^ 63)) || int_lt (pos (2 ^ 63 - 1)) z

-- CF: the sum reaches 2^64. OF: the sum of the signed numbers leaves their range.
unfoldable pub sum_flags : ℕ → ℕ → Flags
sum_flags a b = record {
  zf = sum a b == 0;
  cf = nat_le (2 ^ 64) (a + b);
  sf = nat_le (2 ^ 63) (sum a b);
  of = leaves_signed (signed a +ℤ signed b);
}

-- CF: a is below b. OF: the difference of the signed numbers leaves their range.
unfoldable pub difference_flags : ℕ → ℕ → Flags
difference_flags a b = record {
  zf = difference a b == 0;
  cf = nat_lt a b;
  sf = nat_le (2 ^ 63) (difference a b);
  of = leaves_signed (signed a -ℤ signed b);
}

unfoldable pub bitwise_flags : BitOperation → ℕ → ℕ → Flags
bitwise_flags operation a b = record {
  zf = bitwise operation a b == 0;
  cf = false;
  sf = nat_le (2 ^ 63) (bitwise operation a b);
  of = false;
}

-- these flags with another carry
abbrev pub with_carry : Bool → Flags → Flags
with_carry carry flags = record flags { cf = carry }

-- ---- conditions

-- SF and OF differ
abbrev pub differ : Bool → Bool → Bool
differ true b = not b
differ false b = b

abbrev pub holds : Condition → Flags → Bool
holds E f = f.zf
holds Ne f = not f.zf
holds B f = f.cf
holds Ae f = not f.cf
holds Be f = f.cf || f.zf
holds A f = not f.cf && not f.zf
holds L f = differ f.sf f.of
holds Ge f = not (differ f.sf f.of)
holds Le f = f.zf || differ f.sf f.of
holds G f = not f.zf && not (differ f.sf f.of)
