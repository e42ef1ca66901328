use Rattle.std.proofs.Common.{◌≡◌, true, take, ◌<◌, ◌^◌}
use Rattle.std.specs.List.{list_all}
use Rattle.tso_line.specs.Words.{hexadecimal, is_hex}
use Rattle.tso_line.proofs.words.hex_of.Given as goal

abbrev pub invariant-loop-digit : goal.invariant-loop-digit
invariant-loop-digit l = record {
  digits : list_all is_hex (take l.digit-index l.digits) ≡ true;
  value : l.value ≡ hexadecimal (take l.digit-index l.digits);
  below : l.value < 16 ^ l.digit-index;
}
