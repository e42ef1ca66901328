-- A program before its first line.
use Rattle.std.specs.Prelude.{[]}
use Rattle.tso_line.specs.declared.instruction.Mode.TheVariants as modes
use Rattle.tso_prog.specs.declared.draft.Part.TheVariants as parts
use Rattle.tso_prog.specs.Contents.{Content}

-- nothing is read, and the capacity comes next
abbrev pub start : Content
start = record {
  part = parts.Capacity;
  capacity = 0;
  mode = modes.Strict;
  arrays = [];
  words = 0;
  push = record { labels = []; steps = [] };
  pop = record { labels = []; steps = [] };
  prologue = [];
  threads = [];
  calls = 0;
}
