-- States as data: arrays of numbers and texts.
use Rattle.std.specs.Prelude.{ℕ, ◌==◌, Bool, ◌||◌, List, [], ◌++◌, codes, decimal, Option, Some, None}
use Rattle.std.specs.Char.{is_ascii_digit, is_ascii_lowercase}
use Rattle.std.specs.List.{flat_map}
use Rattle.tso_machine.specs.declared.buffer.Entry.{Entry}
use Rattle.tso_machine.specs.declared.machine.Core.{Core}
use Rattle.tso_machine.specs.declared.machine.Core.TheVariants as cores
use Rattle.tso_machine.specs.declared.machine.Machine.{Machine}
use Rattle.tso_machine.specs.declared.machine.Thread.{Thread}
use Rattle.tso_prog.specs.declared.client.Client.{Client}
use Rattle.tso_show.specs.Registers.{frame_text}
use Rattle.tso_show.specs.Sites.{core_site}
use Rattle.tso_show.specs.declared.site.Site.{Site}

-- a word as a text
abbrev pub word_data : ℕ → List ℕ
word_data w = codes ",\"" ++ (decimal w ++ codes "\"")

-- a place, and a word as a text
abbrev pub entry_data : Entry → List ℕ
entry_data e = codes ",[" ++ (decimal e.place ++ (codes ",\"" ++ (decimal e.word ++ codes "\"]")))

-- registers and flags, where a call runs
abbrev pub core_data : Client → Core → List ℕ
core_data c (cores.Running r) = frame_text c r
core_data c _ = []

-- the line, 0 where there is no instruction
abbrev pub site_line : Option Site → ℕ
site_line None = 0
site_line (Some s) = s.line

-- the line of the next instruction, the store buffer, and registers and flags
abbrev pub thread_data : Client → Thread → List ℕ
thread_data c t =
    codes ",[" ++ (decimal (site_line (core_site c t.core)) ++ (codes ",[0" ++ (flat_map entry_data t.buffer.live ++ (codes "],\"" ++ (core_data c t.core ++ codes "\"]")))))

-- memory, and each thread
abbrev pub state_data : Client → Machine → List ℕ
state_data c m = codes "[[0" ++ (flat_map word_data m.memory ++ (codes "]" ++ (flat_map (thread_data c) m.threads ++ codes "]")))

-- letters, digits, spaces, ends of lines, and the signs of arrays and texts
abbrev pub is_data : ℕ → Bool
is_data b =
    is_ascii_digit b
    || (is_ascii_lowercase b || ((b == 10) || ((b == 32) || ((b == 34) || ((b == 44) || ((b == 61) || ((b == 91) || (b == 93))))))))
