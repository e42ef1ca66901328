-- What is shown of the machine after a label, as text.
use Rattle.std.specs.Prelude.{ℕ, ◌+◌, if◌then◌else◌, List, [], ◌∷◌, ◌++◌, codes, decimal, Option, Some, None, slice_get}
use Rattle.tso_machine.specs.declared.label.Label.{Label}
use Rattle.tso_machine.specs.declared.label.LabelKind.{LabelKind}
use Rattle.tso_machine.specs.declared.label.LabelKind.TheVariants as kinds
use Rattle.tso_machine.specs.declared.machine.Core.{Core}
use Rattle.tso_machine.specs.declared.machine.Core.TheVariants as cores
use Rattle.tso_machine.specs.declared.machine.Machine.{Machine}
use Rattle.tso_machine.specs.declared.machine.Thread.{Thread}
use Rattle.tso_prog.specs.declared.client.Array.{Array}
use Rattle.tso_prog.specs.declared.client.Client.{Client}
use Rattle.tso_show.specs.Buffers.{live_text, origin_text, words_text}
use Rattle.tso_show.specs.Registers.{frame_text}
use Rattle.tso_show.specs.declared.state.Show.{Show}

abbrev pub core_line : Client → Core → List ℕ
core_line c (cores.Running r) = codes "       registers" ++ (frame_text c r ++ codes "\n")
core_line c _ = []

abbrev pub thread_line : Client → Option Thread → List ℕ
thread_line c None = []
thread_line c (Some t) = core_line c t.core

-- the registers and flags of the thread, where it runs a call
abbrev pub registers_line : Client → Machine → ℕ → List ℕ
registers_line c m thread = thread_line c (slice_get m.threads thread)

-- where a read found its word
abbrev pub read_line : Machine → ℕ → LabelKind → List ℕ
read_line m thread (kinds.Read place word) = codes "       read " ++ (origin_text m thread place ++ codes "\n")
read_line m thread _ = []

-- what a thread's stores are that are not yet in memory
abbrev pub buffer_line : List Array → ℕ → Thread → List ℕ
buffer_line arrays number t = (codes "       buffer " ++ decimal number) ++ (live_text arrays t.buffer.live ++ codes "\n")

-- of threads, the first of which has this number
abbrev pub buffer_lines : List Array → ℕ → List Thread → List ℕ
buffer_lines arrays number [] = []
buffer_lines arrays number (t ∷ ts) = buffer_line arrays number t ++ buffer_lines arrays (number + 1) ts

-- memory, and each store buffer
abbrev pub buffers_text : List Array → Machine → List ℕ
buffers_text arrays m = codes "       memory  " ++ (words_text arrays 0 m.memory ++ (codes "\n" ++ buffer_lines arrays 0 m.threads))

-- the registers, where they are asked for
abbrev pub registers_shown : Show → Client → Machine → ℕ → List ℕ
registers_shown show c m thread = if show.registers then registers_line c m thread else []

-- memory and store buffers, where they are asked for
abbrev pub buffers_shown : Show → List Array → Machine → Label → List ℕ
buffers_shown show arrays m l = if show.buffers then read_line m l.thread l.kind ++ buffers_text arrays m else []

-- what is asked for of the machine after the label
abbrev pub shown_text : Show → Client → Machine → Label → List ℕ
shown_text show c m l = registers_shown show c m l.thread ++ buffers_shown show c.arrays m l
