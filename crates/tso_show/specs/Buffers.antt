-- Memory and store buffers, as text.
use Rattle.std.specs.Prelude.{ℕ, ◌+◌, ◌==◌, Bool, false, not, ◌||◌, if◌then◌else◌, List, [], ◌∷◌, ◌++◌, map, codes, decimal, Option, Some, None, slice_get}
use Rattle.std.specs.List.{flat_map, list_any}
use Rattle.tso_machine.specs.Machines.{entry_view}
use Rattle.tso_machine.specs.declared.buffer.Entry.{Entry}
use Rattle.tso_machine.specs.declared.machine.Machine.{Machine}
use Rattle.tso_machine.specs.declared.machine.Thread.{Thread}
use Rattle.tso_model.specs.States.{latest}
use Rattle.tso_prog.specs.declared.client.Array.{Array}
use Rattle.tso_trace.specs.Grammar.{cell_text}

-- two spaces, and `n[0] = 5`
abbrev pub entry_text : List Array → ℕ → ℕ → List ℕ
entry_text arrays place word = codes "  " ++ (cell_text arrays place ++ (codes " = " ++ decimal word))

-- words of memory, the first of which stands at this place
abbrev pub words_text : List Array → ℕ → List ℕ → List ℕ
words_text arrays place [] = []
words_text arrays place (word ∷ words) = entry_text arrays place word ++ words_text arrays (place + 1) words

-- the entries of a buffer, the oldest first
abbrev pub live_text : List Array → List Entry → List ℕ
live_text arrays [] = codes "  empty"
live_text arrays (e ∷ es) = flat_map (λ (x : Entry). entry_text arrays x.place x.word) (e ∷ es)

-- the buffer has an entry for the place
abbrev pub holds : ℕ → Thread → Bool
holds place t = list_any (λ (e : Entry). e.place == place) t.buffer.live

-- the newest one's word, 0 where there is none
abbrev pub newest : ℕ → Thread → ℕ
newest place t = latest (map entry_view t.buffer.live) place 0

-- what another thread than the reader has for the place
abbrev pub holder_text : ℕ → ℕ → ℕ → Thread → List ℕ
holder_text reader place number t =
    if (number == reader) || not (holds place t) then [] else codes ", while " ++ (decimal (newest place t) ++ (codes " is in the buffer of thread " ++ decimal number))

-- of threads, the first of which has this number
abbrev pub holders_text : ℕ → ℕ → ℕ → List Thread → List ℕ
holders_text reader place number [] = []
holders_text reader place number (t ∷ ts) = holder_text reader place number t ++ holders_text reader place (number + 1) ts

abbrev pub holds_some : ℕ → Option Thread → Bool
holds_some place None = false
holds_some place (Some t) = holds place t

-- the reader's own buffer has an entry for the place, which it then reads
abbrev pub reads_own : Machine → ℕ → ℕ → Bool
reads_own m reader place = holds_some place (slice_get m.threads reader)

-- where a read finds its word, and which stores to the place it does not see
abbrev pub origin_text : Machine → ℕ → ℕ → List ℕ
origin_text m reader place = (if reads_own m reader place then codes "from its own buffer" else codes "from memory") ++ holders_text reader place 0 m.threads
