-- When a client covers another: the same memory, code and prologue, a queue that may do no less, and for each thread one of the
-- other's whose calls begin with its own.
use Rattle.std.specs.Prelude.{◌≡◌, ◌≢◌, ◌⊎◌, ℕ, ◌<◌, ◌/◌, ◌%◌, List, [], ◌∷◌, length, slice_index_or}
use Rattle.std.specs.List.Sorted.{IsPermutation}
use Rattle.tso_client.specs.Covering.{Covers, IsBeginning}
use Rattle.tso_line.specs.declared.instruction.CallKind.{CallKind}
use Rattle.tso_line.specs.declared.instruction.Mode.{Mode}
use Rattle.tso_line.specs.declared.instruction.Mode.TheVariants.{Weak}
use Rattle.tso_machine.specs.Programs.{program_of}
use Rattle.tso_prog.specs.declared.client.Client.{Client}

-- a queue of the small one's mode may do what one of the large one's may: the mode is the same, or weak
abbrev pub IsNoStricter : Mode → Mode → Type 0
IsNoStricter small large = (small ≡ large) ⊎ (small ≡ Weak)

-- the two differ in nothing but the calls of their threads, the lines of their instructions and perhaps their modes
pub record AreAlike (small large : Client) : Type 0 where
  pub capacity : large.capacity ≡ small.capacity
  pub mode : IsNoStricter small.mode large.mode
  pub arrays : large.arrays ≡ small.arrays
  pub push : large.push.instructions ≡ small.push.instructions
  pub pop : large.pop.instructions ≡ small.pop.instructions
  pub prologue : large.prologue ≡ small.prologue

-- the calls of thread i, which is not the prologue's
abbrev pub thread_calls : Client → ℕ → List CallKind
thread_calls c i = slice_index_or c.threads i []

-- thread i of the small one is thread e i of the large one, and makes a beginning of its calls; no two are one
pub record ArePlaced (e : ℕ → ℕ) (small large : Client) : Type 0 where
  pub within : (i : ℕ) → i < length small.threads → e i < length large.threads
  pub apart : (i j : ℕ) → i < length small.threads → j < length small.threads → e i ≡ e j → i ≡ j
  pub calls : (i : ℕ) → i < length small.threads → IsBeginning (thread_calls small i) (thread_calls large (e i))

-- the two are alike, and the threads of the small one have places among those of the large one
abbrev pub ClientCovers : Client → Client → Type 0
ClientCovers small large = AreAlike small large × ((e : ℕ → ℕ) × ArePlaced e small large)

-- ---- laws

-- where a client covers another, so does its program of the model
abbrev pub ProgramsFollow : Type 0
ProgramsFollow = (small large : Client) → ClientCovers small large → Covers (program_of small) (program_of large)

-- a client covers each one that has the same threads in another order, and so the two cover each other where their modes are one
abbrev pub OrderIsNothing : Type 0
OrderIsNothing = (small large : Client) → AreAlike small large → IsPermutation small.threads large.threads → ClientCovers small large

-- a client covers itself
abbrev pub ClientsCoverThemselves : Type 0
ClientsCoverThemselves = (c : Client) → ClientCovers c c

-- what covers a client covers all that this one covers
abbrev pub ClientCoversIsTransitive : Type 0
ClientCoversIsTransitive = (a b c : Client) → ClientCovers a b → ClientCovers b c → ClientCovers a c

-- ---- threads one by one

-- thread i of the small one is thread e i of the large one, makes a beginning of its calls, and is none that an earlier thread is
pub record IsPlacedAt (e : ℕ → ℕ) (small large : Client) (i : ℕ) : Type 0 where
  pub within : e i < length large.threads
  pub calls : IsBeginning (thread_calls small i) (thread_calls large (e i))
  pub apart : (j : ℕ) → j < i → e j ≢ e i

-- the places of four threads, each one of four, in one number below 256
abbrev pub places_of : ℕ → List ℕ
places_of code = code % 4 ∷ code / 4 % 4 ∷ code / 16 % 4 ∷ code / 64 % 4 ∷ []

-- the place of thread i among these
abbrev pub place_in : List ℕ → ℕ → ℕ
place_in places i = slice_index_or places i 0
