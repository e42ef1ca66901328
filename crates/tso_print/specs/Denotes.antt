-- What a text denotes, and what reading it answers.
use Rattle.std.specs.Prelude.{◌≡◌, ℕ, List, Result, Ok, Err}
use Rattle.tso_prog.specs.declared.client.Client.{Client}
use Rattle.tso_prog.specs.declared.fault.ReadError.{ReadError}
use Rattle.tso_prog.specs.declared.fault.ReadError.TheVariants.{Refused, Memory}
use Rattle.tso_prog.specs.Client.{client}
use Rattle.tso_prog.specs.Clients.{ClientOf}
use Rattle.tso_prog.specs.Program.{Gives}
use Rattle.tso_prog.specs.Text.{program_of}

-- the text denotes this client, whatever lines its instructions stand on
abbrev pub Denotes : List ℕ → ClientOf → Type 0
Denotes text c = program_of text ≡ Ok c

-- a client that is this one but for its lines, or want of memory
abbrev pub IsReadAs : Result Client ReadError → ClientOf → Type 0
IsReadAs (Ok x) c = client x ≡ c
IsReadAs (Err Memory) c = Unit {0}
IsReadAs (Err (Refused f)) c = ⊥

-- whatever the reader's contract lets it answer of a text that denotes a client
abbrev pub ReadsBack : Type 0
ReadsBack = (text : List ℕ) (c : ClientOf) (answer : Result Client ReadError) → Denotes text c → Gives client answer (program_of text) → IsReadAs answer c
