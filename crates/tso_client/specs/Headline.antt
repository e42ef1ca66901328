-- What an accepted certificate promises, in the words of the machine and of program texts alone.
use Rattle.std.specs.Prelude.{◌≡◌, ℕ, List, Ok}
use Rattle.tso_flow.specs.Faults.{HasNoFault}
use Rattle.tso_machine.specs.Activations.{Activation}
use Rattle.tso_machine.specs.Places.{first_memory}
use Rattle.tso_machine.specs.Programs.{program_of}
use Rattle.tso_model.specs.Certificate.{IsGood}
use Rattle.tso_model.specs.Labels.{Label, Machine, Run, first_machine}
use Rattle.tso_model.specs.Objects.{Queue}
use Rattle.tso_prog.specs.Client.{client}
use Rattle.tso_prog.specs.Parts.{HasLines, HasParts}
use Rattle.tso_prog.specs.Program.{lines_of}
use Rattle.tso_prog.specs.Text as text
use Rattle.tso_prog.specs.Views.{mode_view}
use Rattle.tso_prog.specs.declared.client.Client.{Client}
use Rattle.tso_text.specs.Lexing.{tokens_of}

-- Each run of the client's label machine is good, ended or not, inside locked instructions and with full store buffers: no
-- fault stands in it, and its calls and returns are linearizable against the bounded queue of the client's mode and capacity.
abbrev pub EachRunIsGood : Client → Type 0
EachRunIsGood c = (labels : List Label) (m : Machine Activation) → Run (program_of c) (first_machine (program_of c) (first_memory c.arrays)) labels m
    → IsGood (Queue (mode_view c.mode) c.capacity) labels

-- the bytes denote a client, with each part that their lines give, whose flow of control has no fault
pub record DenotesChecked (bytes : List ℕ) (c : Client) : Type 0 where
  pub denoted : text.program_of bytes ≡ Ok (client c)
  pub parts : HasParts (lines_of bytes (tokens_of bytes)) (client c)
  pub lines : HasLines (lines_of bytes (tokens_of bytes)) c.push.lines c.pop.lines
  pub sound : HasNoFault c

-- the bytes denote a checked client, all of whose runs are good
pub record IsVerified (bytes : List ℕ) : Type 0 where
  pub verified : Client
  pub denotes : DenotesChecked bytes verified
  pub good : EachRunIsGood verified
