-- Which program texts are refused.
use Rattle.std.specs.Prelude.{◌≡◌, ◌⊎◌, ℕ, Err, List, Ok}
use Rattle.tso_client.specs.declared.error.CheckError.{CheckError}
use Rattle.tso_client.specs.declared.error.CheckError.TheVariants.{Program, Memory}
use Rattle.tso_flow.specs.First.{IsRefusal}
use Rattle.tso_flow.specs.declared.flow.FlowError.TheVariants as flow
use Rattle.tso_prog.specs.Client.{client}
use Rattle.tso_prog.specs.Parts.{HasLines}
use Rattle.tso_prog.specs.Program.{lines_of}
use Rattle.tso_prog.specs.Text.{program_of}
use Rattle.tso_prog.specs.declared.client.Client.{Client}
use Rattle.tso_prog.specs.declared.fault.Fault.{Fault}
use Rattle.tso_text.specs.Lexing.{tokens_of}

-- the text denotes the client, whose instructions stand on their lines of the text
pub record IsClientOf (text : List ℕ) (c : Client) : Type 0 where
  pub denoted : program_of text ≡ Ok (client c)
  pub lines : HasLines (lines_of text (tokens_of text)) c.push.lines c.pop.lines

-- the text's first fault is this one, or it has none and this is the first fault in the control flow of the client that it denotes
abbrev pub IsRefused : List ℕ → Fault → Type 0
IsRefused text fault = (program_of text ≡ Err fault) ⊎ ((c : Client) × IsClientOf text c × IsRefusal c (flow.Refused fault))

-- why a program text and bytes get no verdict
abbrev pub IsNoVerdict : List ℕ → CheckError → Type 0
IsNoVerdict text (Program fault) = IsRefused text fault
IsNoVerdict text Memory = Unit {0}
