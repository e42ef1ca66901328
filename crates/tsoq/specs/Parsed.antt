-- What `parse` prints.
use Rattle.std.specs.Prelude.{◌≡◌, ℕ, Bool, List}
use Rattle.tso_client.specs.Headline.{DenotesChecked}
use Rattle.tso_prog.specs.declared.client.Client.{Client}
use Rattle.tso_say.specs.Pages.{parsed_text}

-- it is said of the client that the program denotes
pub record IsParsed (program : List ℕ) (prints : Bool) (text : List ℕ) : Type 0 where
  pub parsed : Client
  pub denoted : DenotesChecked program parsed
  pub said : text ≡ parsed_text prints parsed
