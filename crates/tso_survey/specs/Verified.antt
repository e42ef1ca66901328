-- Texts whose clients' runs are all good.
use Rattle.std.specs.Prelude.{ℕ, List}
use Rattle.tso_client.specs.Headline.{DenotesChecked, EachRunIsGood}
use Rattle.tso_prog.specs.declared.client.Client.{Client}

-- the bytes denote this checked client, each of whose runs is good
pub record IsGoodText (bytes : List ℕ) (c : Client) : Type 0 where
  pub denotes : DenotesChecked bytes c
  pub good : EachRunIsGood c
