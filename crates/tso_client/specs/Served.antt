-- What the good runs of clients say of other clients, in the words of the check's promise.
use Rattle.std.specs.Prelude.{ℕ, Any, List}
use Rattle.tso_client.specs.Headline.{EachRunIsGood, IsVerified}
use Rattle.tso_client.specs.Clients.{ClientCovers}
use Rattle.tso_prog.specs.declared.client.Client.{Client}

-- where each run of a client is good, so is each run of each client that it covers
abbrev pub GoodnessGoesDown : Type 0
GoodnessGoesDown = (small large : Client) → ClientCovers small large → EachRunIsGood large → EachRunIsGood small

-- and where a text was verified, so is each run of each client that the text's client covers
abbrev pub VerifiedServes : Type 0
VerifiedServes = (bytes : List ℕ) (v : IsVerified bytes) (small : Client) → ClientCovers small v.verified → EachRunIsGood small

-- one of the accepted clients covers the asked one
abbrev pub IsServed : List Client → Client → Type 0
IsServed accepted asked = Any (ClientCovers asked) accepted
