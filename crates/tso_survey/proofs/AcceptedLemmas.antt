-- The client of a text that was verified, and of one that a verified client covers.
use Rattle.std.proofs.Common.{◌≡◌, ◌∙◌, ℕ, List, Result, Ok, sym, subst}
use Rattle.std.proofs.Math.Logic.{∥∥₁_map}
use Rattle.tso_client.proofs.OneText.{same_client}
use Rattle.tso_client.specs.Headline.{DenotesChecked, EachRunIsGood, IsVerified}
use Rattle.tso_client.proofs.Serving.{goodness_goes_down}
use Rattle.tso_client.specs.Clients.{ClientCovers}
use Rattle.tso_prog.specs.Client.{client}
use Rattle.tso_prog.specs.Clients.{ClientOf}
use Rattle.tso_prog.specs.declared.client.Client.{Client}
use Rattle.tso_prog.specs.declared.fault.Fault.{Fault}
use Rattle.tso_survey.specs.Verified.{IsGoodText}

same_value : (r : Result ClientOf Fault) (x y : ClientOf) → r ≡ Ok x → r ≡ Ok y → x ≡ y
same_value r x y e f = cc

-- a text denotes one client, so what was verified of its client is so of this one
pub verified_good : (text : List ℕ) (c : Client) → DenotesChecked text c → IsVerified text → IsGoodText text c
verified_good text c d v =
    let lines = d.lines in
    let others = v.denotes.lines in
    let same : v.verified ≡ c = same_client v.verified c (same_value _ (client v.verified) (client c) v.denotes.denoted d.denoted) (others.push_lines ∙ sym lines.push_lines) (others.pop_lines ∙ sym lines.pop_lines) in
    record { denotes = d; good = subst EachRunIsGood same v.good }

pub covered_good : (text whole : List ℕ) (small large : Client) → DenotesChecked text small → ClientCovers small large → ∥ IsGoodText whole large ∥₁ → ∥ IsGoodText text small ∥₁
covered_good text whole small large d covers x = ∥∥₁_map x (λ v. record { denotes = d; good = goodness_goes_down small large covers v.good })

pub good_verified : (text other : List ℕ) (c : Client) → text ≡ other → ∥ IsGoodText text c ∥₁ → ∥ IsVerified other ∥₁
good_verified text other c same x = ∥∥₁_map x (λ v. subst IsVerified same (record { verified = c; denotes = v.denotes; good = v.good }))
