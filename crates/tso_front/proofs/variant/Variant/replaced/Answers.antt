use Rattle.std.proofs.Common.{◌∙◌, inl, inr, arith, subst, List, ℕ}
use Rattle.tso_client.specs.Headline.{DenotesChecked}
use Rattle.tso_client.specs.Programs.{IsRefused}
use Rattle.tso_front.specs.Variants.{IsAllowed}
use Rattle.tso_prog.specs.declared.client.Client.{Client}
use Rattle.tso_front.proofs.VariantLemmas.{put_together, told}
use Rattle.tso_front.proofs.variant.Variant.replaced.Goals as goal
use Rattle.tso_front.proofs.variant.Variant.replaced.Goals.{in_default-via-in-Some+else-fault-head_lines, in_default-via-in_default}

pub returns-in-Some-clause-refused : goal.returns-in-Some-clause-refused
returns-in-Some-clause-refused c =
    let same = put_together c.args.self.now c.args.text.now _ _ c.in_ok-text.text.items c.in_ok-draft.ensures.head c.in_ok-draft.ensures.calls c.in_ok-text.ensures in
    let found = rw c.in-Some.is at c.in_ok-fault.ensures in
    let refused = subst (λ (bytes : List ℕ). IsRefused bytes c.in-Some.fault) (c.deref.ensures.value ∙ same) found in
    told c.args.self.now c.args.text.now _ c.requires (inr (inr (c.in-Some.fault, refused, omega (arith, c.in_ok-draft.ensures.lines)))) c.misused.ensures

pub returns-in_default-clause-made : goal.returns-in_default-clause-made
returns-in_default-clause-made c =
    let same = put_together c.args.self.now c.args.text.now _ _ c.in_ok-text.text.items c.in_ok-draft.ensures.head c.in_ok-draft.ensures.calls c.in_ok-text.ensures in
    let fault = c.in_ok-fault.ensures in
    let allowed : IsAllowed c.args.self.now c.args.text.now =
    elim c.in_default.branch [
      | in_default-via-in-Some+else-fault-head_lines w ↦
          let found = rw w.in-Some.is at fault in
          let refused = subst (λ (bytes : List ℕ). IsRefused bytes w.in-Some.fault) (c.deref.ensures.value ∙ same) found in
          inr (w.in-Some.fault, refused, omega (arith, c.in_ok-draft.ensures.lines))
      | in_default-via-in_default w ↦
          let found = rw w.in_default.is at fault in
          inl (subst (λ (bytes : List ℕ). (client : Client) × DenotesChecked bytes client) (c.deref.ensures.value ∙ same) found)
    ]
    in
    record { short = c.requires; fit = c.in_ok-refused.ensures; same = same; still_short = omega arith; allowed = allowed }
