use Rattle.std.proofs.Common.{◌≡◌, Some, option_map, ap, sym, ◌∙◌}
use Rattle.tso_rec.specs.Keeping.{record_of, records_of}
use Rattle.tso_rec.proofs.KeptLemmas.{same_state, state_at}
use Rattle.tso_state.specs.Order.{state_cmp}
use Rattle.tso_rec.proofs.packed.Packed.compare.Goals as goal

pub returns-clause-order : goal.returns-clause-order
returns-clause-order c =
    let list : c.args.self.now ≡ records_of c.as_slice.result.now = cc in
    let at = state_at c.args.self.now c.as_slice.result.now c.args.k c.index-as_slice-k.result list c.requires c.index-as_slice-k.is in
    ap (option_map (λ s. state_cmp s c.args.state.now)) at ∙ ap Some (sym c.compare.ensures)

pub returns-clause-same : goal.returns-clause-same
returns-clause-same c =
    let list : c.args.self.now ≡ records_of c.as_slice.result.now = cc in
    let at = state_at c.args.self.now c.as_slice.result.now c.args.k c.index-as_slice-k.result list c.requires c.index-as_slice-k.is in
    let same = same_state (record_of c.index-as_slice-k.result).state c.args.state.now c.compare.result c.compare.ensures in
    (λ h. at ∙ ap Some (same.0 h), λ k. same.1 (let both = sym at ∙ k in cc))
