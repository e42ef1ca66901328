use Rattle.std.proofs.Common.{rules, sym}
use Rattle.std.proofs.lemmas.Int.{to_z-of_z}
use mir.Syntax.{w64}
use mir.Val.{SFits}
use Rattle.tso_machine.proofs.Outside.{outside_all}
use Rattle.tso_machine.proofs.action.place_of.Goals as goal

pub returns-in_err-index : goal.returns-in_err-index
returns-in_err-index c =
    let fits : SFits w64 c.args.address.offset = search rules in
    let out = rw c.index_register.ensures at (simp to_z-of_z at c.in_err-index.ensures) in
    rw c.from_residual.ensures (sym (outside_all c.args.client.now.arrays c.args.address.array _ c.args.client.now.few_words out))
