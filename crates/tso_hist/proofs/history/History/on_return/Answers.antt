use Rattle.std.proofs.Common.{◌≡◌, ◌<◌, List, [], length, get_or, ◌∙◌, arith}
use Rattle.std.proofs.lemmas.Bool.Decides.{nat_tests}
use Rattle.std.proofs.lemmas.List.{get_or_default}
use Rattle.tso_hist.specs.declared.call.Call.{Call}
use Rattle.tso_hist.proofs.Viewed.{after_return}
use Rattle.tso_hist.proofs.history.History.on_return.Goals as goal

pub returns : goal.returns
returns c =
    let h : List (List Call) = c.self.inside.threads in
    let cs : List Call = c.at_mut-calls.result.now in
    let is : cs ≡ get_or h c.args.thread [] = c.at_mut-calls.ensures.value ∙ get_or_default h c.args.thread cs [] (omega (arith, c.len.ensures, c.if-thread-len.false)) in
    let some : 0 < length cs = grind (arith, nat_tests, c.if-is_empty.false, c.is_empty.ensures) in
    rw (← c.self.view_is) (after_return h c.args.thread cs c.at_mut.result.now c.len-last.result c.args.answer is c.len-last.ensures c.at_mut.ensures.value some)
