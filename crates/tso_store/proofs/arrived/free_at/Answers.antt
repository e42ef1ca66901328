use Rattle.std.proofs.Common.{subst}
use Rattle.std.proofs.lemmas.Option.{same_Some}
use Rattle.std.specs.Prelude.{IfOk, MatchOption}
use Rattle.tso_keys.specs.Keys.{state_at}
use Rattle.tso_move.specs.Free.{HasNoFree, IsFree}
use Rattle.tso_state.specs.declared.state.State.{State}
use Rattle.tso_store.proofs.arrived.free_at.Goals as goal

pub returns : goal.returns
returns c =
    let client = c.args.checked.now.client in
    let s = state_at c.args.parts.now c.args.key.now in
    let F : State → Type 0 = λ x. IfOk c.free_in.result (λ found. MatchOption found (HasNoFree client c.args.own.now c.args.table.now x) (IsFree client c.args.own.now c.args.table.now x)) in
    subst F (same_Some c.in-Some.view s c.in-Some.ensures) c.free_in.ensures
