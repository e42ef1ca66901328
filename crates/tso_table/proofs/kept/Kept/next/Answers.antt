use Rattle.std.proofs.Common.{◌≡◌, ◌++◌, ◌∷◌, [], rules}
use Rattle.tso_state.specs.Actors.{number_of}
use Rattle.tso_table.proofs.KeptLemmas.{next_is_kept, small_thread}
use Rattle.tso_table.proofs.kept.Kept.next.Goals as goal

pub led_on-requires : goal.led_on-requires
led_on-requires c = small_thread c.args.checked.now.client c.args.self.now c.in_ok-state.state c.args.actor c.requires c.in_ok-state.ensures.ok

pub returns-clause-kept : goal.returns-clause-kept
returns-clause-kept c =
    let actors : c.in_ok-actors.actors ≡ c.args.self.now.actors ++ number_of c.args.actor ∷ [] = search rules in
    next_is_kept c.args.checked.now.client c.args.checked.now.no_fault c.args.self.now (record { state = c.in_ok-state.state; actors = c.in_ok-actors.actors }) c.args.actor c.requires c.in_ok-state.ensures.ok actors
