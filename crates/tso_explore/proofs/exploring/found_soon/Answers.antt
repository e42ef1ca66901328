use Rattle.std.proofs.Common.{[], arith}
use Rattle.tso_search.proofs.SearchLemmas.{begun_first, more_than}
use Rattle.tso_rec.specs.declared.basis.Grain.TheVariants as grains
use Rattle.tso_explore.proofs.exploring.found_soon.Goals as goal

pub returns-then-len-limit : goal.returns-then-len-limit
returns-then-len-limit g c =
    let client = c.args.checked.now.client in
    let states = c.in_ok-made.made.1.states in
    more_than client c.in_ok-made.made.0 c.args.limit states [] (begun_first client c.in_ok-made.made.0 c.args.checked.now.no_fault states c.in_ok-made.ensures.states) c.states_differ.ensures (omega (arith, c.len.ensures, c.if-len-limit.true))

pub returns-in-Ok-Stopped : goal.returns-in-Ok-Stopped
returns-in-Ok-Stopped g c = c.finding_for.ensures grains.Steps
