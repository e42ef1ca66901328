use Rattle.std.proofs.Common.{◌/◌, arith, length, refl, rules}
use Rattle.tso_cert.specs.Trees as trees
use Rattle.tso_write.proofs.CuttingLemmas.{first_high, forked, numbers_high, numbers_low, rising_high, rising_low}
use Rattle.tso_write.proofs.cutting.+tree_of.Goals as goal

pub tree_of-requires : goal.tree_of-requires
tree_of-requires t c =
    let states = c.args.store.now.states in
    let ns = c.args.numbers.now in
    let low = c.split_at.result.0.now in
    let there = numbers_low states ns low (length ns / 2) c.split_at.ensures.front c.requires.numbers in
    let rising = rising_low states ns low (length ns / 2) c.split_at.ensures.front c.requires.rising in
    (search rules, (c.requires.client, (c.requires.searched, (c.requires.closed, (c.requires.same, (there, rising))))))

pub state_at-requires : goal.state_at-requires
state_at-requires t c =
    first_high c.args.store.now.states c.args.numbers.now c.split_at.result.1.now (length c.args.numbers.now / 2) c.split_at.ensures.back (omega arith) refl c.requires.numbers

pub tree_of-requires-2 : goal.tree_of-requires-2
tree_of-requires-2 t c =
    let states = c.args.store.now.states in
    let ns = c.args.numbers.now in
    let high = c.split_at.result.1.now in
    let there = numbers_high states ns high (length ns / 2) c.split_at.ensures.back c.requires.numbers in
    let rising = rising_high states ns high (length ns / 2) c.split_at.ensures.back c.requires.rising in
    (search rules, (c.requires.client, (c.requires.searched, (c.requires.closed, (c.requires.same, (there, rising))))))

pub returns : goal.returns
returns t c =
    rw (c.in_ok-left-2.ensures.ok, c.in_ok-right-2.ensures.ok)
    (forked c.args.checked.now.client c.args.ground.now c.args.store.now.states c.args.numbers.now c.split_at.result.0.now c.split_at.result.1.now (length c.args.numbers.now / 2) c.in_ok-middle.middle (trees.tree_of c.in_ok-left.left) (trees.tree_of c.in_ok-right.right)
    c.split_at.ensures.front c.split_at.ensures.back (omega arith) refl c.requires.rising c.in_ok-left.ensures c.in_ok-right.ensures c.in_ok-middle.ensures)
