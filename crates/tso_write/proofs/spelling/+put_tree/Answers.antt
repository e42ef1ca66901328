use Rattle.std.proofs.Common.{◌/◌, arith, length, refl, rules}
use Rattle.tso_write.proofs.CuttingLemmas.{first_high, numbers_high, numbers_low, rising_high, rising_low}
use Rattle.tso_write.proofs.SpellingLemmas.{fork_behind, number_of_same, state_of_same}
use Rattle.tso_write.proofs.TaskLemmas.{cut_in_two}
use Rattle.tso_write.specs.Tasks.{CanBeCut, uncut}
use Rattle.tso_write.proofs.spelling.+put_tree.Goals as goal

pub put_tree-requires : goal.put_tree-requires
put_tree-requires t c =
    let states = c.args.store.now.states in
    let ns = c.args.numbers.now in
    let low = c.split_at.result.0.now in
    let there = numbers_low states ns low (length ns / 2) c.split_at.ensures.front c.requires.numbers in
    let rising = rising_low states ns low (length ns / 2) c.split_at.ensures.front c.requires.rising in
    (search rules, (c.requires.client, (c.requires.searched, (c.requires.closed, (c.requires.same, (there, rising))))))

pub put_state-requires : goal.put_state-requires
put_state-requires t c =
    number_of_same c.args.store.now.states c.args.speller.now _ c.requires.same
    (first_high c.args.store.now.states c.args.numbers.now c.split_at.result.1.now (length c.args.numbers.now / 2) c.split_at.ensures.back (omega arith) refl c.requires.numbers)

pub put_tree-requires-2 : goal.put_tree-requires-2
put_tree-requires-2 t c =
    let states = c.args.store.now.states in
    let ns = c.args.numbers.now in
    let high = c.split_at.result.1.now in
    let there = numbers_high states ns high (length ns / 2) c.split_at.ensures.back c.requires.numbers in
    let rising = rising_high states ns high (length ns / 2) c.split_at.ensures.back c.requires.rising in
    (search rules, (c.requires.client, (c.requires.searched, (c.requires.closed, (c.requires.same, (there, rising))))))

pub returns : goal.returns
returns t c =
    let client = c.args.checked.now.client in
    let table = c.args.ground.now in
    let states = c.args.store.now.states in
    let ns = c.args.numbers.now in
    let low = c.split_at.result.0.now in
    let high = c.split_at.result.1.now in
    let ready : CanBeCut (uncut client table states ns) = record { searched = c.requires.searched; closed = c.requires.closed; numbers = c.requires.numbers; rising = c.requires.rising } in
    let cut = cut_in_two client table states ns low high (omega arith) c.split_at.ensures.front c.split_at.ensures.back ready in
    fork_behind (uncut client table states ns) (uncut client table states low) (uncut client table states high) c.args.out.now.items c.push.new.self.items c.put_tree.new.out.items c.put_state.new.out.items c.put_tree-2.new.out.items
    ready cut.0 c.in_ok-push.ensures.items c.in_ok-put_tree.ensures (state_of_same states c.args.speller.now _ _ _ c.requires.same c.in_ok-put_state.ensures) c.in_ok-put_tree-2.ensures
