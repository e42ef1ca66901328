use Rattle.tso_write.proofs.SpellingLemmas.{leaf_behind}
use Rattle.tso_write.specs.Tasks.{uncut}
use Rattle.tso_write.proofs.spelling.put_leaf.Goals as goal

pub returns : goal.returns
returns c = leaf_behind (uncut c.args.checked.now.client c.args.ground.now c.args.store.now.states c.args.numbers.now) c.args.out.now.items c.push.new.self.items c.write_number.new.out.items c.put_records.new.out.items c.requires.few c.in_ok-push.ensures.items c.in_ok-write_number.ensures c.in_ok-put_records.ensures
