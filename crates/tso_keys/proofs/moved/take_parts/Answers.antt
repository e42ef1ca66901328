use Rattle.tso_keys.proofs.Moves.{row_of_all}
use Rattle.tso_keys.proofs.moved.take_parts.Goals as goal

pub returns-clause-numbers : goal.returns-clause-numbers
returns-clause-numbers c = record {
  memories = row_of_all c.take_all.new.self c.in_ok-memories.memories c.args.others.memories c.in_ok-memories.ensures.numbers;
  histories = row_of_all c.take_all-2.new.self c.in_ok-histories.histories c.args.others.histories c.in_ok-histories.ensures.numbers;
  threads = row_of_all c.take_all-3.new.self c.in_ok-threads.threads c.args.others.threads c.in_ok-threads.ensures.numbers;
  wide = c.in_ok-threads.ensures.numbers.wide;
}
