use Rattle.std.proofs.Common.{lit<, rules, tests}
use Rattle.std.proofs.lemmas.Iterator.Search.{all_from_yields_List}
use Rattle.std.proofs.lemmas.Iterator.Splits.{YieldsList-from_str_split}
use Rattle.tso_front.specs.Variants.{are_calls}
use Rattle.tso_front.proofs.variant.are_threads.Goals as goal

pub returns : goal.returns
returns c = all_from_yields_List are_calls _ _ _ c.all.ensures.ran (YieldsList-from_str_split 124 c.args.words.now (lit< tt) (cc) (cc) cc) (λ x b q k. search (rules, tests))
