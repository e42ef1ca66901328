use Rattle.std.proofs.Common.{◌++◌, map, sym, ap, ◌∙◌, lit<}
use Rattle.std.proofs.lemmas.Iterator.Consumers.{YieldsList-end}
use Rattle.std.proofs.lemmas.Iterator.Splits.{YieldsList-from_str_split}
use Rattle.tso_front.specs.Replaced.{text_of, thread_line, threads_of}
use Rattle.tso_front.proofs.variant.Variant.put_threads.Goals as goal

pub returns : goal.returns
returns c =
    let pieces = YieldsList-from_str_split {s = c.into_iter-thread-iterator.result} 124 c.in-Some.client.now (lit< tt) (cc) (cc) cc in
    let all = YieldsList-end pieces c.loop-thread.yielded _ c.loop-thread.yielded_by _ _ c.in-None.is c.next.ensures.steps in
    c.loop-thread.invariant
    ∙ ap (λ threads. c.args.text.now.items ++ text_of (map thread_line threads)) all.0
    ∙ ap (λ client. c.args.text.now.items ++ text_of (threads_of client)) (sym c.in-Some.is)
