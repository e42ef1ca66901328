use Rattle.std.proofs.Common.{◌≡◌, ◌++◌, map}
use Rattle.tso_front.specs.Replaced.{text_of, thread_line}
use Rattle.tso_front.proofs.variant.Variant.put_threads.Given as goal

abbrev pub invariant-loop-thread : goal.invariant-loop-thread
invariant-loop-thread l = l.text.items ≡ l.initial.text.items ++ text_of (map thread_line (map (λ line. line.now) l.yielded))
