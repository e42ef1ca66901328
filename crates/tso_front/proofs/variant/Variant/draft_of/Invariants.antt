use Rattle.std.proofs.Common.{◌≡◌, length, map}
use Rattle.tso_front.specs.Replaced.{calls_of, head_of, text_of}
use Rattle.tso_front.proofs.variant.Variant.draft_of.Given as goal

abbrev pub invariant-loop-line : goal.invariant-loop-line
invariant-loop-line l = record {
  head : l.draft.head.items ≡ text_of (head_of l.self (map (λ line. line.now) l.yielded));
  lines : l.draft.head_lines ≡ length (head_of l.self (map (λ line. line.now) l.yielded));
  calls : l.draft.calls.items ≡ text_of (calls_of l.self (map (λ line. line.now) l.yielded));
  can_next : (goal.iterator-loop-line).can_next l.line-iterator;
  finite : (goal.iterator-loop-line).is_finite l.line-iterator;
}
