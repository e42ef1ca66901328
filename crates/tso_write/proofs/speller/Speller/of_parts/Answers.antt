use Rattle.std.proofs.Common.{◌∙◌, ap, map}
use Rattle.tso_code.specs.Fields.{list}
use Rattle.tso_code.specs.Numbers.{number}
use Rattle.tso_code.specs.States.{call, thread}
use Rattle.tso_write.proofs.speller.Speller.of_parts.Goals as goal

pub invariant_of-result : goal.invariant_of-result
invariant_of-result g c = record {
  kept = c.requires.kept;
  memories_are = c.in_ok-memories.ensures ∙ ap (map (list number)) c.values.ensures;
  threads_are = c.in_ok-threads.ensures ∙ ap (map thread) c.values-2.ensures;
  histories_are = c.in_ok-histories.ensures ∙ ap (map (list (list call))) c.values-3.ensures;
}
