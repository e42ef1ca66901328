use Rattle.std.proofs.Common.{◌≡◌, ◌++◌, length, true}
use Rattle.std.specs.List.{list_all}
use Rattle.tso_trace.specs.Grammar.{is_proper, trace_text}
use Rattle.tso_trace.proofs.grammar.labels_of.Given as goal

abbrev pub invariant-loop-rest : goal.invariant-loop-rest
invariant-loop-rest l = record {
  proper : list_all (is_proper l.client.arrays) l.labels.items ≡ true;
  begins : l.text ≡ trace_text l.client.arrays l.labels.items ++ l.rest;
}

abbrev pub decreases-loop-rest : goal.decreases-loop-rest
decreases-loop-rest l = length l.rest
