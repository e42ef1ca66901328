use Rattle.std.proofs.Common.{arith, refl, map, ◌≡◌, Ok}
use Rattle.tso_prog.specs.declared.draft.Unresolved.{Unresolved}
use Rattle.tso_prog.specs.Content.{target_view, step_view}
use Rattle.tso_prog.specs.Finish.{labelled}
use Rattle.tso_prog.proofs.Placing.{small_bounds, targets_of, lines_length, line_map, labelled_length}
use Rattle.tso_prog.proofs.Printing.{steps_in_range, steps_below}
use Rattle.tso_prog.proofs.finish.procedure_of.Goals as goal

pub invariant_of-result : goal.invariant_of-result
invariant_of-result c =
    let body = c.args.body.now in
    let labels = map target_view body.labels in
    let steps = map step_view body.steps.items in
    let made : labelled labels steps ≡ Ok c.in_ok-steps.steps.items = c.in_ok-steps.ensures in
    record {
      each_has_line = rw (c.from_vec-2.ensures, c.from_vec.ensures, c.in_ok-numbers.ensures, c.deref.ensures.value) (lines_length step_view (λ (s : Unresolved). s.line) labels body.steps.items c.in_ok-steps.steps.items made);
      small_bounds = rw c.from_vec.ensures (small_bounds labels steps c.in_ok-steps.steps.items c.requires.limited.small_bounds made);
      targets_within = rw c.from_vec.ensures (targets_of labels steps c.in_ok-steps.steps.items c.requires.limited.labels_within made);
      nonempty = rw c.from_vec.ensures (omega (arith, labelled_length labels steps c.in_ok-steps.steps.items made, c.requires.nonempty));
      in_range = rw c.from_vec.ensures (steps_in_range c.requires.steps.0 labels steps c.in_ok-steps.steps.items c.requires.steps.1 made);
    }

pub returns-clause-lines : goal.returns-clause-lines
returns-clause-lines c = rw (c.from_vec-2.ensures, c.in_ok-numbers.ensures, c.deref.ensures.value) (line_map step_view (λ (s : Unresolved). s.line) (λ s. refl) c.args.body.now.steps.items)

pub returns-clause-arrays : goal.returns-clause-arrays
returns-clause-arrays c = λ count h.
    let body = c.args.body.now in
    rw c.from_vec.ensures (steps_below count (map target_view body.labels) (map step_view body.steps.items) c.in_ok-steps.steps.items h c.in_ok-steps.ensures)
