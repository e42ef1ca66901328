use Rattle.std.proofs.Common.{◌≡◌, ◌≤◌, true, false, List, length, map, sym, ap, subst, ◌∙◌, arith}
use Rattle.std.specs.Prelude.{nat_le, sum_by}
use Rattle.std.specs.List.{list_all}
use Rattle.std.proofs.lemmas.Bool.{and_parts, leb-true}
use Rattle.tso_line.specs.declared.instruction.CallKind.{CallKind}
use Rattle.tso_prog.specs.declared.client.Array.{Array}
use Rattle.tso_prog.specs.Limits.{is_short_name, are_words, are_distinct, are_arrays_below}
use Rattle.tso_prog.specs.Contents.{Content}
use Rattle.tso_prog.specs.Content.{content, array_view}
use Rattle.tso_prog.specs.Limited.{is_first, is_array}
use Rattle.tso_prog.proofs.Keeping.{list_all_weaker}
use Rattle.tso_prog.proofs.Placing.{labelled_length}
use Rattle.tso_prog.proofs.Printing.{first_open, nonzero}
use Rattle.tso_prog.proofs.draft.Draft.finish.Goals as goal
use Rattle.tso_prog.proofs.draft.Draft.finish.Goals.{in-Threads, in_default}

pub invariant_of-result : goal.invariant_of-result
invariant_of-result c =
    let d : Content = content c.args.self in
    let lim = c.requires.limited in
    let pri = c.requires.printable in
    let same : c.from_vec.result ≡ d.arrays = c.from_vec.ensures ∙ c.in_ok-arrays.ensures ∙ ap (map array_view) c.deref.ensures.value in
    let push_length = labelled_length d.push.labels d.push.steps c.in_ok-push.push.instructions c.in_ok-push.ensures.instructions in
    let pop_length = labelled_length d.pop.labels d.pop.steps c.in_ok-pop.pop.instructions c.in_ok-pop.ensures.instructions in
    let late : is_first c.args.self.part ≡ false = elim c.match-matches.branch [ in-Threads w ↦ ap is_first w.in-Threads.is | in_default w ↦ absurd cc ] in
    let capacity = and_parts (nat_le 1 d.capacity) (nat_le d.capacity 16) (first_open c.args.self.part _ late pri.capacity) in
    record {
      few_arrays = subst (λ (xs : List Array). length xs ≤ 16) (sym same) lim.arrays.few_arrays;
      few_words = subst (λ (xs : List Array). sum_by (λ a. length a.words) xs ≤ 256) (sym same) (omega (arith, lim.arrays.words_are, lim.arrays.few_words));
      few_instructions = omega (arith, push_length, pop_length, lim.procedures.few_instructions);
      few_threads = lim.calls.few_threads;
      few_calls = omega (arith, lim.calls.calls_are, lim.calls.few_calls);
      some_capacity = leb-true 1 d.capacity capacity.0;
      small_capacity = leb-true d.capacity 16 capacity.1;
      short_names = subst (λ (xs : List Array). list_all (λ a. is_short_name a.name) xs ≡ true) (sym same) (list_all_weaker is_array (λ (a : Array). is_short_name a.name) (λ a e. (and_parts (is_short_name a.name) (are_words a.words) e).0) d.arrays pri.arrays);
      distinct_names = subst (λ (xs : List Array). are_distinct (map (λ a. a.name) xs) ≡ true) (sym same) pri.names;
      arrays_of_words = subst (λ (xs : List Array). list_all (λ a. are_words a.words) xs ≡ true) (sym same) (list_all_weaker is_array (λ (a : Array). are_words a.words) (λ a e. (and_parts (is_short_name a.name) (are_words a.words) e).1) d.arrays pri.arrays);
      arrays_of_push = subst (λ (xs : List Array). are_arrays_below (length xs) c.in_ok-push.push.instructions ≡ true) (sym same) (c.in_ok-push.ensures.arrays (length d.arrays) pri.push);
      arrays_of_pop = subst (λ (xs : List Array). are_arrays_below (length xs) c.in_ok-pop.pop.instructions ≡ true) (sym same) (c.in_ok-pop.ensures.arrays (length d.arrays) pri.pop);
      short_prologue = pri.prologue;
      some_threads = subst (λ (xs : List (List CallKind)). 1 ≤ length xs) c.as_slice.ensures (nonzero (length c.as_slice.result.now) (sym c.is_empty.ensures ∙ c.if-is_empty.false));
      short_threads = pri.threads;
    }
