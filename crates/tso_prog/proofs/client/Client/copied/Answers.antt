use Rattle.std.proofs.Common.{◌∙◌}
use Rattle.tso_prog.proofs.client.Client.copied.Goals as goal

pub invariant_of-result : goal.invariant_of-result
invariant_of-result c =
    let self = c.args.self.now in
    let arrays = c.in_ok-arrays.ensures ∙ c.as_slice.ensures in
    let push = c.in_ok-push.ensures in
    let pop = c.in_ok-pop.ensures in
    let prologue = c.in_ok-prologue.ensures in
    let threads = c.in_ok-threads.ensures ∙ c.as_slice-2.ensures in
    record {
      few_arrays = rw arrays self.few_arrays;
      few_words = rw arrays self.few_words;
      few_instructions = rw (push, pop) self.few_instructions;
      few_threads = rw threads self.few_threads;
      few_calls = rw (prologue, threads) self.few_calls;
      some_capacity = self.some_capacity;
      small_capacity = self.small_capacity;
      short_names = rw arrays self.short_names;
      distinct_names = rw arrays self.distinct_names;
      arrays_of_words = rw arrays self.arrays_of_words;
      arrays_of_push = rw (arrays, push) self.arrays_of_push;
      arrays_of_pop = rw (arrays, pop) self.arrays_of_pop;
      short_prologue = rw prologue self.short_prologue;
      some_threads = rw threads self.some_threads;
      short_threads = rw threads self.short_threads;
    }
