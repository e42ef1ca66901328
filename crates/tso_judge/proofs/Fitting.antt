-- Numbers of well-formed states that steps reach are in the ranges of their spelling.
use Rattle.std.proofs.Common.{◌≡◌, ◌∙◌, ℕ, zero, suc, ◌+◌, ◌^◌, ◌≤◌, ◌<◌, nat_le, Bool, true, false, if◌then◌else◌, List, [], ◌∷◌, length, map, Option, None, Some, slice_get, get_or, refl, ap, subst, arith}
use Rattle.std.specs.Prelude.{is_some, slice_index_or}
use Rattle.std.specs.List.{AllByRecursion, list_all}
use Rattle.std.specs.Option.{option_map}
use Rattle.std.proofs.lemmas.Bool.{and_parts, leb-true}
use Rattle.std.proofs.lemmas.List.{length-map}
use Rattle.std.proofs.lemmas.List.Concat.{length-flat_map}
use Rattle.std.proofs.lemmas.List.Sums.{count_by-le-length}
use Rattle.std.proofs.lemmas.Option.{same_Some, slice_get-get_or, slice_get_within}
use Rattle.tso_code.specs.Fields.{ListFits}
use Rattle.tso_code.specs.Numbers.{IsCount, IsWord}
use Rattle.tso_code.specs.States.{AnyAnswerFits, CallFits, CoreFits, EntryFits, FrameFits, KindFits, ThreadFits}
use Rattle.tso_compact.specs.Laws.{StepsGiveRuns}
use Rattle.tso_flow.specs.Calls.{as_thread, bound_of, calls_of_client, number_or_zero, step_limit}
use Rattle.tso_flow.specs.declared.location.ProcedureKind.{ProcedureKind}
use Rattle.tso_flow.specs.declared.location.ProcedureKind.TheVariants as procedures
use Rattle.tso_hist.specs.Views.{called_view, history_view}
use Rattle.tso_hist.specs.declared.call.Call.{Call}
use Rattle.tso_line.specs.Proper.{are_calls, has_small_bound, is_call, is_small}
use Rattle.tso_line.specs.declared.instruction.CallKind.{CallKind}
use Rattle.tso_line.specs.declared.instruction.CallKind.TheVariants as kinds
use Rattle.tso_line.specs.declared.instruction.Instruction.{Instruction}
use Rattle.tso_line.specs.declared.instruction.Instruction.TheVariants as the
use Rattle.tso_machine.specs.Activations.{Activation}
use Rattle.tso_machine.specs.Instructions.{instructions_of, is_back_jump}
use Rattle.tso_machine.specs.Laws.{RunsAreShort}
use Rattle.tso_machine.specs.Machines.{entry_view}
use Rattle.tso_machine.specs.Soundness.{back_bounds, bounds_in}
use Rattle.tso_machine.specs.declared.buffer.Entry.{Entry}
use Rattle.tso_machine.specs.declared.frame.Frame.{Frame}
use Rattle.tso_model.specs.States.{CompactThread, calls_in}
use Rattle.tso_prog.specs.Limits.{is_prologue, is_thread}
use Rattle.tso_prog.specs.Views.{answer_view, call_view}
use Rattle.tso_prog.specs.declared.answer.Answer.{Answer}
use Rattle.tso_prog.specs.declared.answer.Answer.TheVariants as answers
use Rattle.tso_prog.specs.declared.client.Array.{Array}
use Rattle.tso_prog.specs.declared.client.Client.{Client}
use Rattle.tso_judge.proofs.Buffers.{buffers_are_short}
use Rattle.tso_judge.proofs.Lists.{Each, each_append, each_more, each_none, each_or, each_passes, each_rest, each_so}
use Rattle.tso_judge.proofs.Stepping.{words_stay}
use Rattle.tso_judge.specs.Fitting.{StatesFit}
use Rattle.tso_judge.specs.Words.{AnyAnswerHasWord, AreRegisters, BufferHasWords, CallHasWords, CallsHaveWords, CoreHasWords, HasWords, KindHasWord, ThreadHasWords}
use Rattle.tso_state.proofs.ClientLemmas.{few_threads}
use Rattle.tso_state.proofs.ViewLemmas.{length-threads_view, slice_get-threads_view}
use Rattle.tso_state.specs.Order.{flags_number}
use Rattle.tso_word.specs.declared.Flags.{Flags}
use Rattle.tso_state.specs.Views.{core_view, running_procedure, state_of, thread_view}
use Rattle.tso_state.specs.WellFormed.{IsFrameOf, IsWellFormed, answered_count, calls_by, client_calls, word_count}
use Rattle.tso_state.specs.declared.state.Core.{Core}
use Rattle.tso_state.specs.declared.state.Core.TheVariants.{Idle, Running, Stopped}
use Rattle.tso_state.specs.declared.state.State.{State}
use Rattle.tso_state.specs.declared.state.Thread.{Thread}

-- ---- lists

pub all_of : {X : Type 0} (P : X → Type 0) (xs : List X) → Each P xs → AllByRecursion P xs
all_of P [] h = tt
all_of P (x ∷ xs) h = (h zero x refl, all_of P xs (each_rest P x xs h))

pub fits : {X : Type 0} (P : X → Type 0) (xs : List X) (n : ℕ) → length xs ≤ n → n < 2 ^ 64 → Each P xs → ListFits P xs
fits P xs n le lt h = (omega (arith, le, lt), all_of P xs h)

got_index : {X : Type 0} (xs : List X) (i : ℕ) (x d : X) → slice_get xs i ≡ Some x → slice_index_or xs i d ≡ x
got_index [] i x d e = absurd cc
got_index (y ∷ ys) zero x d e = same_Some y x e
got_index (y ∷ ys) (suc i) x d e = got_index ys i x d e

-- ---- the client

few_words : (c : Client) → word_count c ≤ 256
few_words c = omega (arith, length-flat_map (λ (a : Array). a.words) c.arrays, c.few_words)

short_thread : (calls : List CallKind) → is_thread calls ≡ true → length calls ≤ 4
short_thread calls h = leb-true (length calls) 4 (and_parts (are_calls calls) (nat_le (length calls) 4) h).1

short_prologue : (calls : List CallKind) → is_prologue calls ≡ true → length calls ≤ 4
short_prologue calls h = leb-true (length calls) 4 (and_parts (nat_le (length calls) 4) (list_all is_call calls) h).0

as_thread_short : (calls : List CallKind) → length calls ≤ 4 → Each (λ (l : List CallKind). length l ≤ 4) (as_thread calls)
as_thread_short [] h = each_none (λ (l : List CallKind). length l ≤ 4)
as_thread_short (k ∷ ks) h = each_more (λ (l : List CallKind). length l ≤ 4) (k ∷ ks) [] h (each_none (λ (l : List CallKind). length l ≤ 4))

few_calls : (c : Client) (i : ℕ) → length (client_calls c i) ≤ 4
few_calls c i = each_or (λ (l : List CallKind). length l ≤ 4) (calls_of_client c) i []
    (each_append (λ (l : List CallKind). length l ≤ 4) c.threads (as_thread c.prologue)
    (each_so (λ l. is_thread l ≡ true) (λ (l : List CallKind). length l ≤ 4) c.threads short_thread (each_passes is_thread c.threads c.short_threads))
    (as_thread_short c.prologue (short_prologue c.prologue c.short_prologue))) (omega arith)

pub few_instructions : (c : Client) (name : ProcedureKind) → length (instructions_of c name) ≤ 256
few_instructions c procedures.Push = omega (arith, c.few_instructions)
few_instructions c procedures.Pop = omega (arith, c.few_instructions)

small_bounds : (c : Client) (name : ProcedureKind) → Each (λ (i : Instruction ℕ ℕ). has_small_bound i ≡ true) (instructions_of c name)
small_bounds c procedures.Push = each_passes has_small_bound c.push.instructions c.push.small_bounds
small_bounds c procedures.Pop = each_passes has_small_bound c.pop.instructions c.pop.small_bounds

number_small : (o : Option ℕ) → is_small o ≡ true → number_or_zero o ≤ 15
number_small None h = omega arith
number_small (Some n) h = leb-true n 15 h

bound_small : (i : Instruction ℕ ℕ) → has_small_bound i ≡ true → bound_of i ≤ 15
bound_small (the.Jump when target bound) h = number_small bound h
bound_small (the.Move to from) h = omega arith
bound_small (the.Load to from) h = omega arith
bound_small (the.Store to from) h = omega arith
bound_small (the.Compute operation to from) h = omega arith
bound_small (the.Compare comparison left right) h = omega arith
bound_small (the.Increment r) h = omega arith
bound_small (the.Decrement r) h = omega arith
bound_small (the.Assert condition) h = omega arith
bound_small (the.Locked operation cell r) h = omega arith
bound_small the.Fence h = omega arith
bound_small the.Nop h = omega arith
bound_small the.Pause h = omega arith
bound_small the.Return h = omega arith

few_bounds : (at : ℕ) (is : List (Instruction ℕ ℕ)) → length (back_bounds at is) ≤ length is
few_bounds at [] = omega arith
few_bounds at (i ∷ is) = go (is_back_jump at i) (few_bounds (at + 1) is)
  where
    go : (b : Bool) → length (back_bounds (at + 1) is) ≤ length is → length (if b then bound_of i ∷ back_bounds (at + 1) is else back_bounds (at + 1) is) ≤ suc (length is)
    go true h = omega (arith, h)
    go false h = omega (arith, h)

bounds_small : (at : ℕ) (is : List (Instruction ℕ ℕ)) → Each (λ (i : Instruction ℕ ℕ). has_small_bound i ≡ true) is → Each (λ (n : ℕ). n ≤ 15) (back_bounds at is)
bounds_small at [] h = each_none (λ (n : ℕ). n ≤ 15)
bounds_small at (i ∷ is) h = go (is_back_jump at i) (bounds_small (at + 1) is (each_rest (λ (x : Instruction ℕ ℕ). has_small_bound x ≡ true) i is h))
  where
    go : (b : Bool) → Each (λ (n : ℕ). n ≤ 15) (back_bounds (at + 1) is) → Each (λ (n : ℕ). n ≤ 15) (if b then bound_of i ∷ back_bounds (at + 1) is else back_bounds (at + 1) is)
    go true g = each_more (λ (n : ℕ). n ≤ 15) (bound_of i) (back_bounds (at + 1) is) (bound_small i (h zero i refl)) g
    go false g = g

-- ---- frames

number_below : (f : Flags) → flags_number f < 16
number_below f = go f.zf f.cf f.sf f.of
  where
    go : (z c s o : Bool) → flags_number (record { zf = z; cf = c; sf = s; of = o }) < 16
    go true true true true = omega arith
    go true true true false = omega arith
    go true true false true = omega arith
    go true true false false = omega arith
    go true false true true = omega arith
    go true false true false = omega arith
    go true false false true = omega arith
    go true false false false = omega arith
    go false true true true = omega arith
    go false true true false = omega arith
    go false true false true = omega arith
    go false true false false = omega arith
    go false false true true = omega arith
    go false false true false = omega arith
    go false false false true = omega arith
    go false false false false = omega arith

frame_fits : (c : Client) (name : ProcedureKind) (f : Frame) → IsFrameOf c name f → AreRegisters f.registers → FrameFits f
frame_fits c name f known words = (
  omega (arith, known.position, few_instructions c name),
  (words.count, all_of IsWord f.registers words.words),
  number_below f.flags,
  fits IsCount f.taken 256 (omega (arith, known.counts, few_bounds 0 (instructions_of c name), few_instructions c name)) (omega arith)
      (λ n count at.
      let within = slice_get_within f.taken n count at in
      let lt : n < length (bounds_in c name) = omega (arith, within, known.counts) in
      let there = slice_get-get_or (bounds_in c name) n 0 lt in
      let le = known.bounds n count (get_or (bounds_in c name) n 0) at there in
      let small = bounds_small 0 (instructions_of c name) (small_bounds c name) n (get_or (bounds_in c name) n 0) there in
      omega (arith, le, small)),
)

-- ---- threads

core_fits : (c : Client) (name : ProcedureKind) (core : Core) → ((f : Frame) → core ≡ Running f → IsFrameOf c name f × AreRegisters f.registers) → CoreFits core
core_fits c name (Running f) h = let known = h f refl in frame_fits c name f known.0 known.1
core_fits c name Idle h = tt
core_fits c name Stopped h = tt

entry_words : (b : List Entry) → BufferHasWords (map entry_view b) → Each (λ (e : Entry). IsWord e.word) b
entry_words [] h = each_none (λ (e : Entry). IsWord e.word)
entry_words (e ∷ es) h = each_more (λ (x : Entry). IsWord x.word) e es (h zero (entry_view e) refl) (entry_words es (λ n x at. h (suc n) x at))

-- thread i of the state, as the model has it
thread_at : (s : State) (i : ℕ) (t : Thread) → slice_get s.threads i ≡ Some t → slice_get (state_of s).threads i ≡ Some (thread_view (running_procedure (calls_by s i)) t)
thread_at s i t at = slice_get-threads_view s.history s.threads i ∙ ap (option_map (thread_view (running_procedure (calls_by s i)))) at

running_registers : (name : ProcedureKind) (t : Thread) (f : Frame) → ThreadHasWords (thread_view name t) → t.core ≡ Running f → AreRegisters f.registers
running_registers name t f h e = subst (λ (core : Core). CoreHasWords (core_view name core)) e h.core

thread_fits : (c : Client) (s : State) → IsWellFormed c s → HasWords (state_of s) → step_limit c < 2 ^ 64
    → ((i : ℕ) (t : CompactThread Activation) → slice_get (state_of s).threads i ≡ Some t → length t.buffer ≤ step_limit c) → Each ThreadFits s.threads
thread_fits c s w words small short i t at =
    let name = running_procedure (calls_by s i) in
    let there = thread_at s i t at in
    let has = words.threads i (thread_view name t) there in
    let long = short i (thread_view name t) there in
    let same : length (map entry_view t.buffer) ≡ length t.buffer = length-map t.buffer entry_view in (
      core_fits c name t.core (λ f e. (w.frames i t f at e, running_registers name t f has e)),
      fits EntryFits t.buffer (step_limit c) (omega (arith, long, same)) small
          (λ n e there'. (let le = w.sizes.places i n t e at there' in omega (arith, le, few_words c), entry_words t.buffer has.buffer n e there')),
    )

-- ---- histories

kind_fits : (k : CallKind) → KindHasWord (call_view k) → KindFits k
kind_fits (kinds.Push v) h = h
kind_fits kinds.Pop h = tt

answer_fits : (o : Option Answer) → AnyAnswerHasWord (option_map answer_view o) → AnyAnswerFits o
answer_fits None h = tt
answer_fits (Some answers.Refused) h = tt
answer_fits (Some answers.Done) h = tt
answer_fits (Some (answers.Value v)) h = h

calls_words : (calls : List Call) → CallsHaveWords (map called_view calls) → Each (λ (call : Call). CallHasWords (called_view call)) calls
calls_words [] h = each_none (λ (call : Call). CallHasWords (called_view call))
calls_words (call ∷ calls) h = each_more (λ (x : Call). CallHasWords (called_view x)) call calls (h zero (called_view call) refl) (calls_words calls (λ n x at. h (suc n) x at))

-- the calls of thread i, as the model has them
pub viewed_calls : (h : List (List Call)) (i : ℕ) (calls : List Call) → slice_get h i ≡ Some calls → calls_in (history_view h) i ≡ map called_view calls
viewed_calls [] i calls e = absurd cc
viewed_calls (x ∷ xs) zero calls e = ap (map called_view) (same_Some x calls e)
viewed_calls (x ∷ xs) (suc i) calls e = viewed_calls xs i calls e

pub short_calls : (c : Client) (s : State) (i : ℕ) → IsWellFormed c s → (calls : List Call) → calls_by s i ≡ calls → length calls ≤ 4
short_calls c s i w [] e = omega arith
short_calls c s i w (call ∷ calls) e =
    let last = length calls in
    let there : slice_get (call ∷ calls) last ≡ Some (get_or (call ∷ calls) last call) = slice_get-get_or (call ∷ calls) last call (omega arith) in
    let at : slice_get (calls_by s i) last ≡ Some (get_or (call ∷ calls) last call) = ap (λ (l : List Call). slice_get l last) e ∙ there in
    let known = w.calls i last (get_or (call ∷ calls) last call) at in
    let within = slice_get_within (client_calls c i) last _ known.kind in
    omega (arith, within, few_calls c i)

few_answered : (c : Client) (s : State) (j : ℕ) → IsWellFormed c s → answered_count (calls_by s j) ≤ 4
few_answered c s j w =
    let le = count_by-le-length (λ (call : Call). is_some call.answer) (calls_by s j) in
    let short = short_calls c s j w (calls_by s j) refl in
    omega (arith, le, short)

call_fits : (c : Client) (s : State) (i k : ℕ) (call : Call) → IsWellFormed c s → slice_get (calls_by s i) k ≡ Some call → CallHasWords (called_view call) → CallFits call
call_fits c s i k call w at h =
    let known = w.calls i k call at in (
      kind_fits call.kind h.kind,
      fits IsCount call.seen 5 (omega (arith, w.sizes.seen i k call at, few_threads c)) (omega arith)
          (λ j n there. let le = known.others j n there in let few = few_answered c s j w in omega (arith, le, few)),
      answer_fits call.answer h.answer,
    )

history_fits : (c : Client) (s : State) → IsWellFormed c s → HasWords (state_of s) → Each (ListFits CallFits) s.history
history_fits c s w words i calls at =
    let same : calls_by s i ≡ calls = got_index s.history i calls [] at in
    let has : CallsHaveWords (map called_view calls) = subst CallsHaveWords (viewed_calls s.history i calls at) (words.history i) in
    fits CallFits calls 4 (short_calls c s i w calls same) (omega arith)
    (λ k call there. call_fits c s i k call w (ap (λ (l : List Call). slice_get l k) same ∙ there) (calls_words calls has k call there))

-- ---- states

pub states_fit : (c : Client) → StepsGiveRuns c → RunsAreShort c → step_limit c < 2 ^ 64 → StatesFit c
states_fit c give short small actors s steps w =
    let words = words_stay c actors (state_of s) steps in
    let threads = length-threads_view s.history s.threads in
    let le : length (state_of s).threads ≤ length (state_of s).history = omega (arith, threads, length-map s.history (map called_view), w.sizes.threads, w.sizes.history) in (
      fits IsWord s.memory 256 (omega (arith, w.sizes.memory, few_words c)) (omega arith) words.memory,
      fits ThreadFits s.threads 5 (omega (arith, w.sizes.threads, few_threads c)) (omega arith)
          (thread_fits c s w words small (buffers_are_short c give short actors (state_of s) steps le)),
      fits (ListFits CallFits) s.history 5 (omega (arith, w.sizes.history, few_threads c)) (omega arith) (history_fits c s w words),
    )
