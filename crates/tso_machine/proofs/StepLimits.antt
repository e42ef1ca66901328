-- The model's limit of labels is at most the client's limit of steps.
use Rattle.std.proofs.Common.{◌≡◌, ◌∙◌, ℕ, ◌+◌, ◌-◌, ◌*◌, ◌≤◌, List, [], ◌∷◌, ◌++◌, length, map, ap, arith}
use Rattle.std.specs.List.{sum, sum_by}
use Rattle.std.proofs.lemmas.List.Sums.{sum_by-cons}
use Rattle.tso_line.specs.declared.instruction.CallKind.{CallKind}
use Rattle.tso_line.specs.declared.instruction.CallKind.TheVariants as calls
use Rattle.tso_prog.specs.Views.{call_view}
use Rattle.tso_prog.specs.declared.client.Client.{Client}
use Rattle.tso_flow.specs.Calls.{as_thread, bounds_of, call_limit, procedure_limit}
use Rattle.tso_flow.specs.Calls as flow
use Rattle.tso_flow.specs.declared.location.ProcedureKind.TheVariants as procedures
use Rattle.tso_machine.proofs.Counts.{bounds_below, sum_zeros}
use Rattle.tso_machine.specs.Instructions.{instructions_of}
use Rattle.tso_machine.specs.Programs.{calls_of, jump_count, program_of, start_of}
use Rattle.tso_machine.specs.Soundness.{bounds_in, instructions_left, rank}
use Rattle.tso_model.specs.Measure.{calls_cost, step_limit}

limit_of_call : (len jumps none bounds : ℕ) → none ≡ 0 → jumps ≤ bounds → 5 * instructions_left len (jumps - none) 0 + 1 ≤ 5 * len * (1 + bounds) + 2
limit_of_call len jumps none bounds zeros le =
    let all : bounds ≡ jumps + (bounds - jumps) = omega arith in
    let less : jumps - none ≡ jumps = omega arith in
    let more : 5 * len * (1 + (jumps + (bounds - jumps))) ≡ 5 * len + (5 * (jumps * len) + 5 * ((bounds - jumps) * len)) = omega arith in
    let limit : 5 * len * (1 + bounds) ≡ 5 * len + (5 * (jumps * len) + 5 * ((bounds - jumps) * len)) = ap (λ (n : ℕ). 5 * len * (1 + n)) all ∙ more in
    rw less (omega (arith, limit))

call_cost : (c : Client) (call : CallKind) → 5 * rank c (start_of c (call_view call)) + 1 ≤ call_limit c call
unfolding procedure_limit
call_cost c (calls.Push v) =
    let is = instructions_of c procedures.Push in
    limit_of_call (length is) (sum (bounds_in c procedures.Push)) _ (bounds_of is) (sum_zeros (jump_count c procedures.Push)) (bounds_below 0 is)
call_cost c calls.Pop =
    let is = instructions_of c procedures.Pop in
    limit_of_call (length is) (sum (bounds_in c procedures.Pop)) _ (bounds_of is) (sum_zeros (jump_count c procedures.Pop)) (bounds_below 0 is)

thread_cost : (c : Client) (ks : List CallKind) → calls_cost (program_of c) (rank c) (map call_view ks) ≤ sum_by (λ call. call_limit c call) ks
thread_cost c [] = omega arith
thread_cost c (k ∷ ks) =
    omega (arith, call_cost c k, thread_cost c ks, sum_by-cons (λ call. call_limit c call) k ks)

threads_cost : (c : Client) (kss : List (List CallKind)) → step_limit (program_of c) (rank c) (map (map call_view) kss) ≤ sum_by (λ ks. sum_by (λ call. call_limit c call) ks) kss
threads_cost c [] = omega arith
threads_cost c (ks ∷ kss) =
    omega (arith, thread_cost c ks, threads_cost c kss, sum_by-cons (λ (ks : List CallKind). sum_by (λ call. call_limit c call) ks) ks kss)

pub limit_below : (c : Client) → step_limit (program_of c) (rank c) (calls_of c) ≤ flow.step_limit c
limit_below c = threads_cost c (c.threads ++ as_thread c.prologue)
