-- The model's first threads, one for each list of calls.
use Rattle.std.proofs.Common.{◌≡◌, ◌∙◌, suc, List, [], ◌∷◌, ◌++◌, length, map, replicate, refl, ap, arith}
use Rattle.tso_flow.specs.Calls.{as_thread}
use Rattle.tso_line.specs.declared.instruction.CallKind.{CallKind}
use Rattle.tso_prog.specs.Views.{call_view}
use Rattle.tso_machine.specs.Initial.{idle_thread, thread_count}
use Rattle.tso_model.specs.Programs as model

one_more : (xs : List (List CallKind)) (prologue : List CallKind) (x : List CallKind) → thread_count (x ∷ xs) prologue ≡ suc (thread_count xs prologue)
one_more xs [] x = refl
one_more xs (k ∷ ks) x = omega arith

pub first_threads : (threads : List (List CallKind)) (prologue : List CallKind)
    → map (λ (calls : List model.CallKind). idle_thread) (map (map call_view) (threads ++ as_thread prologue)) ≡ replicate (thread_count threads prologue) idle_thread
first_threads [] [] = refl
first_threads [] (k ∷ ks) = refl
first_threads (x ∷ xs) prologue = rw (one_more xs prologue x) (ap (λ l. idle_thread ∷ l) (first_threads xs prologue))

-- as many as there are lists of calls
pub calls_counted : (threads : List (List CallKind)) (prologue : List CallKind) → thread_count threads prologue ≡ length (map (map call_view) (threads ++ as_thread prologue))
calls_counted [] [] = refl
calls_counted [] (k ∷ ks) = refl
calls_counted (x ∷ xs) prologue = one_more xs prologue x ∙ ap suc (calls_counted xs prologue)
