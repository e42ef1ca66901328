-- The calls of a client's threads, the prologue's last.
use Rattle.std.proofs.Common.{◌≡◌, ◌≤◌, ℕ, zero, suc, List, [], ◌∷◌, ◌++◌, length, map, slice_index_or, refl, arith}
use Rattle.std.proofs.lemmas.List.{length-append, length-map}
use Rattle.tso_flow.specs.Calls.{as_thread}
use Rattle.tso_line.specs.declared.instruction.CallKind.{CallKind}
use Rattle.tso_machine.specs.Programs.{calls_in, calls_of}
use Rattle.tso_prog.specs.Views.{call_view}
use Rattle.tso_prog.specs.declared.client.Client.{Client}
use Rattle.tso_state.specs.WellFormed.{client_calls, thread_total}

pub calls_of-width : (c : Client) → length (calls_of c) ≡ thread_total c
calls_of-width c = length-map (c.threads ++ as_thread c.prologue) (map call_view)

prologue_one : (calls : List CallKind) → length (as_thread calls) ≤ 1
prologue_one [] = omega arith
prologue_one (k ∷ ks) = omega arith

-- four threads, and the prologue's
pub few_threads : (c : Client) → thread_total c ≤ 5
few_threads c = omega (arith, length-append c.threads (as_thread c.prologue), c.few_threads, prologue_one c.prologue)

of_prologue : (prologue : List CallKind) (i : ℕ) → calls_in [] prologue i ≡ slice_index_or (as_thread prologue) i []
of_prologue [] zero = refl
of_prologue [] (suc i) = refl
of_prologue (k ∷ ks) zero = refl
of_prologue (k ∷ ks) (suc i) = refl

kinds_in : (threads : List (List CallKind)) (prologue : List CallKind) (i : ℕ) → calls_in threads prologue i ≡ slice_index_or (threads ++ as_thread prologue) i []
kinds_in [] prologue i = of_prologue prologue i
kinds_in (ks ∷ kss) prologue zero = refl
kinds_in (ks ∷ kss) prologue (suc i) = kinds_in kss prologue i

pub kinds-are : (c : Client) (i : ℕ) → calls_in c.threads c.prologue i ≡ client_calls c i
kinds-are c i = kinds_in c.threads c.prologue i
