-- The calls of a thread.
use Rattle.std.proofs.Common.{◌≡◌, ℕ, zero, suc, ◌<◌, ◌≤◌, List, [], ◌∷◌, ◌++◌, length, map, slice_get, slice_index_or, Some, None, refl, arith}
use Rattle.std.specs.Option.{option_map}
use Rattle.std.proofs.lemmas.Option.{slice_get-map}
use Rattle.tso_flow.specs.Calls.{as_thread}
use Rattle.tso_line.specs.declared.instruction.CallKind.{CallKind}
use Rattle.tso_prog.specs.Views.{call_view}
use Rattle.tso_machine.specs.Programs.{calls_in}

pub calls_there : (threads : List (List CallKind)) (prologue : List CallKind) (i : ℕ) (calls : List CallKind) → slice_get threads i ≡ Some calls → calls_in threads prologue i ≡ calls
calls_there [] prologue i calls e = cc
calls_there (x ∷ xs) prologue zero calls e = cc
calls_there (x ∷ xs) prologue (suc i) calls e = calls_there xs prologue i calls e

pub calls_last : (threads : List (List CallKind)) (prologue : List CallKind) → calls_in threads prologue (length threads) ≡ prologue
calls_last [] prologue = refl
calls_last (x ∷ xs) prologue = calls_last xs prologue

pub calls_past : (threads : List (List CallKind)) (prologue : List CallKind) (i : ℕ) → length threads < i → calls_in threads prologue i ≡ []
calls_past [] prologue zero e = absurd (omega arith)
calls_past [] prologue (suc i) e = refl
calls_past (x ∷ xs) prologue zero e = absurd (omega arith)
calls_past (x ∷ xs) prologue (suc i) e = calls_past xs prologue i (omega arith)

one_thread : (prologue : List CallKind) (i : ℕ) → slice_index_or (map (map call_view) (as_thread prologue)) i [] ≡ map call_view (calls_in [] prologue i)
one_thread [] zero = refl
one_thread [] (suc i) = refl
one_thread (k ∷ ks) zero = refl
one_thread (k ∷ ks) (suc i) = refl

pub calls_of_thread : (threads : List (List CallKind)) (prologue : List CallKind) (i : ℕ)
    → slice_index_or (map (map call_view) (threads ++ as_thread prologue)) i [] ≡ map call_view (calls_in threads prologue i)
calls_of_thread [] prologue i = one_thread prologue i
calls_of_thread (x ∷ xs) prologue zero = refl
calls_of_thread (x ∷ xs) prologue (suc i) = calls_of_thread xs prologue i

pub call_at : (threads : List (List CallKind)) (prologue : List CallKind) (i number : ℕ)
    → option_map call_view (slice_get (calls_in threads prologue i) number) ≡ slice_get (slice_index_or (map (map call_view) (threads ++ as_thread prologue)) i []) number
call_at threads prologue i number = rw (calls_of_thread threads prologue i, slice_get-map call_view (calls_in threads prologue i) number) refl

pub none_past : {X : Type 0} (xs : List X) (i : ℕ) → slice_get xs i ≡ None → length xs ≤ i
none_past [] i e = omega arith
none_past (x ∷ xs) zero e = cc
none_past (x ∷ xs) (suc i) e = omega (arith, none_past xs i e)
