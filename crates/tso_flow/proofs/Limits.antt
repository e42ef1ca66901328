-- Sums over the calls of threads.
use Rattle.std.proofs.Common.{◌≡◌, ℕ, ◌+◌, ◌<◌, List, [], ◌∷◌, ◌++◌, length, take, get_or, refl, sym, ap, ◌∙◌, zero-add}
use Rattle.std.specs.Prelude.{sum_by}
use Rattle.std.proofs.lemmas.List.Sums.{sum_by_more, sum_by-append}
use Rattle.tso_line.specs.declared.instruction.CallKind.{CallKind}
use Rattle.tso_flow.specs.Calls.{as_thread}

pub sum_more : (f : List CallKind → ℕ) (threads : List (List CallKind)) (i : ℕ) (x : List CallKind) (total n : ℕ) → i < length threads → x ≡ get_or threads i x → total ≡ sum_by f (take i threads) → n ≡ f x → total + n ≡ sum_by f (take (i + 1) threads)
sum_more f threads i x total n lt is told e =
    ap (λ (m : ℕ). m + n) told ∙ ap (λ (m : ℕ). sum_by f (take i threads) + m) (e ∙ ap f is) ∙ sym (sum_by_more f threads i x lt)

sum_last : (g : CallKind → ℕ) (calls : List CallKind) → sum_by (λ cs. sum_by g cs) (as_thread calls) ≡ sum_by g calls
sum_last g [] = refl
sum_last g (call ∷ calls) = zero-add (sum_by g (call ∷ calls))

pub sum_all : (g : CallKind → ℕ) (threads : List (List CallKind)) (calls : List CallKind) → sum_by (λ cs. sum_by g cs) threads + sum_by g calls ≡ sum_by (λ cs. sum_by g cs) (threads ++ as_thread calls)
sum_all g threads calls =
    ap (λ (n : ℕ). sum_by (λ cs. sum_by g cs) threads + n) (sym (sum_last g calls)) ∙ sym (sum_by-append (λ cs. sum_by g cs) threads (as_thread calls))
