-- What is remembered of histories.
use Rattle.std.proofs.Common.{◌≡◌, ◌∙◌, ◌⊎◌, inl, inr, ℕ, zero, suc, ◌<◌, List, [], ◌∷◌, ◌++◌, length, min, None, Some, ap, arith, sym, subst, slice_get, slice_index_or}
use Rattle.tso_flow.specs.declared.location.ProcedureKind.{ProcedureKind}
use Rattle.tso_hist.specs.declared.call.Call.{Call}
use Rattle.tso_parts.specs.Numbers.{Extends}
use Rattle.tso_keys.specs.Running.{AreRunning, IsRemembered, IsRunningBy, IsRunningOf, count_in, counts_in, procedure_in, procedures_in}
use Rattle.tso_keys.specs.declared.running.Running.{Running}
use Rattle.tso_keys.proofs.Lists.{at_end}

pub running_grows : (old new : List (List (List Call))) (rs : List Running) → Extends old new → AreRunning old rs → AreRunning new rs
running_grows old new rs extends all n r at =
    let is = all n r at in
    record { history = is.history; at = extends n is.history is.at; is = is.is }

pub running_more : (hs : List (List (List Call))) (rs : List Running) (h : List (List Call)) (r : Running) → AreRunning hs rs → slice_get hs (length rs) ≡ Some h → IsRunningOf h r → AreRunning hs (rs ++ r ∷ [])
running_more hs rs h r all there is n s at = known (at_end rs r n s at)
  where
    known : (slice_get rs n ≡ Some s) ⊎ ((n ≡ length rs) × (s ≡ r)) → IsRunningBy hs n s
    known (inl k) = all n s k
    known (inr k) = record { history = h; at = ap (slice_get hs) k.0 ∙ there; is = subst (IsRunningOf h) (sym k.1) is }

-- what is remembered of the history with this number
pub remembered : (hs : List (List (List Call))) (rs : List Running) (n : ℕ) (h : List (List Call)) → AreRunning hs rs → slice_get hs n ≡ Some h → IsRemembered h rs n
remembered hs rs n h all at r there =
    let is = all n r there in
    let same : is.history ≡ h = (let e : Some is.history ≡ Some h = sym is.at ∙ at in cc) in
    subst (λ k. IsRunningOf k r) same is.is

-- one of five is that of its thread
procedure_told : (h : List (List Call)) (thread : ℕ) (p : ProcedureKind) → slice_get (procedures_in h) thread ≡ Some p → p ≡ procedure_in h thread
procedure_told h zero p at = let k : procedure_in h 0 ≡ p = cc in sym k
procedure_told h (suc zero) p at = let k : procedure_in h 1 ≡ p = cc in sym k
procedure_told h (suc (suc zero)) p at = let k : procedure_in h 2 ≡ p = cc in sym k
procedure_told h (suc (suc (suc zero))) p at = let k : procedure_in h 3 ≡ p = cc in sym k
procedure_told h (suc (suc (suc (suc zero)))) p at = let k : procedure_in h 4 ≡ p = cc in sym k
procedure_told h (suc (suc (suc (suc (suc n))))) p at = absurd (let k : None ≡ Some p = at in cc)

pub told : (h : List (List Call)) (r : Running) (thread : ℕ) (p : ProcedureKind) → IsRunningOf h r → Some p ≡ slice_get r.procedures thread → p ≡ procedure_in h thread
told h r thread p is there = procedure_told h thread p (ap (λ (ps : List ProcedureKind). slice_get ps thread) (sym is.procedures) ∙ sym there)

counted_told : (h : List (List Call)) (thread n : ℕ) → slice_get (counts_in h) thread ≡ Some n → n ≡ count_in h thread
counted_told h zero n at = let k : count_in h 0 ≡ n = cc in sym k
counted_told h (suc zero) n at = let k : count_in h 1 ≡ n = cc in sym k
counted_told h (suc (suc zero)) n at = let k : count_in h 2 ≡ n = cc in sym k
counted_told h (suc (suc (suc zero))) n at = let k : count_in h 3 ≡ n = cc in sym k
counted_told h (suc (suc (suc (suc zero)))) n at = let k : count_in h 4 ≡ n = cc in sym k
counted_told h (suc (suc (suc (suc (suc i))))) n at = absurd (let k : None ≡ Some n = at in cc)

below : (k n : ℕ) → n ≡ min k 255 → n < 255 → n ≡ k
below k n e lt = omega (arith, e, lt)

pub counted : (h : List (List Call)) (r : Running) (thread n : ℕ) → IsRunningOf h r → slice_get r.begun thread ≡ Some n → n < 255 → n ≡ length (slice_index_or h thread [])
counted h r thread n is there lt = below _ n (counted_told h thread n (ap (λ (ns : List ℕ). slice_get ns thread) (sym is.begun) ∙ there)) lt
