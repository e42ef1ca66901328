-- The order of states by their parts.
use Rattle.std.proofs.Common.{◌≡◌, ℕ, zero, suc, Bool, true, List, [], ◌∷◌, length, None, Option, Some, refl, replicate, sym, ap, ◌∙◌, arith, slice_get}
use Rattle.std.proofs.lemmas.Bool.{false≢true}
use Rattle.std.specs.Cmp.Lexicographic.{slice_cmp}
use Rattle.std.specs.Ordering.{is_eq, nat_cmp, ordering_then}
use Rattle.std.specs.declared.cmp.Ordering.{Ordering}
use Rattle.std.specs.declared.cmp.Ordering.TheVariants.{Less, Equal, Greater}
use Rattle.tso_hist.specs.contracts.call.CallOrd.TheImpl as call_impl
use Rattle.tso_list.specs.Same.{IsExact}
use Rattle.tso_state.proofs.OrderLemmas.{state_alike}
use Rattle.tso_state.specs.Order.{state_cmp}
use Rattle.tso_state.specs.contracts.state.ThreadOrd.TheImpl as thread_impl
use Rattle.tso_state.specs.declared.state.State.{State}
use Rattle.tso_keys.specs.Keys.{IsKeyOf, state_at}
use Rattle.tso_keys.specs.Orders.{IsOrderOfParts, IsOrderOfRows}
use Rattle.tso_keys.specs.declared.key.Key.{Key}
use Rattle.tso_keys.specs.declared.parts.Parts.{Parts}

tied : (o : Ordering) → is_eq o ≡ true → o ≡ Equal
tied Less e = absurd (false≢true e)
tied Equal e = refl
tied Greater e = absurd (false≢true e)

-- a value and itself
pub equal_parts : {X : Type 0} (eq : X → X → Bool) (R : X → X → Ordering) → IsExact eq → ((x y : X) → eq x y ≡ is_eq (R x y)) → (pool : List X) (n m : ℕ) → n ≡ m → IsOrderOfParts R pool n m Equal
equal_parts eq R exact ties pool n m same x y at_n at_m =
    let both : Some x ≡ Some y = sym at_n ∙ ap (slice_get pool) same ∙ at_m in
    let one : x ≡ y = cc in
    sym (tied (R x y) (sym (ties x y) ∙ (exact x y).1 one))

pub decides : (o rest : Ordering) → (o ≡ Equal → ⊥) → ordering_then o rest ≡ o
decides Less rest other = refl
decides Equal rest other = absurd (other refl)
decides Greater rest other = refl

-- rows of numbers
pub no_first_row : {X : Type 0} (R : X → X → Ordering) (pool : List X) (ms : List ℕ) → IsOrderOfRows R pool [] ms Equal
no_first_row R pool ms [] [] a b e = refl
no_first_row R pool ms [] (y ∷ ys) a b e = absurd (omega (arith, e))
no_first_row R pool ms (x ∷ xs) ys a b e = absurd a

pub no_second_row : {X : Type 0} (R : X → X → Ordering) (pool : List X) (ns : List ℕ) → IsOrderOfRows R pool ns [] Equal
no_second_row R pool ns [] [] a b e = refl
no_second_row R pool ns (x ∷ xs) [] a b e = absurd (omega (arith, e))
no_second_row R pool ns xs (y ∷ ys) a b e = absurd b

pub equal_firsts : {X : Type 0} (R : X → X → Ordering) (pool : List X) (n m : ℕ) (ns ms : List ℕ) (o : Ordering) → IsOrderOfParts R pool n m Equal → IsOrderOfRows R pool ns ms o → IsOrderOfRows R pool (n ∷ ns) (m ∷ ms) o
equal_firsts R pool n m ns ms o first rest [] [] a b e = rest [] [] a.1 b.1 e
equal_firsts R pool n m ns ms o first rest [] (y ∷ ys) a b e = absurd (omega (arith, e))
equal_firsts R pool n m ns ms o first rest (x ∷ xs) [] a b e = absurd (omega (arith, e))
equal_firsts R pool n m ns ms o first rest (x ∷ xs) (y ∷ ys) a b e =
    rest xs ys a.1 b.1 (omega (arith, e)) ∙ ap (λ (f : Ordering). ordering_then f (slice_cmp R xs ys)) (first x y a.0 b.0)

pub other_firsts : {X : Type 0} (R : X → X → Ordering) (pool : List X) (n m : ℕ) (ns ms : List ℕ) (o : Ordering) → (o ≡ Equal → ⊥) → (n ≡ m → o ≡ Equal) → IsOrderOfParts R pool n m o → IsOrderOfRows R pool (n ∷ ns) (m ∷ ms) o
other_firsts R pool n m ns ms o other same first [] [] a b e = absurd (other (same (a.0 ∙ sym b.0)))
other_firsts R pool n m ns ms o other same first [] (y ∷ ys) a b e = absurd (omega (arith, e))
other_firsts R pool n m ns ms o other same first (x ∷ xs) [] a b e = absurd (omega (arith, e))
other_firsts R pool n m ns ms o other same first (x ∷ xs) (y ∷ ys) a b e =
    sym (decides o (slice_cmp R xs ys) other) ∙ ap (λ (f : Ordering). ordering_then f (slice_cmp R xs ys)) (first x y a.0 b.0)

-- ---- states, whose memories are equal

pub by_history : (p : Parts) (k l : Key) (memory rows o : Ordering) → IsKeyOf p k (state_at p k) → IsKeyOf p l (state_at p l) → length (state_at p k).threads ≡ length (state_at p l).threads
    → IsOrderOfParts (slice_cmp nat_cmp) p.memories k.memory l.memory memory → memory ≡ Equal
    → IsOrderOfRows thread_impl.cmp-value.it p.threads k.threads l.threads rows → rows ≡ Equal
    → IsOrderOfParts (slice_cmp (slice_cmp call_impl.cmp-value.it)) p.histories k.history l.history o
    → o ≡ state_cmp (state_at p k) (state_at p l)
by_history p k l memory rows o a b wide mem mem_is threads rows_is hist =
    let s : State = state_at p k in
    let t : State = state_at p l in
    let M = slice_cmp nat_cmp s.memory t.memory in
    let T = slice_cmp thread_impl.cmp-value.it s.threads t.threads in
    let H = slice_cmp (slice_cmp call_impl.cmp-value.it) s.history t.history in
    let first : M ≡ Equal = sym (mem s.memory t.memory a.memory b.memory) ∙ mem_is in
    let second : T ≡ Equal = sym (threads s.threads t.threads a.threads b.threads wide) ∙ rows_is in
    let all : ordering_then M (ordering_then T H) ≡ state_cmp s t = state_alike s t in
    let step : ordering_then M (ordering_then T H) ≡ H = ap (λ (x : Ordering). ordering_then x (ordering_then T H)) first ∙ ap (λ (x : Ordering). ordering_then x H) second in
    hist s.history t.history a.history b.history ∙ sym step ∙ all

pub by_threads : (p : Parts) (k l : Key) (memory o : Ordering) → IsKeyOf p k (state_at p k) → IsKeyOf p l (state_at p l) → length (state_at p k).threads ≡ length (state_at p l).threads
    → IsOrderOfParts (slice_cmp nat_cmp) p.memories k.memory l.memory memory → memory ≡ Equal
    → IsOrderOfRows thread_impl.cmp-value.it p.threads k.threads l.threads o → (o ≡ Equal → ⊥)
    → o ≡ state_cmp (state_at p k) (state_at p l)
by_threads p k l memory o a b wide mem mem_is threads other =
    let s : State = state_at p k in
    let t : State = state_at p l in
    let M = slice_cmp nat_cmp s.memory t.memory in
    let T = slice_cmp thread_impl.cmp-value.it s.threads t.threads in
    let H = slice_cmp (slice_cmp call_impl.cmp-value.it) s.history t.history in
    let first : M ≡ Equal = sym (mem s.memory t.memory a.memory b.memory) ∙ mem_is in
    let second : o ≡ T = threads s.threads t.threads a.threads b.threads wide in
    let all : ordering_then M (ordering_then T H) ≡ state_cmp s t = state_alike s t in
    let step : ordering_then M (ordering_then T H) ≡ o = ap (λ (x : Ordering). ordering_then x (ordering_then T H)) first ∙ ap (λ (x : Ordering). ordering_then x H) (sym second) ∙ decides o H other in
    sym step ∙ all

-- ---- pairs of histories that are remembered

-- at first there is none
pub no_pair : {X : Type 0} (none : Option X) (n i : ℕ) (x : X) → none ≡ None → slice_get (replicate n none) i ≡ Some (Some x) → ⊥
no_pair none zero i x is e = absurd cc
no_pair none (suc n) zero x is e = absurd (let f : Some (Some x) ≡ Some None = sym e ∙ ap Some is in cc)
no_pair none (suc n) (suc i) x is e = no_pair none n i x is e
