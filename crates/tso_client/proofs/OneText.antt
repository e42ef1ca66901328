-- A text denotes one client, and has one first fault.
use Rattle.std.proofs.Common.{◌≡◌, ◌∙◌, ℕ, ◌+◌, ◌≤◌, true, Some, refl, sym, ap, arith}
use Rattle.std.specs.Prelude.{◌&&◌, ◌||◌, ◌==◌, nat_lt, nat_le, if◌then◌else◌, IsTrue, length, map, sum_by}
use Rattle.std.specs.List.{list_all}
use Rattle.std.proofs.lemmas.Bool.Decides.{nat_tests}
use Rattle.std.proofs.Math.Path.{PathP, to_path_p}
use Rattle.std.proofs.Props.{props}
use Rattle.tso_prog.specs.Limits.{are_arrays_below, are_bounds_small, are_distinct, are_in_range, are_targets_within, are_words, is_prologue, is_short_name, is_thread}
use Rattle.tso_flow.specs.Faults.{IsFirst, is_no_later}
use Rattle.tso_prog.specs.Client.{client}
use Rattle.tso_prog.specs.Codes.{code_number}
use Rattle.tso_prog.specs.declared.client.Client.{Client}
use Rattle.tso_prog.specs.declared.client.Procedure.{Procedure}
use Rattle.tso_prog.specs.declared.fault.Code.{Code}
use Rattle.tso_prog.specs.declared.fault.Code.TheVariants.{E01, E02, E03, E04, E05, E06, E07, E08, E09, E10, E11, E12, E13, E14}
use Rattle.tso_prog.specs.declared.fault.Fault.{Fault}

-- ---- clients

along : (A : 𝕀 → Type 0) → ((i : 𝕀) → IsProp (A i)) → (x : A 0) (y : A 1) → PathP A x y
along A is_prop x y = to_path_p A (is_prop 1 (coe 0 1 (k. A k) x) y)

same_procedure : (p q : Procedure) → p.instructions ≡ q.instructions → p.lines ≡ q.lines → p ≡ q
same_procedure p q e f = λ i. record {
  instructions = e i;
  lines = f i;
  each_has_line = along (λ k. length (f k) ≡ length (e k)) (λ k. Prim.hlevel props) p.each_has_line q.each_has_line i;
  small_bounds = along (λ k. IsTrue (are_bounds_small (e k))) (λ k. Prim.hlevel props) p.small_bounds q.small_bounds i;
  targets_within = along (λ k. IsTrue (are_targets_within (length (e k)) (e k))) (λ k. Prim.hlevel props) p.targets_within q.targets_within i;
  nonempty = along (λ k. 1 ≤ length (e k)) (λ k. Prim.hlevel props) p.nonempty q.nonempty i;
  in_range = along (λ k. IsTrue (are_in_range (e k))) (λ k. Prim.hlevel props) p.in_range q.in_range i;
}

same_parts : (c d : Client) → client c ≡ client d → c.push ≡ d.push → c.pop ≡ d.pop → c ≡ d
same_parts c d e push pop = λ i. record {
  capacity = (e i).capacity;
  mode = (e i).mode;
  arrays = (e i).arrays;
  push = push i;
  pop = pop i;
  prologue = (e i).prologue;
  threads = (e i).threads;
  few_arrays = along (λ k. length (e k).arrays ≤ 16) (λ k. Prim.hlevel props) c.few_arrays d.few_arrays i;
  few_words = along (λ k. sum_by (λ a. length a.words) (e k).arrays ≤ 256) (λ k. Prim.hlevel props) c.few_words d.few_words i;
  few_instructions = along (λ k. length (push k).instructions + length (pop k).instructions ≤ 256) (λ k. Prim.hlevel props) c.few_instructions d.few_instructions i;
  few_threads = along (λ k. length (e k).threads ≤ 4) (λ k. Prim.hlevel props) c.few_threads d.few_threads i;
  few_calls = along (λ k. length (e k).prologue + sum_by (λ calls. length calls) (e k).threads ≤ 12) (λ k. Prim.hlevel props) c.few_calls d.few_calls i;
  some_capacity = along (λ k. 1 ≤ (e k).capacity) (λ k. Prim.hlevel props) c.some_capacity d.some_capacity i;
  small_capacity = along (λ k. (e k).capacity ≤ 16) (λ k. Prim.hlevel props) c.small_capacity d.small_capacity i;
  short_names = along (λ k. IsTrue (list_all (λ a. is_short_name a.name) (e k).arrays)) (λ k. Prim.hlevel props) c.short_names d.short_names i;
  distinct_names = along (λ k. IsTrue (are_distinct (map (λ a. a.name) (e k).arrays))) (λ k. Prim.hlevel props) c.distinct_names d.distinct_names i;
  arrays_of_words = along (λ k. IsTrue (list_all (λ a. are_words a.words) (e k).arrays)) (λ k. Prim.hlevel props) c.arrays_of_words d.arrays_of_words i;
  arrays_of_push = along (λ k. IsTrue (are_arrays_below (length (e k).arrays) (push k).instructions)) (λ k. Prim.hlevel props) c.arrays_of_push d.arrays_of_push i;
  arrays_of_pop = along (λ k. IsTrue (are_arrays_below (length (e k).arrays) (pop k).instructions)) (λ k. Prim.hlevel props) c.arrays_of_pop d.arrays_of_pop i;
  short_prologue = along (λ k. IsTrue (is_prologue (e k).prologue)) (λ k. Prim.hlevel props) c.short_prologue d.short_prologue i;
  some_threads = along (λ k. 1 ≤ length (e k).threads) (λ k. Prim.hlevel props) c.some_threads d.some_threads i;
  short_threads = along (λ k. IsTrue (list_all is_thread (e k).threads)) (λ k. Prim.hlevel props) c.short_threads d.short_threads i;
}

-- a client is what it denotes, with its lines
pub same_client : (c d : Client) → client c ≡ client d → c.push.lines ≡ d.push.lines → c.pop.lines ≡ d.pop.lines → c ≡ d
same_client c d e push pop = same_parts c d e (same_procedure c.push d.push (λ i. (e i).push) push) (same_procedure c.pop d.pop (λ i. (e i).pop) pop)

-- ---- faults

abbrev code_at : ℕ → Code
code_at n =
    (if n == 1 then E01 else
    (if n == 2 then E02 else
    (if n == 3 then E03 else
    (if n == 4 then E04 else
    (if n == 5 then E05 else
    (if n == 6 then E06 else
    (if n == 7 then E07 else
    (if n == 8 then E08 else
    (if n == 9 then E09 else
    (if n == 10 then E10 else
    (if n == 11 then E11 else
    (if n == 12 then E12 else
    (if n == 13 then E13 else
    E14)))))))))))))

code_is : (k : Code) → code_at (code_number k) ≡ k
code_is E01 = refl
code_is E02 = refl
code_is E03 = refl
code_is E04 = refl
code_is E05 = refl
code_is E06 = refl
code_is E07 = refl
code_is E08 = refl
code_is E09 = refl
code_is E10 = refl
code_is E11 = refl
code_is E12 = refl
code_is E13 = refl
code_is E14 = refl

one_line : (a m b n : ℕ) → (nat_lt a b || ((a == b) && nat_le m n)) ≡ true → (nat_lt b a || ((b == a) && nat_le n m)) ≡ true → (a ≡ b) × (m ≡ n)
one_line a m b n e f = (grind (arith, nat_tests), grind (arith, nat_tests))

same_fault : (f g : Fault) → is_no_later f g ≡ true → is_no_later g f ≡ true → f ≡ g
unfolding is_no_later
same_fault f g p q =
    let (line, number) = one_line f.line (code_number f.code) g.line (code_number g.code) p q in
    let code : f.code ≡ g.code = sym (code_is f.code) ∙ ap code_at number ∙ code_is g.code in
    λ i. record { code = code i; line = line i }

pub one_first : (Stands : Fault → Type 0) (f g : Fault) → IsFirst Stands (Some f) → IsFirst Stands (Some g) → f ≡ g
one_first Stands f g p q = same_fault f g (p.1 g q.0) (q.1 f p.0)
