-- What a queue holds after the calls of an order.
use Rattle.std.proofs.Common.{◌≡◌, ℕ, zero, suc, ◌+◌, ◌≤◌, List, [], ◌∷◌, ◌++◌, length, get_or, take, drop, Option, Some, None, slice_get, refl, sym, ap, ◌∙◌, subst, arith}
use Rattle.std.specs.List.{cons_option}
use Rattle.std.proofs.lemmas.Option.{slice_get_within, get_or_from_slice_get}
use Rattle.std.proofs.lemmas.List.{length-drop, length-append, drop-append-le, drop-drop, append-nil, take_more, take-append-drop, drop_more}
use Rattle.std.proofs.lemmas.List.Elements.{filter_map-append}
use Rattle.tso_fifo.specs.Contents.{put_by, pushed_by, pushed, taken_by}
use Rattle.tso_fifo.specs.Orders.{order_view, placed_in}
use Rattle.tso_fifo.specs.declared.order.Placed.{Placed}
use Rattle.tso_fifo.proofs.Steps.{MayAnswer, steps_push, steps_same, steps_split}
use Rattle.tso_model.specs.Linear.{placed_calls}
use Rattle.tso_model.specs.Objects.{Mode, QueueStep, QueueSteps}
use Rattle.tso_model.specs.Programs as model
use Rattle.tso_model.specs.Programs.{CallKind, Pop, Push}
use Rattle.tso_model.specs.States.{Called}
use Rattle.tso_prog.specs.Views.{answer_view}
use Rattle.tso_prog.specs.declared.answer.Answer.{Answer}
use Rattle.tso_prog.specs.declared.answer.Answer.TheVariants.{Refused, Done, Value}

-- one more call, where `all` is what was pushed before it and `taken` how much of that is gone
moved : (mode : Mode) (capacity : ℕ) (all : List ℕ) (taken : ℕ) (kind : CallKind) (answer : Answer) (after : List ℕ) → taken ≤ length all → QueueStep mode capacity (drop taken all) kind (answer_view answer) after
    → (after ≡ drop (taken + taken_by answer) (all ++ cons_option (put_by kind (answer_view answer)) [])) × (taken + taken_by answer ≤ length (all ++ cons_option (put_by kind (answer_view answer)) []))
moved mode capacity all taken (Push v) Done after le p =
    let t : taken + 0 ≡ taken = omega arith in
    (p.1 ∙ sym (drop-append-le taken all (v ∷ []) le) ∙ ap (λ (n : ℕ). drop n (all ++ v ∷ [])) (sym t), omega (arith, length-append all (v ∷ [])))
moved mode capacity all taken (Push v) Refused after le p =
    let t : taken + 0 ≡ taken = omega arith in
    (p.1 ∙ ap (λ (n : ℕ). drop n all) (sym t) ∙ ap (drop (taken + 0)) (sym (append-nil all)), omega (arith, length-append {A = ℕ} all []))
moved mode capacity all taken (Push v) (Value w) after le p = absurd p
moved mode capacity all taken Pop Done after le p = absurd p
moved mode capacity all taken Pop Refused after le p =
    let t : taken + 0 ≡ taken = omega arith in
    (p.1 ∙ ap (λ (n : ℕ). drop n all) (sym t) ∙ ap (drop (taken + 0)) (sym (append-nil all)), omega (arith, length-append {A = ℕ} all []))
moved mode capacity all taken Pop (Value v) after le p =
    (sym (ap (drop 1) p) ∙ drop-drop 1 taken all ∙ ap (drop (taken + 1)) (sym (append-nil all)), omega (arith, length-append {A = ℕ} all [], length-drop taken all, ap length p))

pushed-push : (h : List (List Called)) (order : List Placed) (x : Placed) → pushed h (order ++ x ∷ []) ≡ pushed h order ++ cons_option (pushed_by h x) []
pushed-push h order x = filter_map-append (pushed_by h) order (x ∷ [])

next_contents : (mode : Mode) (capacity : ℕ) (h : List (List Called)) (order : List Placed) (taken : ℕ) (x : Placed) (after : List ℕ) → taken ≤ length (pushed h order) → QueueStep mode capacity (drop taken (pushed h order)) (placed_in h x).kind (answer_view x.answer) after
    → (after ≡ drop (taken + taken_by x.answer) (pushed h (order ++ x ∷ []))) × (taken + taken_by x.answer ≤ length (pushed h (order ++ x ∷ [])))
next_contents mode capacity h order taken x after le step =
    subst (λ (all : List ℕ). (after ≡ drop (taken + taken_by x.answer) all) × (taken + taken_by x.answer ≤ length all)) (sym (pushed-push h order x))
    (moved mode capacity (pushed h order) taken (placed_in h x).kind x.answer after le step)

length-cons_option : (o : Option ℕ) (xs : List ℕ) → length (cons_option o xs) ≤ length xs + 1
length-cons_option None xs = omega arith
length-cons_option (Some x) xs = omega arith

pub length-pushed : (h : List (List Called)) (order : List Placed) → length (pushed h order) ≤ length order
length-pushed h [] = omega arith
length-pushed h (x ∷ xs) = omega (arith, length-cons_option (pushed_by h x) (pushed h xs), length-pushed h xs)

-- the calls with their answers, as the queue sees them
abbrev pub calls_of : List (List Called) → List Placed → List (CallKind × model.Answer)
calls_of h order = placed_calls (order_view h order)

calls-append : (h : List (List Called)) (xs ys : List Placed) → calls_of h (xs ++ ys) ≡ calls_of h xs ++ calls_of h ys
calls-append h [] ys = refl
calls-append h (x ∷ xs) ys = ap {B = List (CallKind × model.Answer)} (λ r. ((placed_in h x).kind, (placed_in h x).answer) ∷ r) (calls-append h xs ys)

-- the queue may answer the first i calls so, and they took so many items
pub record IsCheckedTo (mode : Mode) (capacity : ℕ) (h : List (List Called)) (order : List Placed) (i taken : ℕ) : Type 0 where
  pub within : taken ≤ length (pushed h (take i order))
  pub steps : QueueSteps mode capacity [] (calls_of h (take i order)) (drop taken (pushed h (take i order)))

pub checked-more : (mode : Mode) (capacity : ℕ) (h : List (List Called)) (order : List Placed) (i taken : ℕ) (x : Placed) → IsCheckedTo mode capacity h order i taken → slice_get order i ≡ Some x
    → MayAnswer mode capacity (drop taken (pushed h (take i order))) (placed_in h x).kind (answer_view x.answer) → IsCheckedTo mode capacity h order (i + 1) (taken + taken_by x.answer)
checked-more mode capacity h order i taken x k here (next, step) =
    let lt = slice_get_within order i x here in
    let is : get_or order i x ≡ x = get_or_from_slice_get order i x x here in
    let more : take (i + 1) order ≡ take i order ++ x ∷ [] = take_more order i x lt ∙ ap (λ (y : Placed). take i order ++ y ∷ []) is in
    let (q, le) = next_contents mode capacity h (take i order) taken x next k.within step in
    record {
      within = subst (λ (xs : List Placed). taken + taken_by x.answer ≤ length (pushed h xs)) (sym more) le;
      steps = subst (λ (xs : List Placed). QueueSteps mode capacity [] (calls_of h xs) (drop (taken + taken_by x.answer) (pushed h xs))) (sym more)
          (subst (QueueSteps mode capacity [] (calls_of h (take i order ++ x ∷ []))) q
          (subst (λ (cs : List (CallKind × model.Answer)). QueueSteps mode capacity [] cs next) (sym (calls-append h (take i order) (x ∷ [])))
          (steps_push mode capacity [] (drop taken (pushed h (take i order))) next (calls_of h (take i order)) ((placed_in h x).kind, answer_view x.answer) k.steps step)));
    }

-- an order that the queue allows goes on from there
pub checked-here : (mode : Mode) (capacity : ℕ) (h : List (List Called)) (order : List Placed) (i taken : ℕ) (x : Placed) (after : List ℕ) → IsCheckedTo mode capacity h order i taken → slice_get order i ≡ Some x → QueueSteps mode capacity [] (calls_of h order) after
    → MayAnswer mode capacity (drop taken (pushed h (take i order))) (placed_in h x).kind (answer_view x.answer)
checked-here mode capacity h order i taken x after k here steps =
    let lt = slice_get_within order i x here in
    let is : get_or order i x ≡ x = get_or_from_slice_get order i x x here in
    let whole : order ≡ take i order ++ x ∷ drop (i + 1) order = sym (take-append-drop i order) ∙ ap (λ (r : List Placed). take i order ++ r) (drop_more order i x lt ∙ ap (λ (y : Placed). y ∷ drop (i + 1) order) is) in
    let split = subst (λ (cs : List (CallKind × model.Answer)). QueueSteps mode capacity [] cs after) (ap (calls_of h) whole ∙ calls-append h (take i order) (x ∷ drop (i + 1) order)) steps in
    let (mid, first, (next, step, rest)) = steps_split mode capacity [] after (calls_of h (take i order)) (calls_of h (x ∷ drop (i + 1) order)) split in
    (next, subst (λ (q : List ℕ). QueueStep mode capacity q (placed_in h x).kind (answer_view x.answer) next) (steps_same mode capacity [] (calls_of h (take i order)) mid _ first k.steps) step)

pub front_drop : (n : ℕ) (xs : List ℕ) → slice_get (drop n xs) 0 ≡ slice_get xs n
front_drop zero xs = refl
front_drop (suc n) [] = refl
front_drop (suc n) (x ∷ xs) = front_drop n xs
