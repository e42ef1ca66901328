-- What the tests of a table find out, as facts of its lists.
use Rattle.std.proofs.Common.{◌≡◌, ◌∙◌, ℕ, zero, suc, ◌+◌, ◌-◌, ◌≤◌, ◌<◌, ◌⊎◌, inl, inr, Bool, true, false, ◌&&◌, List, [], ◌∷◌, ◌++◌, drop, take, length, get_or, Option, None, Some, slice_get, refl, sym, ap, subst, arith, add-one, drop-cons}
use Rattle.std.specs.Prelude.{All, IsTrue, min, sum_by}
use Rattle.std.proofs.lemmas.Bool.{cases_lt, eq-eqb, eqb-true, or_cases, or_left, or_right}
use Rattle.std.proofs.lemmas.List.{drop_all, take_all, take_min}
use Rattle.std.proofs.lemmas.List.Sums.{sum_by_more, sum_by_more_le}
use Rattle.std.proofs.lemmas.Option.{get_or_from_slice_get, none-some, same_Some, slice_get-get_or, slice_get_past, slice_get_within}
use Rattle.tso_cells.proofs.PlaceLemmas.{UpTo, from_all, one_more, to_all}
use Rattle.tso_cells.proofs.TableLemmas.{any_lie}
use Rattle.tso_cells.specs.Inductive.{Foresees, HandsOn, HasArgument, HasSuccessors, HaveArguments, IsListInductive, IsProper, registers_at}
use Rattle.tso_cells.specs.declared.table.Cells.{Cells}
use Rattle.tso_cells.specs.declared.table.Item.{Item}
use Rattle.tso_flow.specs.Calls.{as_thread}
use Rattle.tso_flow.specs.Paths.{goes_on, is_at, next_of, target_of}
use Rattle.tso_cells.specs.Intervals.{IsInside, has, lie_in}
use Rattle.tso_cells.specs.IntervalLaws.{AreFirst}
use Rattle.tso_cells.specs.Moved.{moved}
use Rattle.tso_cells.specs.declared.interval.Interval.{Interval}
use Rattle.tso_line.specs.declared.instruction.CallKind.{CallKind}
use Rattle.tso_line.specs.declared.instruction.CallKind.TheVariants.{Push, Pop}
use Rattle.tso_line.specs.declared.instruction.Instruction.{Instruction}
use Rattle.tso_line.specs.declared.instruction.Instruction.TheVariants.{Nop}
use Rattle.tso_machine.specs.Places.{first_place}
use Rattle.tso_prog.specs.declared.client.Array.{Array}

-- ---- lists of cells

-- arrays rise from one to the next, of the first cells
abbrev pub RisingUpTo : List Cells → ℕ → Type 0
RisingUpTo cells upto = (n : ℕ) (c d : Cells) → n + 1 < upto → slice_get cells n ≡ Some c → slice_get cells (n + 1) ≡ Some d → c.array < d.array

pub rising_more : (cells : List Cells) (n : ℕ) (x y : Cells) → 1 ≤ n → RisingUpTo cells n → (get_or cells (n - 1) x).array < (get_or cells n y).array → RisingUpTo cells (n + 1)
rising_more cells n x y past before here k c d below at next = elim (cases_lt (k + 1) n) [
  | inl less ↦ before k c d less at next
  | inr le ↦
      let same : k + 1 ≡ n = omega (arith, below, le) in
      let last : n - 1 ≡ k = omega (arith, same) in
      let one : (get_or cells (n - 1) x).array ≡ c.array = ap (λ m. (get_or cells m x).array) last ∙ ap (λ (z : Cells). z.array) (get_or_from_slice_get cells k c x at) in
      let two : (get_or cells n y).array ≡ d.array = ap (λ m. (get_or cells m y).array) (sym same) ∙ ap (λ (z : Cells). z.array) (get_or_from_slice_get cells (k + 1) d y next) in
      omega (arith, one, two, here)
]

-- ---- intervals

-- the interval lies in that of its place
abbrev pub LiesIn : List Interval → ℕ → Interval → Type 0
LiesIn ys n i = (j : Interval) → slice_get ys n ≡ Some j → IsInside i j

pub inside_more : (xs ys : List Interval) (n : ℕ) (d e : Interval) → UpTo (LiesIn ys) xs n → IsInside (get_or xs n d) (get_or ys n e) → UpTo (LiesIn ys) xs (n + 1)
inside_more xs ys n d e before here =
    one_more (LiesIn ys) xs n d before (λ j at. subst (λ (y : Interval). IsInside (get_or xs n d) y) (get_or_from_slice_get ys n j e at) here)

-- the rest of two lists, from one place on
lie_on : (xs : List Interval) (ws : List ℕ) (n : ℕ) (d : Interval) (e : ℕ) → n < length xs → length xs ≡ length ws
    → lie_in (drop n xs) (drop n ws) ≡ (has (get_or xs n d) (get_or ws n e) && lie_in (drop (n + 1) xs) (drop (n + 1) ws))
lie_on xs ws n d e within same = let also : n < length ws = omega (arith, within, same) in rw (drop-cons xs n d within, drop-cons ws n e also, add-one) refl

pub lie_more : (xs : List Interval) (ws : List ℕ) (n : ℕ) (d : Interval) (e : ℕ) (whole : Bool) → n < length xs → length xs ≡ length ws → has (get_or xs n d) (get_or ws n e) ≡ true
    → lie_in (drop n xs) (drop n ws) ≡ whole → lie_in (drop (n + 1) xs) (drop (n + 1) ws) ≡ whole
lie_more xs ws n d e whole within same h before =
    let step : lie_in (drop n xs) (drop n ws) ≡ lie_in (drop (n + 1) xs) (drop (n + 1) ws) = lie_on xs ws n d e within same ∙ ap (λ b. b && lie_in (drop (n + 1) xs) (drop (n + 1) ws)) h in
    sym step ∙ before

pub lie_stopped : (xs : List Interval) (ws : List ℕ) (n : ℕ) (d : Interval) (e : ℕ) (whole : Bool) → n < length xs → length xs ≡ length ws → has (get_or xs n d) (get_or ws n e) ≡ false
    → lie_in (drop n xs) (drop n ws) ≡ whole → false ≡ whole
lie_stopped xs ws n d e whole within same h before =
    let step : lie_in (drop n xs) (drop n ws) ≡ false = lie_on xs ws n d e within same ∙ ap (λ b. b && lie_in (drop (n + 1) xs) (drop (n + 1) ws)) h in
    sym step ∙ before

pub lie_done : (xs : List Interval) (ws : List ℕ) (n : ℕ) (whole : Bool) → length xs ≤ n → length xs ≡ length ws → lie_in (drop n xs) (drop n ws) ≡ whole → true ≡ whole
lie_done xs ws n whole past same before =
    let none : drop n xs ≡ [] = drop_all n xs past in
    let nothing : drop n ws ≡ [] = drop_all n ws (omega (arith, past, same)) in
    rw (none, nothing) at before

-- behind the last item
pub lie_behind : (items : List Item) (position : ℕ) (ws : List ℕ) → length items ≤ position → length ws ≡ 15 → true ≡ lie_in (registers_at items position) ws
lie_behind items position ws past e = rw (slice_get_past items position past) (sym (any_lie ws 15 e))

-- ---- items

-- what is so of the item at a position, if there is such a one
pub item_at : (P : Item → Type 0) (items : List Item) (position : Option ℕ) (j : ℕ) (d : Item) → position ≡ Some j → d ≡ get_or items j d → P d → (k : ℕ) (next : Item) → IsTrue (is_at position k)
    → slice_get items k ≡ Some next → P next
item_at P items None j d e is h k next here there = absurd (none-some j e)
item_at P items (Some i) j d e is h k next here there =
    let same : j ≡ k = sym (same_Some i j e) ∙ eqb-true i k here in
    subst P (is ∙ (ap (λ n. get_or items n d) same ∙ get_or_from_slice_get items k next d there)) h

pub at_item : (P : Item → Type 0) (items : List Item) (position : Option ℕ) (j : ℕ) (d : Item) → position ≡ Some j → d ≡ get_or items j d → j < length items
    → ((k : ℕ) (next : Item) → IsTrue (is_at position k) → slice_get items k ≡ Some next → P next) → P d
at_item P items None j d e is within h = absurd (none-some j e)
at_item P items (Some i) j d e is within h = subst P (sym is) (h j (get_or items j d) (eq-eqb i j (same_Some i j e)) (slice_get-get_or items j d within))

-- what is handed on to the items at both positions
abbrev pub HandedTo : List Item → List Interval → Item → Option ℕ → Type 0
HandedTo items after item position = (j : ℕ) (next : Item) → IsTrue (is_at position j) → slice_get items j ≡ Some next → HandsOn after item next

pub successors_of : (items : List Item) (i : ℕ) (step : Instruction ℕ ℕ) (item : Item) (after : List Interval) (p q : Option ℕ) → after ≡ moved item.registers step → p ≡ next_of step i → q ≡ target_of step
    → HandedTo items after item p → HandedTo items after item q → HasSuccessors items i step item
unfolding goes_on
successors_of items i step item after p q is e f one two j next goes there =
    let here : (is_at p j ≡ true) ⊎ (is_at q j ≡ true) = rw (e, f) (or_cases (is_at (next_of step i) j) (is_at (target_of step) j) goes) in
    subst (λ (xs : List Interval). HandsOn xs item next) is (elim here [ inl h ↦ one j next h there | inr h ↦ two j next h there ])

pub handed_next : (items : List Item) (i : ℕ) (step : Instruction ℕ ℕ) (item : Item) (after : List Interval) (p : Option ℕ) → after ≡ moved item.registers step → p ≡ next_of step i → HasSuccessors items i step item
    → HandedTo items after item p
unfolding goes_on
handed_next items i step item after p is e h j next at there =
    subst (λ (xs : List Interval). HandsOn xs item next) (sym is) (h j next (or_left (is_at (next_of step i) j) (is_at (target_of step) j) (rw e at at)) there)

pub handed_target : (items : List Item) (i : ℕ) (step : Instruction ℕ ℕ) (item : Item) (after : List Interval) (q : Option ℕ) → after ≡ moved item.registers step → q ≡ target_of step → HasSuccessors items i step item
    → HandedTo items after item q
unfolding goes_on
handed_target items i step item after q is f h j next at there =
    subst (λ (xs : List Interval). HandsOn xs item next) (sym is) (h j next (or_right (is_at (next_of step i) j) (is_at (target_of step) j) (rw f at at)) there)

-- what an item foresees, with the instruction of its place
abbrev pub ForeseesAt : List Array → List (Instruction ℕ ℕ) → List Item → ℕ → Item → Type 0
ForeseesAt arrays steps items n item = (step : Instruction ℕ ℕ) → slice_get steps n ≡ Some step → Foresees arrays items n step item

pub foresees_more : (arrays : List Array) (steps : List (Instruction ℕ ℕ)) (items : List Item) (n : ℕ) (s : Instruction ℕ ℕ) (d : Item) → UpTo (ForeseesAt arrays steps items) items n → d ≡ get_or items n d
    → Foresees arrays items n (get_or steps n s) d → UpTo (ForeseesAt arrays steps items) items (n + 1)
foresees_more arrays steps items n s d before is here =
    one_more (ForeseesAt arrays steps items) items n d before
    (λ step at.
    let there : Foresees arrays items n (get_or steps n s) (get_or items n d) = subst (Foresees arrays items n (get_or steps n s)) is here in
    subst (λ (x : Instruction ℕ ℕ). Foresees arrays items n x (get_or items n d)) (get_or_from_slice_get steps n step s at) there)

pub all_proper : (arrays : List Array) (steps : List (Instruction ℕ ℕ)) (items : List Item) → IsListInductive arrays steps items → All (IsProper arrays) items
all_proper arrays steps items is =
    to_all (IsProper arrays) items
    (λ n item at.
    let within = slice_get_within items n item at in (is.each n (get_or steps n Nop) item (slice_get-get_or steps n Nop (omega (arith, within, is.lengths))) at).proper)

-- ---- calls

-- what holds of each thread's calls and of the prologue's holds of all of them
each_list : (P : List CallKind → Type 0) (threads : List (List CallKind)) (prologue : List CallKind) → ((i : ℕ) (calls : List CallKind) → slice_get threads i ≡ Some calls → P calls) → P prologue
    → (i : ℕ) (calls : List CallKind) → slice_get (threads ++ as_thread prologue) i ≡ Some calls → P calls
each_list P [] [] each one i calls at = absurd (none-some calls at)
each_list P [] (call ∷ rest) each one zero calls at = subst P (same_Some (call ∷ rest) calls at) one
each_list P [] (call ∷ rest) each one (suc i) calls at = absurd (none-some calls at)
each_list P (t ∷ ts) prologue each one zero calls at = each zero calls at
each_list P (t ∷ ts) prologue each one (suc i) calls at = each_list P ts prologue (λ n. each (suc n)) one i calls at

-- the calls of a thread are among all, and so are the prologue's, if it has some
thread_among : (threads rest : List (List CallKind)) (i : ℕ) (calls : List CallKind) → slice_get threads i ≡ Some calls → slice_get (threads ++ rest) i ≡ Some calls
thread_among [] rest i calls at = absurd (none-some calls at)
thread_among (t ∷ ts) rest zero calls at = at
thread_among (t ∷ ts) rest (suc i) calls at = thread_among ts rest i calls at

prologue_among : (threads : List (List CallKind)) (calls : List CallKind) → slice_get (threads ++ calls ∷ []) (length threads) ≡ Some calls
prologue_among [] calls = refl
prologue_among (t ∷ ts) calls = prologue_among ts calls

has_argument : (xs : List Interval) (call : CallKind) → ((v : ℕ) → call ≡ Push v → AreFirst xs v) → HasArgument xs call
has_argument xs (Push v) h = h v refl
has_argument xs Pop h = tt

abbrev pub AllHaveArguments : List Interval → List (List CallKind) → Type 0
AllHaveArguments xs lists = All (λ (calls : List CallKind). All (HasArgument xs) calls) lists

pub arguments_there : (xs : List Interval) (threads lists : List (List CallKind)) (prologue calls : List CallKind) → lists ≡ threads → calls ≡ prologue → AllHaveArguments xs lists → All (HasArgument xs) calls
    → HaveArguments xs (threads ++ as_thread prologue)
arguments_there xs threads lists prologue calls e f each one i n v of at call =
    let P : List CallKind → Type 0 = λ cs. All (HasArgument xs) cs in
    let all : AllHaveArguments xs threads = subst (AllHaveArguments xs) e each in
    from_all (HasArgument xs) of (each_list P threads prologue (from_all P threads all) (subst P f one) i of at) n (Push v) call

pub arguments_of_threads : (xs : List Interval) (threads lists rest : List (List CallKind)) → lists ≡ threads → HaveArguments xs (threads ++ rest) → AllHaveArguments xs lists
arguments_of_threads xs threads lists rest e h =
    let all : AllHaveArguments xs threads =
    to_all (λ (calls : List CallKind). All (HasArgument xs) calls) threads
    (λ i calls at. to_all (HasArgument xs) calls (λ n call is. has_argument xs call (λ v same. h i n v calls (thread_among threads rest i calls at) (is ∙ ap Some same)))) in
    subst (AllHaveArguments xs) (sym e) all

of_prologue : (xs : List Interval) (threads : List (List CallKind)) (prologue : List CallKind) → HaveArguments xs (threads ++ as_thread prologue) → All (HasArgument xs) prologue
of_prologue xs threads [] h = λ k d below. absurd (omega (arith, below))
of_prologue xs threads (call ∷ rest) h =
    to_all (HasArgument xs) (call ∷ rest) (λ n one is. has_argument xs one (λ v same. h (length threads) n v (call ∷ rest) (prologue_among threads (call ∷ rest)) (is ∙ ap Some same)))

pub arguments_of_prologue : (xs : List Interval) (threads : List (List CallKind)) (prologue calls : List CallKind) → calls ≡ prologue → HaveArguments xs (threads ++ as_thread prologue) → All (HasArgument xs) calls
arguments_of_prologue xs threads prologue calls f h = subst (λ (cs : List CallKind). All (HasArgument xs) cs) (sym f) (of_prologue xs threads prologue h)

-- ---- places

first_words : (arrays : List Array) (n m : ℕ) → m ≡ min n (length arrays) → take m arrays ≡ take n arrays
first_words arrays n m e = ap (λ k. take k arrays) e ∙ take_min n arrays

-- a place that lies so far behind the first arrays lies so much less far behind one more
pub next_left : (xs : List Array) (i left len rest place : ℕ) (a : Array) → i < length xs → a ≡ get_or xs i a → len ≡ length a.words
    → sum_by (λ (x : Array). length x.words) (take i xs) + left ≡ place → (len ≤ left) × (rest ≡ left - len) → sum_by (λ (x : Array). length x.words) (take (i + 1) xs) + rest ≡ place
next_left xs i left len rest place a within is words so_far less =
    let more = sum_by_more (λ (x : Array). length x.words) xs i a within in
    let same = ap (λ (x : Array). length x.words) is in
    omega (arith, more, same, words, so_far, less.0, less.1)

-- where the next array has more words than that, the place lies before each array behind it
pub too_short : (arrays : List Array) (n m i left len place : ℕ) (a : Array) → m ≡ min n (length arrays) → i < length (take m arrays) → a ≡ get_or (take m arrays) i a → len ≡ length a.words
    → sum_by (λ (x : Array). length x.words) (take i (take m arrays)) + left ≡ place → (len ≤ left → ⊥) → place < first_place arrays n
too_short arrays n m i left len place a e within is words so_far short =
    let part = sum_by_more_le (λ (x : Array). length x.words) (take m arrays) i a within in
    let same = ap (λ (x : Array). length x.words) is in
    let all = ap (sum_by (λ (x : Array). length x.words)) (first_words arrays n m e) in
    omega (arith, part, same, words, so_far, short, all)

pub all_before : (arrays : List Array) (n m i left place : ℕ) → m ≡ min n (length arrays) → length (take m arrays) ≤ i → sum_by (λ (x : Array). length x.words) (take i (take m arrays)) + left ≡ place
    → first_place arrays n + left ≡ place
all_before arrays n m i left place e past so_far =
    ap (λ xs. sum_by (λ (x : Array). length x.words) xs + left) (sym (take_all i (take m arrays) past ∙ first_words arrays n m e)) ∙ so_far
