-- An inductive table is closed in the model's sense, and what lies in its intervals stays there.
use Rattle.std.proofs.Common.{◌≡◌, ◌∙◌, ℕ, zero, suc, ◌<◌, true, List, [], ◌∷◌, length, length-set, map, Option, None, Some, slice_get, refl, sym, ap, subst, arith}
use Rattle.std.specs.Prelude.{replicate, slice_index_or}
use Rattle.std.proofs.lemmas.Bool.{and_from, and_parts, false≢true, le-leb, leb-true}
use Rattle.std.proofs.lemmas.Option.{none-some, same_Some, slice_get_within}
use Rattle.tso_cells.proofs.CellLemmas.{holds_all_place}
use Rattle.tso_cells.proofs.OwnLemmas.{HasAccess, next_has_own, none_next}
use Rattle.tso_cells.specs.Cells.{has_cell, own_reads, own_writes}
use Rattle.tso_cells.specs.Inductive.{AreInside, IsInductive, IsItem, IsListInductive, items_of, registers_at, registers_if}
use Rattle.tso_cells.specs.Laws.{InductiveIsClosed, InductiveIsRanked, lies, reads_of, table_view, writes_of}
use Rattle.tso_cells.specs.declared.table.IntervalTable.{IntervalTable}
use Rattle.tso_cells.specs.declared.table.Item.{Item}
use Rattle.tso_flow.specs.Calls.{calls_of_client}
use Rattle.tso_flow.specs.Paths.{goes_on, goes_on_from}
use Rattle.tso_flow.specs.declared.location.ProcedureKind.{ProcedureKind}
use Rattle.tso_flow.specs.declared.location.ProcedureKind.TheVariants as procedures
use Rattle.tso_cells.proofs.Lying.{any_word, next_hands}
use Rattle.tso_cells.proofs.Starting.{first_lie}
use Rattle.tso_cells.specs.Intervals.{IsInside, all_words, has, lie_in}
use Rattle.tso_cells.specs.IntervalLaws.{RegistersLie}
use Rattle.tso_cells.specs.Moved.{moved}
use Rattle.tso_cells.specs.declared.interval.Interval.{Interval}
use Rattle.tso_line.specs.declared.instruction.CallKind.{CallKind}
use Rattle.tso_line.specs.declared.instruction.CallKind.TheVariants as kinds
use Rattle.tso_line.specs.declared.instruction.Instruction.{Instruction}
use Rattle.tso_line.specs.declared.instruction.Instruction.TheVariants as the
use Rattle.tso_machine.proofs.CallLists.{none_past}
use Rattle.tso_machine.proofs.Edges.{follow_edges}
use Rattle.tso_machine.proofs.Ranked.{ranked}
use Rattle.tso_machine.specs.Activations.{Activation}
use Rattle.tso_machine.specs.Control.{GoesOnWith, IsNext, instruction_at}
use Rattle.tso_machine.specs.Instructions.{instructions_of, next_action}
use Rattle.tso_machine.specs.Programs.{program_of, start_of}
use Rattle.tso_machine.specs.Soundness.{is_sound_or_past_end}
use Rattle.tso_model.specs.Programs.{Action, Barrier, Cut, Fail, Load, Locked, Pop, Push, Ret, Silent, Store, calls_of}
use Rattle.tso_model.specs.Programs as model
use Rattle.tso_model.specs.Table.{Below, IsClosedAt}
use Rattle.tso_prog.specs.Views.{call_view}
use Rattle.tso_prog.specs.declared.client.Client.{Client}

-- ---- items

list_inductive : (c : Client) (t : IntervalTable) (name : ProcedureKind) → IsInductive c t → IsListInductive c.arrays (instructions_of c name) (items_of t name)
list_inductive c t procedures.Push is = is.push
list_inductive c t procedures.Pop is = is.pop

-- an instruction has its item
record HasItem (c : Client) (t : IntervalTable) (a : Activation) (step : Instruction ℕ ℕ) : Type 0 where
  pub item : Item
  pub at : slice_get (items_of t a.procedure) a.frame.pc ≡ Some item
  pub is : IsItem c.arrays (items_of t a.procedure) a.frame.pc step item

item_there : (c : Client) (t : IntervalTable) (a : Activation) (step : Instruction ℕ ℕ) → IsInductive c t → instruction_at c a ≡ Some step → HasItem c t a step
item_there c t a step is e =
    let l = list_inductive c t a.procedure is in
    let lt = slice_get_within (instructions_of c a.procedure) a.frame.pc step e in
    go (slice_get (items_of t a.procedure) a.frame.pc) refl l lt
  where
    go : (o : Option Item) → slice_get (items_of t a.procedure) a.frame.pc ≡ o → IsListInductive c.arrays (instructions_of c a.procedure) (items_of t a.procedure)
        → a.frame.pc < length (instructions_of c a.procedure) → HasItem c t a step
    go None at l lt = let past = none_past (items_of t a.procedure) a.frame.pc at in absurd (omega (arith, past, lt, l.lengths))
    go (Some item) at l lt = record { item = item; at = at; is = l.each a.frame.pc step item e at }

edge_goes : (o : Option (Instruction ℕ ℕ)) (step : Instruction ℕ ℕ) (i j : ℕ) → o ≡ Some step → goes_on_from None o i j ≡ true → goes_on step i j ≡ true
edge_goes None step i j e h = absurd cc
edge_goes (Some s) step i j e h = let same : s ≡ step = cc in subst (λ (x : Instruction ℕ ℕ). goes_on x i j ≡ true) same h

-- ---- what may follow

-- the item behind an edge, if there is one, is below
below_item : (c : Client) (t : IntervalTable) (a : Activation) (step : Instruction ℕ ℕ) (here : HasItem c t a step) (j : ℕ) → goes_on step a.frame.pc j ≡ true → (o : Option Item)
    → slice_get (items_of t a.procedure) j ≡ o → (place : ℕ)
    → (has_cell c.arrays (reads_of o) place ≡ true → has_cell c.arrays here.item.reads place ≡ true) × (has_cell c.arrays (writes_of o) place ≡ true → has_cell c.arrays here.item.writes place ≡ true)
below_item c t a step here j edge None at place = (λ h. absurd (false≢true h), λ h. absurd (false≢true h))
below_item c t a step here j edge (Some next) at place =
    let s = here.is.foresees.successors j next edge at in (
      λ h. holds_all_place c.arrays here.item.reads next.reads place s.1 h,
      λ h. holds_all_place c.arrays here.item.writes next.writes place s.2 h,
    )

below_next : (c : Client) (t : IntervalTable) (a b : Activation) (step : Instruction ℕ ℕ) → HasItem c t a step → instruction_at c a ≡ Some step → IsNext c a b → Below (table_view c t) b a
below_next c t a b step here e next =
    let edge = edge_goes (instruction_at c a) step a.frame.pc b.frame.pc e next.edge in
    let same : slice_get (items_of t b.procedure) b.frame.pc ≡ slice_get (items_of t a.procedure) b.frame.pc = ap (λ name. slice_get (items_of t name) b.frame.pc) next.procedure in
    let kept = below_item c t a step here b.frame.pc edge (slice_get (items_of t a.procedure) b.frame.pc) refl in
    record {
      reads = λ place h. subst (λ (o : Option Item). has_cell c.arrays (reads_of o) place ≡ true) (sym here.at) ((kept place).0 (subst (λ (o : Option Item). has_cell c.arrays (reads_of o) place ≡ true) same h));
      writes = λ place h. subst (λ (o : Option Item). has_cell c.arrays (writes_of o) place ≡ true) (sym here.at) ((kept place).1 (subst (λ (o : Option Item). has_cell c.arrays (writes_of o) place ≡ true) same h));
    }

own_read : (c : Client) (t : IntervalTable) (a : Activation) (step : Instruction ℕ ℕ) (here : HasItem c t a step) (p : ℕ) → has_cell c.arrays (own_reads c.arrays here.item.registers step) p ≡ true
    → has_cell c.arrays (reads_of (slice_get (items_of t a.procedure) a.frame.pc)) p ≡ true
own_read c t a step here p h =
    subst (λ (o : Option Item). has_cell c.arrays (reads_of o) p ≡ true) (sym here.at) (holds_all_place c.arrays here.item.reads (own_reads c.arrays here.item.registers step) p here.is.foresees.own.0 h)

own_write : (c : Client) (t : IntervalTable) (a : Activation) (step : Instruction ℕ ℕ) (here : HasItem c t a step) (p : ℕ) → has_cell c.arrays (own_writes c.arrays here.item.registers step) p ≡ true
    → has_cell c.arrays (writes_of (slice_get (items_of t a.procedure) a.frame.pc)) p ≡ true
own_write c t a step here p h =
    subst (λ (o : Option Item). has_cell c.arrays (writes_of o) p ≡ true) (sym here.at) (holds_all_place c.arrays here.item.writes (own_writes c.arrays here.item.registers step) p here.is.foresees.own.1 h)

closed_action : (c : Client) (t : IntervalTable) (a : Activation) (step : Instruction ℕ ℕ) (here : HasItem c t a step) (x : Action Activation) → instruction_at c a ≡ Some step
    → HasAccess c.arrays (own_reads c.arrays here.item.registers step) (own_writes c.arrays here.item.registers step) x → GoesOnWith (IsNext c a) x → IsClosedAt (table_view c t) a x
closed_action c t a step here (Silent g) e own on = below_next c t a g step here e on
closed_action c t a step here (Load p k) e own on = (own_read c t a step here p own, λ w. below_next c t a (k w) step here e (on w))
closed_action c t a step here (Store p v g) e own on = (own_write c t a step here p own, below_next c t a g step here e on)
closed_action c t a step here (Barrier g) e own on = below_next c t a g step here e on
closed_action c t a step here (Locked p n k) e own on = (own_read c t a step here p own.0, own_write c t a step here p own.1, λ w. below_next c t a (k w) step here e (on w))
closed_action c t a step here (Ret r) e own on = tt
closed_action c t a step here (Fail n) e own on = tt
closed_action c t a step here Cut e own on = tt

lies_here : (c : Client) (t : IntervalTable) (a : Activation) (step : Instruction ℕ ℕ) (here : HasItem c t a step) → lies t a ≡ true → lie_in here.item.registers a.frame.registers ≡ true
lies_here c t a step here h = subst (λ (o : Option Item). lie_in (registers_if o) a.frame.registers ≡ true) here.at h

closed_at : (c : Client) (t : IntervalTable) (a : Activation) (o : Option (Instruction ℕ ℕ)) → instruction_at c a ≡ o → IsInductive c t → lies t a ≡ true → IsClosedAt (table_view c t) a (next_action c a)
closed_at c t a None e is h = let Q : Action Activation → Type 0 = λ x. IsClosedAt (table_view c t) a x in subst Q (sym (none_next c a e)) tt
closed_at c t a (Some step) e is h =
    let here = item_there c t a step is e in
    closed_action c t a step here (next_action c a) e (next_has_own c a here.item.registers step e (lies_here c t a step here h)) (follow_edges c a)

pub inductive_is_closed : (c : Client) → InductiveIsClosed c
inductive_is_closed c t is a sound = closed_at c t a (instruction_at c a) refl is (and_parts (is_sound_or_past_end c sound.0 a) (lies t a) sound.1).1

-- ---- intervals

lie_length : (xs : List Interval) (ws : List ℕ) → lie_in xs ws ≡ true → length ws ≡ length xs
lie_length [] [] h = refl
lie_length [] (w ∷ ws) h = absurd (false≢true h)
lie_length (x ∷ xs) [] h = absurd (false≢true h)
lie_length (x ∷ xs) (w ∷ ws) h = let e = lie_length xs ws (and_parts (has x w) (lie_in xs ws) h).1 in omega (arith, e)

pub any_lie : (ws : List ℕ) (n : ℕ) → length ws ≡ n → lie_in (replicate n all_words) ws ≡ true
any_lie [] zero e = refl
any_lie [] (suc n) e = absurd (omega (arith, e))
any_lie (w ∷ ws) zero e = absurd (omega (arith, e))
any_lie (w ∷ ws) (suc n) e = and_from (has all_words w) (lie_in (replicate n all_words) ws) (any_word w) (any_lie ws n (omega (arith, e)))

wider : (i j : Interval) (w : ℕ) → IsInside i j → has i w ≡ true → has j w ≡ true
wider i j w inside h =
    let parts = and_parts _ _ h in
    let low = leb-true i.lo _ parts.0 in
    let high = leb-true _ i.hi parts.1 in
    let from = inside.0 in
    let to = inside.1 in
    and_from _ _ (le-leb j.lo _ (omega (arith, low, from))) (le-leb _ j.hi (omega (arith, high, to)))

lie_wider : (xs ys : List Interval) (ws : List ℕ) → length xs ≡ length ys → AreInside xs ys → lie_in xs ws ≡ true → lie_in ys ws ≡ true
lie_wider [] [] ws e inside h = h
lie_wider [] (y ∷ ys) ws e inside h = absurd (omega (arith, e))
lie_wider (x ∷ xs) [] ws e inside h = absurd (omega (arith, e))
lie_wider (x ∷ xs) (y ∷ ys) [] e inside h = h
lie_wider (x ∷ xs) (y ∷ ys) (w ∷ ws) e inside h =
    let parts = and_parts (has x w) (lie_in xs ws) h in
    and_from (has y w) (lie_in ys ws) (wider x y w (inside zero x y refl refl) parts.0) (lie_wider xs ys ws (omega (arith, e)) (λ n. inside (suc n)) parts.1)

pub moved_length : (xs : List Interval) (i : Instruction ℕ ℕ) → length (moved xs i) ≡ length xs
moved_length xs (the.Move to from) = length-set xs _ _
moved_length xs (the.Load to from) = length-set xs _ _
moved_length xs (the.Store to from) = refl
moved_length xs (the.Compute operation to from) = length-set xs _ _
moved_length xs (the.Compare comparison left right) = refl
moved_length xs (the.Increment r) = length-set xs _ _
moved_length xs (the.Decrement r) = length-set xs _ _
moved_length xs (the.Jump when target bound) = refl
moved_length xs (the.Assert condition) = refl
moved_length xs (the.Locked operation cell r) = length-set xs _ _
moved_length xs the.Fence = refl
moved_length xs the.Nop = refl
moved_length xs the.Pause = refl
moved_length xs the.Return = refl

-- the item behind an edge, if there is one, has what the instruction makes of the intervals
lie_item : (c : Client) (t : IntervalTable) (a : Activation) (step : Instruction ℕ ℕ) (here : HasItem c t a step) (j : ℕ) (ws : List ℕ) → IsInductive c t → goes_on step a.frame.pc j ≡ true
    → (o : Option Item) → slice_get (items_of t a.procedure) j ≡ o → lie_in (moved here.item.registers step) ws ≡ true → lie_in (registers_if o) ws ≡ true
lie_item c t a step here j ws is edge None at h =
    let e = lie_length (moved here.item.registers step) ws h in
    any_lie ws 15 (e ∙ (moved_length here.item.registers step ∙ here.is.proper.count))
lie_item c t a step here j ws is edge (Some next) at h =
    let s = here.is.foresees.successors j next edge at in
    let l = list_inductive c t a.procedure is in
    let lt = slice_get_within (items_of t a.procedure) j next at in
    let e = moved_length here.item.registers step ∙ here.is.proper.count in
    go (slice_get (instructions_of c a.procedure) j) refl l lt e s.0
  where
    go : (o : Option (Instruction ℕ ℕ)) → slice_get (instructions_of c a.procedure) j ≡ o → IsListInductive c.arrays (instructions_of c a.procedure) (items_of t a.procedure)
        → j < length (items_of t a.procedure) → length (moved here.item.registers step) ≡ 15 → AreInside (moved here.item.registers step) next.registers → lie_in next.registers ws ≡ true
    go None none l lt e inside = let past = none_past (instructions_of c a.procedure) j none in absurd (omega (arith, past, lt, l.lengths))
    go (Some one) some l lt e inside = lie_wider (moved here.item.registers step) next.registers ws (e ∙ sym (l.each j one next some at).proper.count) inside h

lies_next : (c : Client) (t : IntervalTable) (a b : Activation) (step : Instruction ℕ ℕ) → IsInductive c t → HasItem c t a step → instruction_at c a ≡ Some step → IsNext c a b
    → ((here : HasItem c t a step) → lie_in (moved here.item.registers step) b.frame.registers ≡ true) → lies t b ≡ true
lies_next c t a b step is here e next h =
    let edge = edge_goes (instruction_at c a) step a.frame.pc b.frame.pc e next.edge in
    let same : items_of t b.procedure ≡ items_of t a.procedure = ap (items_of t) next.procedure in
    subst (λ (items : List Item). lie_in (registers_at items b.frame.pc) b.frame.registers ≡ true) (sym same)
    (lie_item c t a step here b.frame.pc b.frame.registers is edge (slice_get (items_of t a.procedure) b.frame.pc) refl (h here))

-- what the next action goes on with lies in the table's intervals
both_on : (c : Client) (t : IntervalTable) (a : Activation) (step : Instruction ℕ ℕ) (x : Action Activation) → IsInductive c t → (here : HasItem c t a step) → instruction_at c a ≡ Some step
    → GoesOnWith (IsNext c a) x → ((one : HasItem c t a step) → GoesOnWith (RegistersLie (moved one.item.registers step)) x) → GoesOnWith (λ b. lies t b ≡ true) x
both_on c t a step (Silent b) is here e next on = lies_next c t a b step is here e next on
both_on c t a step (Load p k) is here e next on = λ w. lies_next c t a (k w) step is here e (next w) (λ one. on one w)
both_on c t a step (Store p v b) is here e next on = lies_next c t a b step is here e next on
both_on c t a step (Barrier b) is here e next on = lies_next c t a b step is here e next on
both_on c t a step (Locked p n k) is here e next on = λ w. lies_next c t a (k w) step is here e (next w) (λ one. on one w)
both_on c t a step (Ret r) is here e next on = tt
both_on c t a step (Fail n) is here e next on = tt
both_on c t a step Cut is here e next on = tt

goes_on_lying : (c : Client) (t : IntervalTable) (a : Activation) (o : Option (Instruction ℕ ℕ)) → instruction_at c a ≡ o → IsInductive c t → lies t a ≡ true
    → GoesOnWith (λ b. lies t b ≡ true) (next_action c a)
goes_on_lying c t a None e is h = let Q : Action Activation → Type 0 = λ x. GoesOnWith (λ b. lies t b ≡ true) x in subst Q (sym (none_next c a e)) tt
goes_on_lying c t a (Some step) e is h =
    both_on c t a step (next_action c a) is (item_there c t a step is e) e (follow_edges c a) (λ one. next_hands c a step one.item.registers e (lies_here c t a step one h))

-- ---- calls that begin

call_there : (calls : List CallKind) (n : ℕ) (k : model.CallKind) → slice_get (map call_view calls) n ≡ Some k → (call : CallKind) × (slice_get calls n ≡ Some call) × (call_view call ≡ k)
call_there [] n k e = absurd (none-some k e)
call_there (x ∷ xs) zero k e = (x, refl, same_Some (call_view x) k e)
call_there (x ∷ xs) (suc n) k e = call_there xs n k e

thread_there : (lists : List (List CallKind)) (i n : ℕ) (k : model.CallKind) → slice_get (slice_index_or (map (map call_view) lists) i []) n ≡ Some k
    → (calls : List CallKind) × (slice_get lists i ≡ Some calls) × ((call : CallKind) × (slice_get calls n ≡ Some call) × (call_view call ≡ k))
thread_there [] i n k e = absurd (none-some k e)
thread_there (x ∷ xs) zero n k e = (x, refl, call_there x n k e)
thread_there (x ∷ xs) (suc i) n k e = thread_there xs i n k e

pushed : (call : CallKind) (v : ℕ) → call_view call ≡ Push v → call ≡ kinds.Push v
pushed (kinds.Push w) v e = let same : w ≡ v = cc in ap kinds.Push same
pushed kinds.Pop v e = absurd cc

start_lies : (c : Client) (t : IntervalTable) (i n : ℕ) (k : model.CallKind) → IsInductive c t → slice_get (calls_of (program_of c) i) n ≡ Some k → lies t (start_of c k) ≡ true
start_lies c t i n (Push v) is e =
    let there = thread_there (calls_of_client c) i n (Push v) e in
    let call = there.2 in
    first_lie c (Push v) (registers_at t.push 0) (is.starts.push i n v there.0 there.1 (subst (λ (x : CallKind). slice_get there.0 n ≡ Some x) (pushed call.0 v call.2) call.1))
start_lies c t i n Pop is e = first_lie c Pop (registers_at t.pop 0) is.starts.pop

-- ---- ranks

on_as : (P : Activation → Type 0) (x y : Action Activation) → x ≡ y → GoesOnWith P x → GoesOnWith P y
on_as P x y e h = subst (λ z. GoesOnWith P z) e h

pub inductive_is_ranked : (c : Client) → InductiveIsRanked c
inductive_is_ranked c t is = record {
  starts = λ i n call e. and_from (is_sound_or_past_end c call (start_of c call)) (lies t (start_of c call)) ((ranked c).starts i n call e) (start_lies c t i n call is e);
  silent = λ call a b sound e.
      let p = and_parts (is_sound_or_past_end c call a) (lies t a) sound in
      let r = (ranked c).silent call a b p.0 e in
      (and_from (is_sound_or_past_end c call b) (lies t b) r.0 (on a (Silent b) p.1 e), r.1);
  load = λ call a place k v sound e.
      let p = and_parts (is_sound_or_past_end c call a) (lies t a) sound in
      let r = (ranked c).load call a place k v p.0 e in
      (and_from (is_sound_or_past_end c call (k v)) (lies t (k v)) r.0 (on a (Load place k) p.1 e v), r.1);
  store = λ call a place v b sound e.
      let p = and_parts (is_sound_or_past_end c call a) (lies t a) sound in
      let r = (ranked c).store call a place v b p.0 e in
      (and_from (is_sound_or_past_end c call b) (lies t b) r.0 (on a (Store place v b) p.1 e), r.1, r.2);
  barrier = λ call a b sound e.
      let p = and_parts (is_sound_or_past_end c call a) (lies t a) sound in
      let r = (ranked c).barrier call a b p.0 e in
      (and_from (is_sound_or_past_end c call b) (lies t b) r.0 (on a (Barrier b) p.1 e), r.1);
  locked = λ call a place n k v sound e.
      let p = and_parts (is_sound_or_past_end c call a) (lies t a) sound in
      let r = (ranked c).locked call a place n k v p.0 e in
      (and_from (is_sound_or_past_end c call (k v)) (lies t (k v)) r.0 (on a (Locked place n k) p.1 e v), r.1, r.2);
  ret = λ call a answer sound e. (ranked c).ret call a answer (and_parts (is_sound_or_past_end c call a) (lies t a) sound).0 e;
  fail = λ call a kind sound e. (ranked c).fail call a kind (and_parts (is_sound_or_past_end c call a) (lies t a) sound).0 e;
}
  where
    on : (a : Activation) (x : Action Activation) → lies t a ≡ true → next_action c a ≡ x → GoesOnWith (λ b. lies t b ≡ true) x
    on a x h e = on_as (λ b. lies t b ≡ true) (next_action c a) x e (goes_on_lying c t a (instruction_at c a) refl is h)
