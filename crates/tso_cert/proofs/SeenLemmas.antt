-- What was seen of states lies in a table that holds the hull.
use Rattle.std.proofs.Common.{◌≡◌, ◌∙◌, ℕ, zero, suc, ◌≤◌, ◌<◌, ◌%◌, ◌^◌, ◌++◌, nat_le, true, List, [], ◌∷◌, length, Option, None, Some, slice_get, refl, sym, subst, arith}
use Rattle.std.specs.Prelude.{Err, IfOk, Ok, OnOk, Result}
use Rattle.std.proofs.lemmas.Bool.{and_from, and_parts, le-leb, leb-true}
use Rattle.std.proofs.lemmas.List.{length-replicate}
use Rattle.std.proofs.lemmas.Option.{same_Some, slice_get_within}
use Rattle.tso_cells.proofs.TableLemmas.{any_lie}
use Rattle.tso_cells.specs.Inductive.{IsInductive, IsListInductive, items_of, registers_if}
use Rattle.tso_cells.specs.Laws.{lies}
use Rattle.tso_cells.specs.declared.table.IntervalTable.{IntervalTable}
use Rattle.tso_cells.specs.declared.table.Item.{Item}
use Rattle.tso_cert.specs.Seen.{AreSeen, AreWithin, CoreIsSeen, IsSeen, Keeps, ThreadIsSeen}
use Rattle.tso_flow.specs.declared.location.ProcedureKind.{ProcedureKind}
use Rattle.tso_flow.specs.declared.location.ProcedureKind.TheVariants as procedures
use Rattle.tso_foot.specs.Within.{core_lies}
use Rattle.tso_foot.specs.declared.table.Table.TheVariants.{Intervals}
use Rattle.tso_cells.specs.Intervals.{IsInside, has, lie_in}
use Rattle.tso_cells.specs.declared.interval.Interval.{Interval}
use Rattle.tso_machine.specs.Activations.{activation}
use Rattle.tso_machine.specs.Instructions.{instructions_of}
use Rattle.tso_machine.specs.declared.frame.Frame.{Frame}
use Rattle.tso_prog.specs.declared.client.Client.{Client}
use Rattle.tso_state.specs.declared.state.Core.{Core}
use Rattle.tso_state.specs.declared.state.Core.TheVariants.{Idle, Running, Stopped}
use Rattle.tso_state.specs.declared.state.State.{State}
use Rattle.tso_cells.specs.Hulls.{empty_hull, rows_of}
use Rattle.tso_cells.specs.Widened.{AreHeld, Holds, IsHeld}
use Rattle.tso_cells.specs.declared.hulls.Hull.{Hull}

known : {X : Type 0} (xs : List X) (n : ℕ) → n < length xs → (x : X) × (slice_get xs n ≡ Some x)
known [] n lt = absurd (omega (arith, lt))
known (x ∷ xs) zero lt = (x, refl)
known (x ∷ xs) (suc n) lt = known xs n (omega (arith, lt))

-- what holds of a success and gives another thing
pub on_ok : {A E P Q : Type 0} (r : Result A E) → (P → Q) → OnOk r P → OnOk r Q
on_ok (Ok x) f h = f h
on_ok (Err e) f h = h

-- two things
pub on_both : {A E P Q R : Type 0} (r : Result A E) → (P → Q → R) → OnOk r P → OnOk r Q → OnOk r R
on_both (Ok x) f p q = f p q
on_both (Err e) f p q = p

-- of what is in a success
pub if_both : {A E : Type 0} {P Q R : A → Type 0} (r : Result A E) → ((x : A) → P x → Q x → R x) → IfOk r P → IfOk r Q → IfOk r R
if_both (Ok x) f p q = f x p q
if_both (Err e) f p q = tt

-- ---- what was seen stays so

pub keeps_refl : (hull : Hull) → Keeps hull hull
keeps_refl hull name = record {
  count = refl;
  lying = λ n xs ys words at there h. subst (λ (x : List Interval). lie_in x words ≡ true) (same_Some xs ys (sym at ∙ there)) h;
}

pub keeps_trans : (first second third : Hull) → Keeps first second → Keeps second third → Keeps first third
keeps_trans first second third p q name = record {
  count = (q name).count ∙ (p name).count;
  lying = λ n xs zs words at there h.
      let within = slice_get_within (rows_of third name) n zs there in
      let (ys, middle) = known (rows_of second name) n (omega (arith, within, (q name).count)) in
      (q name).lying n ys zs words middle there ((p name).lying n xs ys words at middle h);
}

pub core_stays : (before after : Hull) (name : ProcedureKind) (core : Core) → Keeps before after → CoreIsSeen before name core → CoreIsSeen after name core
core_stays before after name Idle keeps seen = tt
core_stays before after name (Running f) keeps seen = record {
  count = seen.count;
  lie = λ row at.
      let within = slice_get_within (rows_of after name) f.pc row at in
      let (old, there) = known (rows_of before name) f.pc (omega (arith, within, (keeps name).count)) in
      (keeps name).lying f.pc old row f.registers there at (seen.lie old there);
}
core_stays before after name Stopped keeps seen = tt

pub thread_stays : (before after : Hull) (s : State) (i : ℕ) → Keeps before after → ThreadIsSeen before s i → ThreadIsSeen after s i
thread_stays before after s i keeps seen thread at = core_stays before after _ thread.core keeps (seen thread at)

pub states_stay : (before after : Hull) (states : List State) → Keeps before after → AreSeen before states → AreSeen after states
states_stay before after states keeps seen k s at i = thread_stays before after s i keeps (seen k s at i)

-- states of two lists
pub both_seen : (hull : Hull) (xs ys : List State) → AreSeen hull xs → AreSeen hull ys → AreSeen hull (xs ++ ys)
both_seen hull [] ys p q k s at = q k s at
both_seen hull (x ∷ xs) ys p q zero s at = p zero s at
both_seen hull (x ∷ xs) ys p q (suc k) s at = both_seen hull xs ys (λ n. p (suc n)) q k s at

-- ---- held rows

words_held : (i j : Interval) (w : ℕ) → has i w ≡ true → (i.lo ≤ i.hi → IsInside i j) → has j w ≡ true
words_held i j w h inside =
    let word = w % 2 ^ 64 in
    let (low, high) = and_parts (nat_le i.lo word) (nat_le word i.hi) h in
    let lo = leb-true i.lo word low in
    let hi = leb-true word i.hi high in
    let (more, less) = inside (omega (arith, lo, hi)) in
    and_from (nat_le j.lo word) (nat_le word j.hi) (le-leb j.lo word (omega (arith, lo, more))) (le-leb word j.hi (omega (arith, hi, less)))

lie_length : (xs : List Interval) (ws : List ℕ) → lie_in xs ws ≡ true → length ws ≡ length xs
lie_length [] [] h = refl
lie_length [] (w ∷ ws) h = absurd cc
lie_length (x ∷ xs) [] h = absurd cc
lie_length (x ∷ xs) (w ∷ ws) h = let e = lie_length xs ws (and_parts (has x w) (lie_in xs ws) h).1 in omega (arith, e)

row_held : (xs ys : List Interval) (ws : List ℕ) → length xs ≡ length ys → IsHeld xs ys → lie_in xs ws ≡ true → lie_in ys ws ≡ true
row_held [] [] ws e held h = h
row_held [] (y ∷ ys) ws e held h = absurd (omega (arith, e))
row_held (x ∷ xs) [] ws e held h = absurd (omega (arith, e))
row_held (x ∷ xs) (y ∷ ys) [] e held h = absurd cc
row_held (x ∷ xs) (y ∷ ys) (w ∷ ws) e held h =
    let parts = and_parts (has x w) (lie_in xs ws) h in
    and_from (has y w) (lie_in ys ws) (words_held x y w parts.0 (held zero x y refl refl)) (row_held xs ys ws (omega (arith, e)) (λ n. held (suc n)) parts.1)

-- ---- the table

list_is : (c : Client) (t : IntervalTable) (name : ProcedureKind) → IsInductive c t → IsListInductive c.arrays (instructions_of c name) (items_of t name)
list_is c t procedures.Push is = is.push
list_is c t procedures.Pop is = is.pop

rows_held : (t : IntervalTable) (hull : Hull) (name : ProcedureKind) → Holds t hull → AreHeld (rows_of hull name) (items_of t name)
rows_held t hull procedures.Push holds = holds.push
rows_held t hull procedures.Pop holds = holds.pop

empty_count : (c : Client) (name : ProcedureKind) → length (rows_of (empty_hull c) name) ≡ length (instructions_of c name)
empty_count c procedures.Push = length-replicate (length c.push.instructions) _
empty_count c procedures.Pop = length-replicate (length c.pop.instructions) _

module _ (c : Client) (t : IntervalTable) (hull : Hull) (is : IsInductive c t) (holds : Holds t hull) (keeps : Keeps (empty_hull c) hull) where
  frame_lies : (name : ProcedureKind) (f : Frame) → IsSeen hull name f → lies t (activation name f) ≡ true
  frame_lies name f seen = by_item (slice_get (items_of t name) f.pc) refl
    where
      by_item : (o : Option Item) → slice_get (items_of t name) f.pc ≡ o → lie_in (registers_if (slice_get (items_of t name) f.pc)) f.registers ≡ true
      by_item None at = subst (λ (o : Option Item). lie_in (registers_if o) f.registers ≡ true) (sym at) (any_lie f.registers 15 seen.count)
      by_item (Some item) at =
          let list = list_is c t name is in
          let within = slice_get_within (items_of t name) f.pc item at in
          let (step, stands) = known (instructions_of c name) f.pc (omega (arith, within, list.lengths)) in
          let proper = (list.each f.pc step item stands at).proper in
          let (row, there) = known (rows_of hull name) f.pc (omega (arith, within, list.lengths, empty_count c name, (keeps name).count)) in
          let lie = seen.lie row there in
          let count = lie_length row f.registers lie in
          subst (λ (o : Option Item). lie_in (registers_if o) f.registers ≡ true) (sym at)
          (row_held row item.registers f.registers (omega (arith, count, seen.count, proper.count)) (rows_held t hull name holds f.pc row item there at) lie)

  core_in : (name : ProcedureKind) (core : Core) → CoreIsSeen hull name core → core_lies (Intervals t) name core ≡ true
  core_in name Idle seen = refl
  core_in name (Running f) seen = frame_lies name f seen
  core_in name Stopped seen = refl

  pub seen_within : (states : List State) → AreSeen hull states → AreWithin (Intervals t) states
  seen_within states seen k s at i thread there = core_in _ thread.core (seen k s at i thread there)
