-- The table of one thread: a list of distinct states with a slot each, and what each call makes of it.
use Rattle.std.specs.Prelude.{◌≡◌, ℕ, Bool, true, false, ◌&&◌, if◌then◌else◌, List, [], ◌∷◌, ◌++◌, length, Option, Some, None, position, slice_get, slice_set}
use Rattle.std.specs.List.{fold, list_all}
use Rattle.std.specs.Ordering.{is_eq}
use Rattle.tso_state.specs.Order.{state_cmp}
use Rattle.tso_state.specs.declared.state.State.{State}
use Rattle.tso_table.specs.declared.slot.Filed.{Filed}
use Rattle.tso_table.specs.declared.slot.Near.{Near}
use Rattle.tso_table.specs.declared.slot.Slot.{Slot}
use Rattle.tso_table.specs.declared.slot.Slot.TheVariants.{Waiting, Claimed, Done}

-- states by their places, and the slot of each
pub record Rows : Type 0 where
  pub states : List State
  pub slots : List Slot

abbrev pub no_rows : Rows
no_rows = record { states = []; slots = [] }

-- A call with its arguments. A `finish` has a place, the state that is meant, its end, and those successors that belong to the
-- table.
pub data Call : Type 0 where
  intern : State → Call
  claim : ℕ → Call
  finish : ℕ → State → Filed → List Near → Call

-- what a call answers: the state's place and whether it is new; whether the state was waiting; that the end is filed
pub data Reply : Type 0 where
  placed : ℕ → Bool → Reply
  taken : Bool → Reply
  filed : Reply

abbrev pub is_same : State → State → Bool
is_same s t = is_eq (state_cmp s t)

-- there is a state, and it is this one
abbrev pub is_this : State → Option State → Bool
is_this s None = false
is_this s (Some t) = is_same s t

-- each of these states stands at its place
abbrev pub are_there : List State → List Near → Bool
are_there states near = list_all (λ m. is_this m.state (slice_get states m.place)) near

abbrev pub with_slot : Rows → ℕ → Slot → Rows
with_slot r n slot = record { states = r.states; slots = slice_set r.slots n slot }

-- a state that is there keeps its place, another comes last and waits
abbrev pub intern_at : Rows → State → Option ℕ → Option (Rows × Reply)
intern_at r s (Some n) = Some (r, placed n false)
intern_at r s None = Some (record { states = r.states ++ s ∷ []; slots = r.slots ++ Waiting ∷ [] }, placed (length r.states) true)

-- a state that waits is claimed
abbrev pub claim_at : Rows → ℕ → Option Slot → Option (Rows × Reply)
claim_at r n None = Some (r, taken false)
claim_at r n (Some Waiting) = Some (with_slot r n Claimed, taken true)
claim_at r n (Some Claimed) = Some (r, taken false)
claim_at r n (Some (Done f)) = Some (r, taken false)

-- an end is filed where the state is claimed and is the one that is meant, and its successors are there
abbrev pub finish_at : Rows → ℕ → State → Filed → List Near → Option Slot → Option (Rows × Reply)
finish_at r n s f near None = None
finish_at r n s f near (Some Waiting) = None
finish_at r n s f near (Some Claimed) = if is_this s (slice_get r.states n) && are_there r.states near then Some (with_slot r n (Done f), filed) else None
finish_at r n s f near (Some (Done g)) = None

-- the rows after a call, with the answer; none where the call is refused
abbrev pub step : Rows → Call → Option (Rows × Reply)
step r (intern s) = intern_at r s (position (is_same s) r.states)
step r (claim n) = claim_at r n (slice_get r.slots n)
step r (finish n s f near) = finish_at r n s f near (slice_get r.slots n)

-- a log with one answer more
abbrev pub logged : List Reply → Option (Rows × Reply) → Option (Rows × List Reply)
logged log None = None
logged log (Some r) = Some (r.0, log ++ r.1 ∷ [])

abbrev pub advance : Option (Rows × List Reply) → Call → Option (Rows × List Reply)
advance None c = None
advance (Some r) c = logged r.1 (step r.0 c)

-- the rows that these calls leave, made one after the other from the empty table, and what they answer
abbrev pub replay : List Call → Option (Rows × List Reply)
replay calls = fold advance (Some (no_rows, [])) calls

-- some calls, made by one thread, leave these rows, and so many were answered
pub record Replays (r : Rows) (entries : ℕ) : Type 0 where
  pub calls : List Call
  pub log : List Reply
  pub replayed : replay calls ≡ Some (r, log)
  pub counted : length log ≡ entries

-- one thread's call takes the one to the other, with this answer
abbrev pub Makes : Rows → Call → Rows → Reply → Type 0
Makes old c new reply = step old c ≡ Some (new, reply)

-- one thread's call is refused
abbrev pub IsRefused : Rows → Call → Type 0
IsRefused r c = step r c ≡ None
