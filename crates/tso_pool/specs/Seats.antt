-- What clauses see of a seat, and what its calls do.
use Rattle.std.specs.Prelude.{◌≡◌, ◌⊎◌, ℕ, ◌+◌, ◌-◌, ◌<◌, ◌≤◌, ◌++◌, ◌∷◌, [], List, vec_len, vec_capacity, min, length, ◌^◌, IsPermutation}
use Rattle.crossbeam_deque.specs.Handles.{worker_deque, worker_view, worker_capacity, worker_index}
use Rattle.tso_pool.specs.declared.rule.Hand.{Hand}
use Rattle.tso_pool.specs.declared.victim.Victim.{Victim}
use Rattle.tso_pool.specs.declared.seat.Seat.{Seat}
use Rattle.tso_pool.specs.Hands.{all_got, all_parts, hand, FoundNone, IsAccountOf}
use Rattle.tso_pool.specs.Victims.{DequeId, reach_of, reaches, hand_of, hands, gets, AllLetGo, IsGotAt}

-- Where a seat stands among others: its own deque, how many parts of it are held there, and the deques that it steals from, with the parts held of each
pub record Place : Type 0 where
  pub deque : DequeId
  pub parts : ℕ
  pub others : List (DequeId × ℕ)

-- the tickets that a seat has pushed, those that it has found in any deque, and those on its list
pub record Tally (T : Type 0) : Type 0 where
  pub pushed : List T
  pub found : List T
  pub listed : List T

-- a seat gives a part of its deque away
abbrev pub gives : Place → Place
gives p = record p { parts = p.parts - 1 }

-- a seat reaches another deque, too
abbrev pub reaches_too : Place → DequeId × ℕ → Place
reaches_too p reach = record p { others = p.others ++ reach ∷ [] }

-- parts of its deque come back to a seat
abbrev pub takes_back : Place → ℕ → Place
takes_back p parts = record p { parts = p.parts + parts }

abbrev pub no_tickets : {T : Type 0} → Tally T
no_tickets = record { pushed = []; found = []; listed = [] }

abbrev pub with_found : {T : Type 0} → Tally T → List T → Tally T
with_found t xs = record t { found = t.found ++ xs }

-- the ticket was pushed, or is on the list
abbrev pub IsOffered : {T : Type 0} → Tally T → Tally T → T → Type 0
IsOffered old new x = (new ≡ record old { pushed = old.pushed ++ x ∷ [] }) ⊎ (new ≡ record old { listed = old.listed ++ x ∷ [] })

-- what another has got is counted as found here
pub record IsFoundToo {T : Type 0} (old new : Tally T) (xs : List T) : Type 0 where
  pub same_pushed : new.pushed ≡ old.pushed
  pub same_listed : new.listed ≡ old.listed
  pub once : IsPermutation (old.found ++ xs) new.found

module _ {T : Type 0} where
  -- what the worker knows of its own deque
  abbrev pub own_hand : Seat T → Hand T
  own_hand s = worker_view s.own

  -- the tickets of its own list
  abbrev pub listed : Seat T → List T
  listed s = s.list.items

  -- what it knows of the others' deques
  abbrev pub other_hands : Seat T → List (Hand T)
  other_hands s = hands s.others.items

  -- a ticket may be put on the list
  abbrev pub HasRoom : Seat T → Type 0
  HasRoom s = vec_len s.list < vec_capacity s.list

  -- the own deque has been pushed to as often as it has slots
  abbrev pub MayRefuse : Seat T → Type 0
  MayRefuse s = worker_capacity s.own ≤ worker_index s.own

  abbrev pub place_of : Seat T → Place
  place_of s = record { deque = worker_deque s.own; parts = (own_hand s).parts; others = reaches s.others.items }

  abbrev pub tally_of : Seat T → Tally T
  tally_of s = record { pushed = (own_hand s).pushed; found = (own_hand s).got ++ all_got (other_hands s); listed = listed s }

  -- a way into the deque of the seat that stands here: one part of it, by which nothing was got yet
  pub record IsWayInto (p : Place) (v : Victim T) : Type 0 where
    pub reach : reach_of v ≡ (p.deque, 1)
    pub got : (hand_of v).got ≡ []

  -- room on the list is not given up
  abbrev pub KeepsRoom : Seat T → Seat T → Type 0
  KeepsRoom old new = vec_capacity old.list ≤ vec_capacity new.list

  -- nothing was pushed, got or listed
  pub record IsUntouched (old new : Seat T) : Type 0 where
    pub own : own_hand new ≡ own_hand old
    pub list : listed new ≡ listed old
    pub others : other_hands new ≡ other_hands old

  -- a new seat has all parts of its deque, knows of no other, and has no ticket
  pub record IsNew (s : Seat T) : Type 0 where
    pub own : own_hand s ≡ hand all_parts [] []
    pub list : listed s ≡ []
    pub others : s.others.items ≡ []

  -- the ticket was pushed
  pub record IsPushed (old new : Seat T) (x : T) : Type 0 where
    pub own : own_hand new ≡ hand (own_hand old).parts ((own_hand old).pushed ++ x ∷ []) (own_hand old).got
    pub list : listed new ≡ listed old
    pub others : other_hands new ≡ other_hands old

  -- the push was refused, and the ticket is on the list
  pub record IsListed (old new : Seat T) (x : T) : Type 0 where
    pub full : MayRefuse old
    pub own : own_hand new ≡ own_hand old
    pub list : listed new ≡ listed old ++ x ∷ []
    pub others : other_hands new ≡ other_hands old

  -- the ticket was popped from the own deque
  pub record GetsOwn (old new : Seat T) (x : T) : Type 0 where
    pub own : own_hand new ≡ gets (own_hand old) x
    pub list : listed new ≡ listed old
    pub others : other_hands new ≡ other_hands old

  -- the own deque was empty, and the ticket was the last of the list
  pub record GetsListed (old new : Seat T) (x : T) : Type 0 where
    pub empty : FoundNone (own_hand old)
    pub own : own_hand new ≡ own_hand old
    pub list : listed old ≡ listed new ++ x ∷ []
    pub others : other_hands new ≡ other_hands old

  -- the own deque and the list were empty, and the ticket was got from another's deque
  pub record Steals (old new : Seat T) (x : T) : Type 0 where
    pub empty : FoundNone (own_hand old)
    pub own : own_hand new ≡ own_hand old
    pub none_listed : listed old ≡ []
    pub list : listed new ≡ []
    pub at : ℕ
    pub others : IsGotAt (other_hands old) (other_hands new) at x

  -- the own deque and the list were empty, and each other's deque was empty or others got its tickets
  pub record FindsNone (old new : Seat T) : Type 0 where
    pub empty : FoundNone (own_hand old)
    pub own : own_hand new ≡ own_hand old
    pub none_listed : listed old ≡ []
    pub list : listed new ≡ []
    pub others : other_hands new ≡ other_hands old
    pub each : AllLetGo old.others.items new.others.items

  -- how many tickets the own deque held at a moment, and the list
  pub record IsLeft (s : Seat T) (n : ℕ) : Type 0 where
    pub held : List T
    pub account : IsAccountOf (own_hand s) held
    pub count : n ≡ min (length held + length (listed s)) (2 ^ 64 - 1)
