-- Seats that reach one another.
use Rattle.std.specs.Prelude.{◌≡◌, ℕ, ◌+◌, ◌-◌, ◌<◌, ◌^◌, min, IsPermutation, ◌++◌, ◌∷◌, [], List, map, length, remove, take, flat_map, slice_index_or}
use Rattle.tso_pool.specs.declared.seat.Seat.{Seat}
use Rattle.tso_pool.specs.Victims.{DequeId}
use Rattle.tso_pool.specs.Hands.{all_parts}
use Rattle.tso_pool.specs.Seats.{Place, Tally, listed, place_of, tally_of}

-- where a seat stands after it and another were linked
abbrev pub met_by : DequeId → Place → Place
met_by deque p = record { deque = p.deque; parts = p.parts - 1; others = p.others ++ (deque, 1) ∷ [] }

-- a way into each deque, with one part
abbrev pub ways : List Place → List (DequeId × ℕ)
ways ps = map (λ p. (p.deque, 1)) ps

-- where a seat stands after it was linked with each of these
abbrev pub met_all : List Place → Place → Place
met_all ps p = record { deque = p.deque; parts = p.parts - length ps; others = p.others ++ ways ps }

-- where a seat stands after it and the one that it reached last have parted
abbrev pub left_by : Place → Place
left_by p = record { deque = p.deque; parts = p.parts + 1; others = take (length p.others - 1) p.others }

-- where a seat stands that has all parts of its deque back, n of them since, and reaches no other
abbrev pub come_home : Place → ℕ → Place
come_home p n = record { deque = p.deque; parts = p.parts + n; others = [] }

-- the deque that it reached last, of which it holds one part
abbrev pub ReachesLast : Place → DequeId → Type 0
ReachesLast p deque = (rest : List (DequeId × ℕ)) × (p.others ≡ rest ++ (deque, 1) ∷ [])

module _ {T : Type 0} where
  abbrev pub places : List (Seat T) → List Place
  places seats = map place_of seats

  abbrev pub tallies : List (Seat T) → List (Tally T)
  tallies seats = map tally_of seats

  abbrev pub pushed_of : Seat T → List T
  pushed_of s = (tally_of s).pushed

  abbrev pub found_of : Seat T → List T
  found_of s = (tally_of s).found

  -- all that was pushed by these seats, all that was found by them, and all that is on their lists
  abbrev pub all_pushed : List (Seat T) → List T
  all_pushed seats = flat_map pushed_of seats

  abbrev pub all_found : List (Seat T) → List T
  all_found seats = flat_map found_of seats

  abbrev pub all_listed : List (Seat T) → List T
  all_listed seats = flat_map listed seats

-- the seat with this number reaches all deques but its own, and has the other parts of that
pub record IsLinkedAt (ps : List Place) (k : ℕ) (p : Place) : Type 0 where
  pub reach : p.others ≡ remove (ways ps) k
  pub held : p.parts + length ps ≡ all_parts + 1

-- each seat reaches the deques of all others
abbrev pub AreLinked : List Place → Type 0
AreLinked ps = (k : ℕ) (d : Place) → k < length ps → IsLinkedAt ps k (slice_index_or ps k d)

module _ {T : Type 0} where
  -- n tickets are left with seats that reach one another and no others: what was pushed by all is what was found by all, and what their deques hold. From 2 ^ 64 - 1 on n is that number
  pub record AreLeft (seats : List (Seat T)) (n : ℕ) : Type 0 where
    pub held : List T
    pub once : IsPermutation (all_pushed seats) (all_found seats ++ held)
    pub count : n ≡ min (length held + length (all_listed seats)) (2 ^ 64 - 1)

  -- some of the seats have parted from the others, and n tickets are left with these
  pub record AreClosed (olds news : List (Seat T)) (n : ℕ) : Type 0 where
    pub pushed : List T
    pub found : List T
    pub held : List T
    pub lists : ℕ
    pub pushed_is : all_pushed olds ≡ all_pushed news ++ pushed
    pub found_is : IsPermutation (all_found olds) (all_found news ++ found)
    pub once : IsPermutation pushed (found ++ held)
    pub listed_is : length (all_listed olds) ≡ length (all_listed news) + lists
    pub count : n ≡ min (length held + lists) (2 ^ 64 - 1)
