-- What clauses see of others' deques.
use Rattle.std.specs.Prelude.{◌≡◌, ℕ, ◌<◌, ◌⊎◌, ◌++◌, ◌∷◌, [], List, Some, map, length, slice_get, slice_set, slice_index_or}
use Rattle.std.specs.declared.alloc.Global.{Global}
use Rattle.crossbeam_deque.specs.Handles.{view, taken, stealer_deque}
use Rattle.tso_pool.specs.declared.rule.Hand.{Hand}
use Rattle.tso_pool.specs.declared.victim.Victim.{Victim}
use Rattle.tso_pool.specs.Hands.{hand, FoundNone}

-- which deque it is
abbrev pub DequeId : Type 0
DequeId = (ℕ × ℕ) × Global

module _ {T : Type 0} where
  -- what is known of its deque
  abbrev pub hand_of : Victim T → Hand T
  hand_of v = view v.pass

  abbrev pub hands : List (Victim T) → List (Hand T)
  hands vs = map hand_of vs

  -- which deque it is, and how many parts of it are held
  abbrev pub reach_of : Victim T → DequeId × ℕ
  reach_of v = (stealer_deque v.thief, (hand_of v).parts)

  abbrev pub reaches : List (Victim T) → List (DequeId × ℕ)
  reaches vs = map reach_of vs

  -- the hand after a ticket was got
  abbrev pub gets : Hand T → T → Hand T
  gets h x = hand h.parts h.pushed (h.got ++ x ∷ [])

  -- at a moment the deque held nothing, or tickets had left it since it was last looked at
  abbrev pub LetGo : Victim T → Victim T → Type 0
  LetGo old new = FoundNone (hand_of old) ⊎ (taken old.pass < taken new.pass)

  -- the same of each
  abbrev pub AllLetGo : List (Victim T) → List (Victim T) → Type 0
  AllLetGo olds news = (k : ℕ) (d : Victim T) → k < length olds → LetGo (slice_index_or olds k d) (slice_index_or news k d)

  -- x was got from the deque at this place, and nothing from the others
  pub record IsGotAt (olds news : List (Hand T)) (at : ℕ) (x : T) : Type 0 where
    pub was : Hand T
    pub is : slice_get olds at ≡ Some was
    pub after : news ≡ slice_set olds at (gets was x)
