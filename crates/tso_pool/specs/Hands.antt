-- What the parties of one deque have pushed there and got from there.
use Rattle.std.specs.Prelude.{◌≡◌, ℕ, ◌+◌, List, [], ◌∷◌, ◌++◌, IsPermutation}
use mathlib.Core.Option.{some}
use lib.ListN.{get_elem?}
use Rattle.tso_pool.specs.declared.rule.Hand.{Hand}

abbrev pub all_parts : ℕ
all_parts = 64

module _ {T : Type 0} where
  abbrev pub hand : ℕ → List T → List T → Hand T
  hand parts pushed got = record { parts = parts; pushed = pushed; got = got }

  -- what all have got
  abbrev pub all_got : List (Hand T) → List T
  all_got [] = []
  all_got (h ∷ hands) = h.got ++ all_got hands

  abbrev pub parts_of : List (Hand T) → ℕ
  parts_of [] = 0
  parts_of (h ∷ hands) = h.parts + parts_of hands

  -- a party without a part has got nothing
  abbrev pub IdleGotNothing : List (Hand T) → Type 0
  IdleGotNothing [] = Unit {0}
  IdleGotNothing (h ∷ hands) = (h.parts ≡ 0 → h.got ≡ []) × IdleGotNothing hands

  -- The first party is the owner, who alone pushes. What it has pushed is, in some order, what all have got and what the deque holds
  abbrev pub IsEachOnce : List T → List (Hand T) → Type 0
  IsEachOnce items [] = Unit {0}
  IsEachOnce items (owner ∷ others) = IsPermutation owner.pushed (all_got (owner ∷ others) ++ items)

  -- no ticket of a deque is lost, and none was got twice; the parts are shared out among those who may get one
  pub record NoneIsLost (items : List T) (hands : List (Hand T)) : Type 0 where
    pub once : IsEachOnce items hands
    pub whole : parts_of hands ≡ all_parts
    pub idle : IdleGotNothing hands

  -- at a moment at which this party had this hand, the deque held nothing
  pub record FoundNone (v : Hand T) : Type 0 where
    pub hands : List (Hand T)
    pub party : ℕ
    pub is : get_elem? hands party ≡ some v
    pub empty : NoneIsLost [] hands

  -- What the owner has pushed is what it has got, what others have got, and what the deque holds. Who has all parts knows that others have got nothing more
  pub record IsAccountOf (v : Hand T) (items : List T) : Type 0 where
    pub stolen : List T
    pub once : IsPermutation v.pushed ((v.got ++ stolen) ++ items)
    pub all : v.parts ≡ all_parts → stolen ≡ []
