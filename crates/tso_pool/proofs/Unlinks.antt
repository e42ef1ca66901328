-- Seats that part, one after another.
use Rattle.std.proofs.Common.{◌≡◌, ℕ, zero, suc, ◌+◌, ◌-◌, ◌<◌, ◌≤◌, List, [], ◌∷◌, ◌++◌, All, map, length, set, get_or, take, drop, refl, sym, ap, ◌∙◌, subst, arith, append_assoc, IsPermutation, flat_map}
use Rattle.std.proofs.lemmas.List.{append-nil, map-set, length-append, length-map, length-set, length-take-le, take_more, get_or-append_right, set-append_right}
use Rattle.std.proofs.Math.Seq.{map-set_same, drop-cons, take-append_seam, take-length}
use Rattle.std.proofs.Math.ListN.{get_or-map}
use Rattle.std.proofs.lemmas.List.Sorted.{IsPermutation-refl, IsPermutation-trans, IsPermutation-sym, IsPermutation-append, IsPermutation-append_left, IsPermutation-append_right, IsPermutation-append_comm}
use Rattle.tso_pool.specs.declared.seat.Seat.{Seat}
use Rattle.tso_pool.specs.Victims.{DequeId}
use Rattle.tso_pool.specs.Seats.{Place, Tally, place_of, listed, with_found, IsFoundToo}
use Rattle.tso_pool.specs.Linked.{left_by, come_home, ways, places, all_found, all_pushed, all_listed, pushed_of, found_of, ReachesLast}

module _ {X : Type 0} (f : X → X) where
  -- the last ones are changed by f
  pub behind : ℕ → List X → List X
  behind at xs = take at xs ++ map f (drop at xs)

  behind_at : (xs : List X) (at : ℕ) (d : X) → at < length xs → behind at xs ≡ take at xs ++ f (get_or xs at d) ∷ map f (drop (at + 1) xs)
  unfolding behind
  behind_at xs at d below = let s : at + 1 ≡ suc at = omega arith in rw (s, drop-cons xs at d below) refl

  behind_next : (xs : List X) (at : ℕ) (d : X) → at < length xs → behind (at + 1) xs ≡ take at xs ++ get_or xs at d ∷ map f (drop (at + 1) xs)
  unfolding behind
  behind_next xs at d below = rw (take_more xs at d below, append_assoc (take at xs) (get_or xs at d ∷ []) (map f (drop (at + 1) xs))) refl

  set_seam : (xs ys : List X) (n : ℕ) (x y : X) → length xs ≡ n → set (xs ++ x ∷ ys) n y ≡ xs ++ y ∷ ys
  set_seam xs ys n x y long = let none : n - n ≡ 0 = omega arith in rw (set-append_right xs (x ∷ ys) n n y long (omega arith), none) refl

  get_seam : (xs ys : List X) (n : ℕ) (x d : X) → length xs ≡ n → get_or (xs ++ x ∷ ys) n d ≡ x
  get_seam xs ys n x d long = let none : n - n ≡ 0 = omega arith in rw (get_or-append_right xs (x ∷ ys) n n d long (omega arith), none) refl

  pub next_behind : (xs : List X) (at : ℕ) (d : X) → at < length xs → get_or (behind (at + 1) xs) at d ≡ get_or xs at d
  next_behind xs at d below = ap (λ (ys : List X). get_or ys at d) (behind_next xs at d below) ∙ get_seam (take at xs) (map f (drop (at + 1) xs)) at (get_or xs at d) d (length-take-le at xs (omega arith))

  pub one_behind : (xs : List X) (at : ℕ) (d : X) → at < length xs → set (behind (at + 1) xs) at (f (get_or xs at d)) ≡ behind at xs
  one_behind xs at d below =
      ap (λ (ys : List X). set ys at (f (get_or xs at d))) (behind_next xs at d below) ∙ set_seam (take at xs) (map f (drop (at + 1) xs)) at (get_or xs at d) (f (get_or xs at d)) (length-take-le at xs (omega arith)) ∙ sym (behind_at xs at d below)

  drop_all : (xs : List X) → drop (length xs) xs ≡ []
  drop_all [] = refl
  drop_all (x ∷ xs) = drop_all xs

  pub none_behind : (xs : List X) → behind (length xs) xs ≡ xs
  unfolding behind
  none_behind xs = rw (take-length xs, drop_all xs) (append-nil xs)

  pub all_behind : (xs : List X) → behind 0 xs ≡ map f xs
  unfolding behind
  all_behind [] = refl
  all_behind (x ∷ xs) = refl

pub but_last : {X : Type 0} (xs : List X) (x : X) → take (length (xs ++ x ∷ []) - 1) (xs ++ x ∷ []) ≡ xs
but_last xs x = let n : length (xs ++ x ∷ []) - 1 ≡ length xs = omega (arith, length-append xs (x ∷ [])) in rw n (take-append_seam xs (x ∷ []))

-- of n ways that it had, a seat has k left
pub partly : Place → ℕ → ℕ → Place
partly p n k = record { deque = p.deque; parts = p.parts + (n - k); others = take k p.others }

pub partly_all : (p : Place) (n : ℕ) → length p.others ≡ n → partly p n n ≡ p
unfolding partly
partly_all p n long = let none : p.parts + (n - n) ≡ p.parts = omega arith in rw (none, ← long, take-length p.others) refl

partly_none : (p : Place) (n : ℕ) → partly p n 0 ≡ come_home p n
unfolding partly
partly_none p n = let none : n - 0 ≡ n = omega arith in by p.others none
  where
    by : (os : List (DequeId × ℕ)) → n - 0 ≡ n → (let q : Place = record { deque = p.deque; parts = p.parts + (n - 0); others = take 0 os } in let r : Place = record { deque = p.deque; parts = p.parts + n; others = [] } in q ≡ r)
    by [] none = rw none refl
    by (o ∷ os) none = rw none refl

partly_less : (p : Place) (n k : ℕ) → length p.others ≡ n → k < n → left_by (partly p n (k + 1)) ≡ partly p n k
unfolding partly
partly_less p n k long below =
    let parts : (p.parts + (n - (k + 1))) + 1 ≡ p.parts + (n - k) = omega arith in
    let there : k < length p.others = omega arith in
    by p.others there parts
  where
    by : (os : List (DequeId × ℕ)) → k < length os → (p.parts + (n - (k + 1))) + 1 ≡ p.parts + (n - k) → (let q : Place = record { deque = p.deque; parts = p.parts + (n - (k + 1)) + 1; others = take (length (take (k + 1) os) - 1) (take (k + 1) os) } in let r : Place = record { deque = p.deque; parts = p.parts + (n - k); others = take k os } in q ≡ r)
    by [] there parts = absurd (omega arith)
    by (o ∷ os) there parts = rw (take_more (o ∷ os) k o there, but_last (take k (o ∷ os)) (get_or (o ∷ os) k o), parts) refl

module _ {T : Type 0} where
  exchange : (a b x y : List T) → IsPermutation ((a ++ x) ++ (b ++ y)) ((a ++ y) ++ (b ++ x))
  exchange a b x y =
      rw (append_assoc a x (b ++ y), append_assoc a y (b ++ x)) (IsPermutation-append_right a (x ++ (b ++ y)) (y ++ (b ++ x)) inner)
    where
      inner : IsPermutation (x ++ (b ++ y)) (y ++ (b ++ x))
      inner =
          IsPermutation-trans (x ++ (b ++ y)) ((b ++ y) ++ x) (y ++ (b ++ x)) (IsPermutation-append_comm x (b ++ y))
          (IsPermutation-trans ((b ++ y) ++ x) ((b ++ x) ++ y) (y ++ (b ++ x)) (rw (append_assoc b y x, append_assoc b x y) (IsPermutation-append_right b (y ++ x) (x ++ y) (IsPermutation-append_comm y x))) (IsPermutation-append_comm (b ++ x) y))

  -- what one got of the other is counted there
  pub exchanged : (one one' one'' other other' other'' : Tally T) (way back : List T) → one ≡ with_found one' way → other ≡ with_found other' back → IsFoundToo one' one'' back → IsFoundToo other' other'' way → IsPermutation (one.found ++ other.found) (one''.found ++ other''.found)
  exchanged one one' one'' other other' other'' way back e f h k =
      let a : one.found ≡ one'.found ++ way = ap (λ (t : Tally T). t.found) e in
      let b : other.found ≡ other'.found ++ back = ap (λ (t : Tally T). t.found) f in
      rw (a, b) (IsPermutation-trans ((one'.found ++ way) ++ (other'.found ++ back)) ((one'.found ++ back) ++ (other'.found ++ way)) (one''.found ++ other''.found) (exchange one'.found other'.found way back)
      (IsPermutation-append (one'.found ++ back) one''.found (other'.found ++ way) other''.found h.once k.once))

  -- one seat's found tickets are exchanged with the leaver's
  found_set : (seats : List (Seat T)) (k : ℕ) (d s : Seat T) (f f' : List T) → k < length seats → IsPermutation (f ++ found_of (get_or seats k d)) (f' ++ found_of s) → IsPermutation (all_found seats ++ f) (all_found (set seats k s) ++ f')
  found_set [] k d s f f' below e = absurd (omega arith)
  found_set (u ∷ seats) zero d s f f' below e =
      let rest : List T = all_found seats in
      IsPermutation-trans ((found_of u ++ rest) ++ f) ((f ++ found_of u) ++ rest) ((found_of s ++ rest) ++ f') (turn (found_of u) rest f)
      (IsPermutation-trans ((f ++ found_of u) ++ rest) ((f' ++ found_of s) ++ rest) ((found_of s ++ rest) ++ f') (IsPermutation-append_left rest (f ++ found_of u) (f' ++ found_of s) e) (IsPermutation-sym ((found_of s ++ rest) ++ f') ((f' ++ found_of s) ++ rest) (turn (found_of s) rest f')))
    where
      turn : (a b c : List T) → IsPermutation ((a ++ b) ++ c) ((c ++ a) ++ b)
      turn a b c = rw (append_assoc c a b) (IsPermutation-append_comm (a ++ b) c)
  found_set (u ∷ seats) (suc k) d s f f' below e =
      let inner : IsPermutation (all_found seats ++ f) (all_found (set seats k s) ++ f') = found_set seats k d s f f' (omega arith) e in
      rw (append_assoc (found_of u) (all_found seats) f, append_assoc (found_of u) (all_found (set seats k s)) f') (IsPermutation-append_right (found_of u) (all_found seats ++ f) (all_found (set seats k s) ++ f') inner)

  pub record IsParting (first leaver : Seat T) (olds news : List (Seat T)) (k : ℕ) : Type 0 where
    pub leaver_is : place_of leaver ≡ partly (place_of first) (length olds) k
    pub seats_are : places news ≡ behind left_by k (places olds)
    pub pushed : (pushed_of leaver ≡ pushed_of first) × (map pushed_of news ≡ map pushed_of olds)
    pub list : (listed leaver ≡ listed first) × (map listed news ≡ map listed olds)
    pub found : IsPermutation (all_found olds ++ found_of first) (all_found news ++ found_of leaver)
    pub long : length news ≡ length olds
    pub within : k ≤ length olds

  pub none_parted : (first : Seat T) (olds : List (Seat T)) → (place_of first).others ≡ ways (places olds) → IsParting first first olds olds (length olds)
  none_parted first olds reach =
      let n : length (place_of first).others ≡ length olds = ap length reach ∙ length-map (places olds) (λ (p : Place). let w : DequeId × ℕ = (p.deque, 1) in w) ∙ length-map olds (place_of {T = T}) in
      let m : length (places olds) ≡ length olds = length-map olds (place_of {T = T}) in record {
        leaver_is = sym (partly_all (place_of first) (length olds) n);
        seats_are = sym (ap (λ (k : ℕ). behind left_by k (places olds)) (sym m) ∙ none_behind left_by (places olds));
        pushed = (refl, refl);
        list = (refl, refl);
        found = IsPermutation-refl (all_found olds ++ found_of first);
        long = refl;
        within = omega arith;
      }

  module _ (first leaver leaver' : Seat T) (olds news : List (Seat T)) (k : ℕ) (d s : Seat T) where
    next_place : IsParting first leaver olds news (k + 1) → place_of (get_or news k d) ≡ get_or (places olds) k (place_of d)
    next_place parting =
        let below : k < length (places olds) = omega (arith, length-map olds (place_of {T = T}), parting.within) in
        sym (get_or-map (place_of {T = T}) news k d) ∙ ap (λ (ps : List Place). get_or ps k (place_of d)) parting.seats_are ∙ next_behind left_by (places olds) k (place_of d) below

    pub one_parted : IsParting first leaver olds news (k + 1) → (place_of first).others ≡ ways (places olds) → place_of leaver' ≡ left_by (place_of leaver) → place_of s ≡ left_by (place_of (get_or news k d)) → (pushed_of leaver' ≡ pushed_of leaver) × (pushed_of s ≡ pushed_of (get_or news k d)) → (listed leaver' ≡ listed leaver) × (listed s ≡ listed (get_or news k d)) → IsPermutation (found_of leaver ++ found_of (get_or news k d)) (found_of leaver' ++ found_of s) → IsParting first leaver' olds (set news k s) k
    one_parted parting reach mine its pushed list found =
        let m : length (places olds) ≡ length olds = length-map olds (place_of {T = T}) in
        let below : k < length (places olds) = omega (arith, m, parting.within) in
        let n : length (place_of first).others ≡ length olds = ap length reach ∙ length-map (places olds) (λ (p : Place). let w : DequeId × ℕ = (p.deque, 1) in w) ∙ m in record {
          leaver_is = mine ∙ ap left_by parting.leaver_is ∙ partly_less (place_of first) (length olds) k n (omega (arith, parting.within));
          seats_are =
              map-set (place_of {T = T}) news k s ∙ ap (λ (ps : List Place). set ps k (place_of s)) parting.seats_are ∙ ap (set (behind left_by (k + 1) (places olds)) k) (its ∙ ap left_by (next_place parting)) ∙ one_behind left_by (places olds) k (place_of d) below;
          pushed = (pushed.0 ∙ parting.pushed.0, map-set_same (pushed_of {T = T}) news k s d pushed.1 ∙ parting.pushed.1);
          list = (list.0 ∙ parting.list.0, map-set_same (listed {T = T}) news k s d list.1 ∙ parting.list.1);
          found =
              IsPermutation-trans (all_found olds ++ found_of first) (all_found news ++ found_of leaver) (all_found (set news k s) ++ found_of leaver') parting.found
              (found_set news k d s (found_of leaver) (found_of leaver') (omega (arith, parting.long, parting.within)) found);
          long = length-set news k s ∙ parting.long;
          within = omega (arith, parting.within);
        }

    -- before two part, each has reached the other last
    pub may_part : IsParting first leaver olds news (k + 1) → (place_of first).others ≡ ways (places olds) → All (λ p. ReachesLast p (place_of first).deque) (places olds) → ReachesLast (place_of leaver) (place_of (get_or news k d)).deque × ReachesLast (place_of (get_or news k d)) (place_of leaver).deque
    unfolding partly
    may_part parting reach reached =
        let m : length (places olds) ≡ length olds = length-map olds (place_of {T = T}) in
        let below : k < length (places olds) = omega (arith, m, parting.within) in
        let q : Place = get_or (places olds) k (place_of d) in
        let its : place_of (get_or news k d) ≡ q = next_place parting in
        let way : Place → DequeId × ℕ = λ p. (p.deque, 1) in
        let there : k < length (ways (places olds)) = omega (arith, length-map (places olds) way) in
        let last : take (k + 1) (place_of first).others ≡ take k (ways (places olds)) ++ (q.deque, 1) ∷ [] =
        ap (take (k + 1)) reach ∙ take_more (ways (places olds)) k (way (place_of d)) there ∙ ap (λ (w : DequeId × ℕ). take k (ways (places olds)) ++ w ∷ []) (get_or-map way (places olds) k (place_of d)) in
        let same : (place_of leaver).deque ≡ (place_of first).deque = ap (λ (p : Place). p.deque) parting.leaver_is in
        let deque : (place_of (get_or news k d)).deque ≡ q.deque = ap (λ (p : Place). p.deque) its in
        let others : (place_of leaver).others ≡ take (k + 1) (place_of first).others = ap (λ (p : Place). p.others) parting.leaver_is in
        let r : ReachesLast q (place_of first).deque = reached k (place_of d) below in (
          (take k (ways (places olds)), others ∙ last ∙ ap (λ (x : DequeId). take k (ways (places olds)) ++ (x, 1) ∷ []) (sym deque)),
          (r.0, ap (λ (p : Place). p.others) its ∙ r.1 ∙ ap (λ (x : DequeId). r.0 ++ (x, 1) ∷ []) (sym same)),
        )

  flat_same : (f : Seat T → List T) (xs ys : List (Seat T)) → map f xs ≡ map f ys → flat_map f xs ≡ flat_map f ys
  flat_same f [] [] e = refl
  flat_same f [] (y ∷ ys) e = absurd (cc)
  flat_same f (x ∷ xs) [] e = absurd (cc)
  flat_same f (x ∷ xs) (y ∷ ys) e =
      let head : f x ≡ f y = cc in
      let rest : map f xs ≡ map f ys = cc in
      rw (head, flat_same f xs ys rest) refl

  pub record IsParted (first leaver : Seat T) (olds news : List (Seat T)) : Type 0 where
    pub leaver_is : place_of leaver ≡ come_home (place_of first) (length olds)
    pub seats_are : places news ≡ map left_by (places olds)
    pub pushed : (pushed_of leaver ≡ pushed_of first) × (all_pushed news ≡ all_pushed olds)
    pub list : (listed leaver ≡ listed first) × (all_listed news ≡ all_listed olds)
    pub found : IsPermutation (all_found olds ++ found_of first) (all_found news ++ found_of leaver)

  all_parted : (first leaver : Seat T) (olds news : List (Seat T)) → IsParting first leaver olds news 0 → IsParted first leaver olds news
  all_parted first leaver olds news parting = record {
    leaver_is = parting.leaver_is ∙ partly_none (place_of first) (length olds);
    seats_are = parting.seats_are ∙ all_behind left_by (places olds);
    pushed = (parting.pushed.0, flat_same pushed_of news olds parting.pushed.1);
    list = (parting.list.0, flat_same listed news olds parting.list.1);
    found = parting.found;
  }

  pub one_left : (first leaver : Seat T) (olds news : List (Seat T)) (left : ℕ) → 0 < left → IsParting first leaver olds news left → IsParting first leaver olds news ((left - 1) + 1)
  one_left first leaver olds news left some parting =
      let e : left ≡ (left - 1) + 1 = omega arith in
      let P : ℕ → Type 0 = λ n. IsParting first leaver olds news n in
      subst P e parting

  pub none_left : (first leaver : Seat T) (olds news : List (Seat T)) (left : ℕ) → left ≡ 0 → IsParting first leaver olds news left → IsParted first leaver olds news
  none_left first leaver olds news left none parting =
      let P : ℕ → Type 0 = λ n. IsParting first leaver olds news n in
      all_parted first leaver olds news (subst P none parting)
