-- Deques that are tried one after another.
use Rattle.std.proofs.Common.{◌≡◌, ◌≢◌, ℕ, ◌+◌, ◌<◌, ◌≤◌, List, ◌++◌, Some, length, ◌-◌, ◌⊎◌, inl, inr, set, get_or, slice_get, refl, sym, ap, ◌∙◌, arith, below_more}
use Rattle.std.proofs.lemmas.Bool.{cases_lt}
use Rattle.std.proofs.lemmas.List.{map-set, map-append, length-set, length-map, length-append, get_or-set_same, get_or-set_other, get_or_append_left, get_or-append-add, get_or-append_right, set-append_left, set-append_right}
use Rattle.std.proofs.Math.Seq.{map-set_same}
use Rattle.std.proofs.lemmas.Option.{slice_get-map, slice_get-get_or, get_or_from_slice_get, slice_get_within}
use Rattle.tso_pool.specs.declared.rule.Hand.{Hand}
use Rattle.tso_pool.specs.declared.victim.Victim.{Victim}
use Rattle.tso_pool.specs.Victims.{reach_of, reaches, hands, hand_of, gets, LetGo, AllLetGo, IsGotAt}

module _ {T : Type 0} where
  -- those below `at` were tried, and had no ticket
  pub record IsTried (olds news : List (Victim T)) (at : ℕ) : Type 0 where
    pub same : reaches news ≡ reaches olds
    pub hands_stay : hands news ≡ hands olds
    pub each : (k : ℕ) (d : Victim T) → k < at → LetGo (get_or olds k d) (get_or news k d)
    pub rest : (k : ℕ) (d : Victim T) → at ≤ k → get_or news k d ≡ get_or olds k d
    pub long : length news ≡ length olds

  pub none_tried : (vs : List (Victim T)) → IsTried vs vs 0
  none_tried vs = record {
    same = refl;
    hands_stay = refl;
    each = λ k d below. absurd (omega arith);
    rest = λ k d from. refl;
    long = refl;
  }

  pub reaches_set : (vs : List (Victim T)) (at : ℕ) (d w : Victim T) → reach_of w ≡ reach_of (get_or vs at d) → reaches (set vs at w) ≡ reaches vs
  reaches_set vs at d w same = map-set_same reach_of vs at w d same

  -- one more was tried
  pub one_more : (olds news : List (Victim T)) (at : ℕ) (d w : Victim T) → IsTried olds news at → at < length news → reach_of w ≡ reach_of (get_or news at d) → hand_of w ≡ hand_of (get_or news at d) → LetGo (get_or news at d) w → IsTried olds (set news at w) (at + 1)
  one_more olds news at d w tried below same hand let_go = record {
    same = reaches_set news at d w same ∙ tried.same;
    hands_stay = map-set_same hand_of news at w d hand ∙ tried.hands_stay;
    each = λ k e under. below_more (λ j. (x : Victim T) → LetGo (get_or olds j x) (get_or (set news at w) j x)) at before here k under e;
    rest = λ k e from. (let other : k ≢ at = λ e. omega arith in get_or-set_other news at k w e other ∙ tried.rest k e (omega arith));
    long = length-set news at w ∙ tried.long;
  }
    where
      here : (e : Victim T) → LetGo (get_or olds at e) (get_or (set news at w) at e)
      here e =
          let read : slice_get news at ≡ Some (get_or news at d) = slice_get-get_or news at d below in
          let was : get_or olds at e ≡ get_or news at d = sym (tried.rest at e (omega arith)) ∙ get_or_from_slice_get news at (get_or news at d) e read in
          rw (get_or-set_same news at w e below, was) let_go

      before : (k : ℕ) → k < at → (e : Victim T) → LetGo (get_or olds k e) (get_or (set news at w) k e)
      before k under e = let other : k ≢ at = λ e. omega arith in rw (get_or-set_other news at k w e other) (tried.each k e under)

  -- one of them let a ticket go
  pub one_got : (olds news : List (Victim T)) (at : ℕ) (d w : Victim T) (x : T) → IsTried olds news at → at < length news → hand_of w ≡ gets (hand_of (get_or news at d)) x → IsGotAt (hands olds) (hands (set news at w)) at x
  one_got olds news at d w x tried below got = record {
    was = hand_of (get_or news at d);
    is = (let read : slice_get news at ≡ Some (get_or news at d) = slice_get-get_or news at d below in
        rw (← tried.hands_stay, slice_get-map hand_of news at, read) refl);
    after = rw (map-set hand_of news at w, got, tried.hands_stay) refl;
  }

  pub all_tried : (olds news : List (Victim T)) (at : ℕ) → IsTried olds news at → length olds ≤ at → (hands news ≡ hands olds) × AllLetGo olds news
  all_tried olds news at tried all = (tried.hands_stay, λ k d below. tried.each k d (omega arith))

  -- two pieces of a list

  at_left : (xs ys : List (Hand T)) (at : ℕ) (x : Hand T) → slice_get xs at ≡ Some x → slice_get (xs ++ ys) at ≡ Some x
  at_left xs ys at x is =
      let below : at < length xs = slice_get_within xs at x is in
      let long : at < length (xs ++ ys) = omega (arith, length-append xs ys) in
      slice_get-get_or (xs ++ ys) at x long ∙ ap (λ (h : Hand T). Some h) (get_or_append_left xs ys x at below ∙ get_or_from_slice_get xs at x x is)

  at_right : (xs ys : List (Hand T)) (at : ℕ) (x : Hand T) → slice_get ys at ≡ Some x → slice_get (xs ++ ys) (length xs + at) ≡ Some x
  at_right xs ys at x is =
      let below : at < length ys = slice_get_within ys at x is in
      let long : length xs + at < length (xs ++ ys) = omega (arith, length-append xs ys) in
      slice_get-get_or (xs ++ ys) (length xs + at) x long ∙ ap (λ (h : Hand T). Some h) (get_or-append-add xs ys at x ∙ get_or_from_slice_get ys at x x is)

  got_left : (olds news back back' : List (Hand T)) (at : ℕ) (x : T) → back' ≡ back → IsGotAt olds news at x → IsGotAt (olds ++ back) (news ++ back') at x
  got_left olds news back back' at x same got =
      let below : at < length olds = slice_get_within olds at got.was got.is in record {
        was = got.was;
        is = at_left olds back at got.was got.is;
        after = rw (got.after, same, set-append_left olds back at (gets got.was x) below) refl;
      }

  got_right : (front olds news : List (Hand T)) (at : ℕ) (x : T) → IsGotAt olds news at x → IsGotAt (front ++ olds) (front ++ news) (length front + at) x
  got_right front olds news at x got =
      let back : (length front + at) - length front ≡ at = omega arith in record {
        was = got.was;
        is = at_right front olds at got.was got.is;
        after = (let e = set-append_right front olds (length front) (length front + at) (gets got.was x) refl (omega arith) in rw (got.after, e, back) refl);
      }

  pub got_after : (front olds news : List (Victim T)) (from at : ℕ) (x : T) → length front ≡ from → IsGotAt (hands olds) (hands news) at x → IsGotAt (hands (front ++ olds)) (hands (front ++ news)) (from + at) x
  got_after front olds news from at x long got =
      let same : length (hands front) ≡ from = length-map front hand_of ∙ long in
      rw (map-append hand_of front olds, map-append hand_of front news, ← same) (got_right (hands front) (hands olds) (hands news) at x got)

  pub got_before : (olds news back back' : List (Victim T)) (at : ℕ) (x : T) → hands back' ≡ hands back → IsGotAt (hands olds) (hands news) at x → IsGotAt (hands (olds ++ back)) (hands (news ++ back')) at x
  got_before olds news back back' at x same got =
      rw (map-append hand_of olds back, map-append hand_of news back') (got_left (hands olds) (hands news) (hands back) (hands back') at x same got)

  pub none_got : (olds news back back' : List (Victim T)) → length news ≡ length olds → (hands news ≡ hands olds) × AllLetGo olds news → (hands back' ≡ hands back) × AllLetGo back back' → (hands (news ++ back') ≡ hands (olds ++ back)) × AllLetGo (olds ++ back) (news ++ back')
  none_got olds news back back' long first second = (
    rw (map-append hand_of news back', map-append hand_of olds back, first.0, second.0) refl,
    λ k d below. by k d below (cases_lt k (length olds)),
  )
    where
      by : (k : ℕ) (d : Victim T) → k < length (olds ++ back) → (k < length olds) ⊎ (length olds ≤ k) → LetGo (get_or (olds ++ back) k d) (get_or (news ++ back') k d)
      by k d below (inl h) =
          let there : k < length news = omega arith in
          rw (get_or_append_left olds back d k h, get_or_append_left news back' d k there) (first.1 k d h)
      by k d below (inr h) =
          let left : k - length olds < length back = omega (arith, length-append olds back) in
          rw (get_or-append_right olds back (length olds) k d refl h, get_or-append_right news back' (length olds) k d long h) (second.1 (k - length olds) d left)
