-- Each step of a deque of tickets keeps its rule.
use Rattle.std.proofs.Common.{◌≡◌, ℕ, zero, suc, ◌+◌, ◌-◌, ◌<◌, List, [], ◌∷◌, ◌++◌, set, refl, sym, ap, subst, arith, append_assoc, IsPermutation}
use mathlib.Core.Option.{some, some-ne-none}
use lib.ListN.{get_elem?}
use Rattle.std.proofs.lemmas.List.Sorted.{IsPermutation-refl, IsPermutation-trans, IsPermutation-append_left, IsPermutation-append_right, IsPermutation-append_comm}
use Rattle.crossbeam_deque.specs.Tasks.{Pushes, Takes, Learns, Finds, Forks, Merges}
use Rattle.tso_pool.specs.declared.rule.Hand.{Hand}
use Rattle.tso_pool.specs.Hands.{hand, all_parts, all_got, parts_of, IdleGotNothing, IsEachOnce, NoneIsLost, FoundNone, IsAccountOf}

module _ {T : Type 0} where
  -- permutations of pieces

  pub regroup : (a b c : List T) → IsPermutation (a ++ (b ++ c)) ((a ++ b) ++ c)
  regroup a b c = let e : a ++ (b ++ c) ≡ (a ++ b) ++ c = sym (append_assoc a b c) in subst (λ (l : List T). IsPermutation (a ++ (b ++ c)) l) e (IsPermutation-refl (a ++ (b ++ c)))

  pub swap_last : (a b c : List T) → IsPermutation ((a ++ b) ++ c) ((a ++ c) ++ b)
  swap_last a b c = rw (append_assoc a b c, append_assoc a c b) (IsPermutation-append_right a (b ++ c) (c ++ b) (IsPermutation-append_comm b c))

  -- what changes in one hand

  parts_set : (hands : List (Hand T)) (at : ℕ) (v w : Hand T) → get_elem? hands at ≡ some v → parts_of (set hands at w) + v.parts ≡ parts_of hands + w.parts
  parts_set [] at v w is = absurd (some-ne-none v (sym is))
  parts_set (u ∷ hands) zero v w is = let same : u ≡ v = cc in rw same (omega arith)
  parts_set (u ∷ hands) (suc at) v w is = omega (arith, parts_set hands at v w is)

  parts_more : (hands : List (Hand T)) (v : Hand T) → parts_of (hands ++ v ∷ []) ≡ parts_of hands + v.parts
  parts_more [] v = omega arith
  parts_more (u ∷ hands) v = omega (arith, parts_more hands v)

  idle_set : (hands : List (Hand T)) (at : ℕ) (w : Hand T) → (w.parts ≡ 0 → w.got ≡ []) → IdleGotNothing hands → IdleGotNothing (set hands at w)
  idle_set [] at w mine all = tt
  idle_set (u ∷ hands) zero w mine all = (mine, all.1)
  idle_set (u ∷ hands) (suc at) w mine all = (all.0, idle_set hands at w mine all.1)

  idle_more : (hands : List (Hand T)) (v : Hand T) → v.got ≡ [] → IdleGotNothing hands → IdleGotNothing (hands ++ v ∷ [])
  idle_more [] v none all = ((λ _. none), tt)
  idle_more (u ∷ hands) v none all = (all.0, idle_more hands v none all.1)

  got_more : (hands : List (Hand T)) (v : Hand T) → v.got ≡ [] → all_got (hands ++ v ∷ []) ≡ all_got hands
  got_more [] v none = rw none refl
  got_more (u ∷ hands) v none = ap (λ (l : List T). u.got ++ l) (got_more hands v none)

  -- one more ticket was got by one
  got_set : (hands : List (Hand T)) (at : ℕ) (v w : Hand T) (xs : List T) → get_elem? hands at ≡ some v → w.got ≡ v.got ++ xs → IsPermutation (all_got hands ++ xs) (all_got (set hands at w))
  got_set [] at v w xs is got = absurd (some-ne-none v (sym is))
  got_set (u ∷ hands) zero v w xs is got = let same : u ≡ v = cc in rw (same, got) (swap_last v.got (all_got hands) xs)
  got_set (u ∷ hands) (suc at) v w xs is got =
      rw (append_assoc u.got (all_got hands) xs) (IsPermutation-append_right u.got (all_got hands ++ xs) (all_got (set hands at w)) (got_set hands at v w xs is got))

  -- one party hands over what it got
  got_spent : (hands : List (Hand T)) (at : ℕ) (w spent : Hand T) → get_elem? hands at ≡ some w → spent.got ≡ [] → IsPermutation (all_got hands) (w.got ++ all_got (set hands at spent))
  got_spent [] at w spent is none = absurd (some-ne-none w (sym is))
  got_spent (u ∷ hands) zero w spent is none = let same : u ≡ w = cc in rw (same, none) (IsPermutation-refl (w.got ++ all_got hands))
  got_spent (u ∷ hands) (suc at) w spent is none =
      let rest : List T = all_got (set hands at spent) in
      IsPermutation-trans (u.got ++ all_got hands) (u.got ++ (w.got ++ rest)) (w.got ++ (u.got ++ rest)) (IsPermutation-append_right u.got (all_got hands) (w.got ++ rest) (got_spent hands at w spent is none)) (past u.got w.got rest)
    where
      past : (a b c : List T) → IsPermutation (a ++ (b ++ c)) (b ++ (a ++ c))
      past a b c = rw (← append_assoc a b c, ← append_assoc b a c) (IsPermutation-append_left c (a ++ b) (b ++ a) (IsPermutation-append_comm a b))

  -- with all parts elsewhere, nothing was got here
  got_none : (hands : List (Hand T)) → parts_of hands ≡ 0 → IdleGotNothing hands → all_got hands ≡ []
  got_none [] none all = refl
  got_none (u ∷ hands) none all =
      let here : u.parts ≡ 0 = omega arith in
      let there : parts_of hands ≡ 0 = omega arith in
      rw (all.0 here, got_none hands there all.1) refl

  -- the steps

  took : (p : List T) (hands : List (Hand T)) (at : ℕ) (v w : Hand T) (xs items : List T) → get_elem? hands at ≡ some v → w.got ≡ v.got ++ xs → IsPermutation p (all_got hands ++ (xs ++ items)) → IsPermutation p (all_got (set hands at w) ++ items)
  took p hands at v w xs items is got before =
      IsPermutation-trans p (all_got hands ++ (xs ++ items)) (all_got (set hands at w) ++ items) before
      (rw (← append_assoc (all_got hands) xs items) (IsPermutation-append_left items (all_got hands ++ xs) (all_got (set hands at w)) (got_set hands at v w xs is got)))

  once_took : (hands : List (Hand T)) (at : ℕ) (v w : Hand T) (xs items : List T) → get_elem? hands at ≡ some v → w.got ≡ v.got ++ xs → w.pushed ≡ v.pushed → IsEachOnce (xs ++ items) hands → IsEachOnce items (set hands at w)
  once_took [] at v w xs items is got pushed before = tt
  once_took (owner ∷ others) zero v w xs items is got pushed before =
      let same : owner ≡ v = cc in
      let p : w.pushed ≡ owner.pushed = rw same pushed in
      rw p (took owner.pushed (owner ∷ others) zero v w xs items is got before)
  once_took (owner ∷ others) (suc at) v w xs items is got pushed before = took owner.pushed (owner ∷ others) (suc at) v w xs items is got before

  pub takes : (party : ℕ) (v : Hand T) (most : ℕ) → 0 < v.parts → Takes NoneIsLost party v most (λ xs w. w ≡ hand v.parts v.pushed (v.got ++ xs))
  takes party v most part xs items hands _ _ kept is =
      let w : Hand T = hand v.parts v.pushed (v.got ++ xs) in (
        w,
        record {
          once = once_took hands party v w xs items is refl refl kept.once;
          whole = (let e = parts_set hands party v w is in omega (arith, kept.whole));
          idle = idle_set hands party w (λ none. absurd (omega arith)) kept.idle;
        },
        refl,
      )

  once_pushed : (hands : List (Hand T)) (v w : Hand T) (xs items : List T) → get_elem? hands 0 ≡ some v → w.got ≡ v.got → w.pushed ≡ v.pushed ++ xs → IsEachOnce items hands → IsEachOnce (items ++ xs) (set hands 0 w)
  once_pushed [] v w xs items is got pushed before = tt
  once_pushed (owner ∷ others) v w xs items is got pushed before =
      let same : owner ≡ v = cc in
      let p : w.pushed ≡ owner.pushed ++ xs = rw same pushed in
      let g : w.got ≡ owner.got = rw same got in
      rw (p, g, ← append_assoc (all_got (owner ∷ others)) items xs) (IsPermutation-append_left xs owner.pushed (all_got (owner ∷ others) ++ items) before)

  pushes : (v : Hand T) (xs : List T) → 0 < v.parts → Pushes NoneIsLost 0 v xs (λ w. w ≡ hand v.parts (v.pushed ++ xs) v.got)
  pushes v xs part items hands kept is =
      let w : Hand T = hand v.parts (v.pushed ++ xs) v.got in (
        w,
        record {
          once = once_pushed hands v w xs items is refl refl kept.once;
          whole = (let e = parts_set hands 0 v w is in omega (arith, kept.whole));
          idle = idle_set hands 0 w (λ none. absurd (omega arith)) kept.idle;
        },
        refl,
      )

  -- the beginning
  pub begins : NoneIsLost {T = T} [] (hand all_parts [] [] ∷ [])
  begins = record {
    once = IsPermutation-refl [];
    whole = refl;
    idle = ((λ _. refl), tt);
  }

  -- the owner gives a part to another party

  once_forked : (hands : List (Hand T)) (v left right : Hand T) (items : List T) → get_elem? hands 0 ≡ some v → left.got ≡ v.got → left.pushed ≡ v.pushed → right.got ≡ [] → IsEachOnce items hands → IsEachOnce items (set hands 0 left ++ right ∷ [])
  once_forked [] v left right items is got pushed none before = absurd (some-ne-none v (sym is))
  once_forked (owner ∷ others) v left right items is got pushed none before =
      let same : owner ≡ v = cc in
      let p : left.pushed ≡ owner.pushed = rw same pushed in
      let g : left.got ≡ owner.got = rw same got in
      rw (p, g, got_more others right none) before

  forks : (v : Hand T) → 1 < v.parts → Forks NoneIsLost 0 v (hand (v.parts - 1) v.pushed v.got) (hand 1 [] [])
  forks v parts items hands kept is =
      let left : Hand T = hand (v.parts - 1) v.pushed v.got in
      let right : Hand T = hand 1 [] [] in
      let s = parts_set hands 0 v left is in
      let m = parts_more (set hands 0 left) right in
      record {
        once = once_forked hands v left right items is refl refl refl kept.once;
        whole = omega (arith, kept.whole);
        idle = idle_more (set hands 0 left) right refl (idle_set hands 0 left (λ none. absurd (omega arith)) kept.idle);
      }

  -- and takes it back

  once_merged : (hands : List (Hand T)) (v w both spent : Hand T) (other : ℕ) (items : List T) → get_elem? hands 0 ≡ some v → get_elem? (set hands 0 both) other ≡ some w → ¬ (other ≡ 0) → both.got ≡ v.got ++ w.got → both.pushed ≡ v.pushed → spent.got ≡ [] → IsEachOnce items hands → IsEachOnce items (set (set hands 0 both) other spent)
  once_merged [] v w both spent other items is at apart got pushed none before = absurd (some-ne-none v (sym is))
  once_merged (owner ∷ others) v w both spent zero items is at apart got pushed none before = absurd (apart refl)
  once_merged (owner ∷ others) v w both spent (suc other) items is at apart got pushed none before =
      let same : owner ≡ v = cc in
      let p : both.pushed ≡ owner.pushed = rw same pushed in
      let g : both.got ≡ owner.got ++ w.got = rw same got in
      let rest : List T = all_got (set others other spent) in
      rw (p, g, append_assoc owner.got w.got rest)
      (IsPermutation-trans owner.pushed ((owner.got ++ all_got others) ++ items) ((owner.got ++ (w.got ++ rest)) ++ items) before
      (IsPermutation-append_left items (owner.got ++ all_got others) (owner.got ++ (w.got ++ rest)) (IsPermutation-append_right owner.got (all_got others) (w.got ++ rest) (got_spent others other w spent at none))))

  merges : (v : Hand T) (other : ℕ) (w : Hand T) → 0 < v.parts → Merges NoneIsLost 0 v other w (hand (v.parts + w.parts) v.pushed (v.got ++ w.got)) (hand 0 [] [])
  merges v other w part items hands kept is apart at =
      let both : Hand T = hand (v.parts + w.parts) v.pushed (v.got ++ w.got) in
      let spent : Hand T = hand 0 [] [] in
      let s = parts_set hands 0 v both is in
      let t = parts_set (set hands 0 both) other w spent at in
      record {
        once = once_merged hands v w both spent other items is at apart refl refl refl kept.once;
        whole = omega (arith, kept.whole);
        idle = idle_set (set hands 0 both) other spent (λ _. refl) (idle_set hands 0 both (λ none. absurd (omega arith)) kept.idle);
      }

  -- the owner looks

  learns : (v : Hand T) → Learns NoneIsLost 0 v (IsAccountOf v)
  learns v items [] kept is = absurd (some-ne-none v (sym is))
  learns v items (owner ∷ others) kept is =
      let same : owner ≡ v = cc in
      let once : IsPermutation owner.pushed ((owner.got ++ all_got others) ++ items) = kept.once in
      record {
        stolen = all_got others;
        once = rw same at once;
        all = λ whole. (let mine : owner.parts ≡ v.parts = ap (λ (h : Hand T). h.parts) same in
            let none : parts_of others ≡ 0 = omega (arith, kept.whole, whole) in
            got_none others none kept.idle.1);
      }

  -- the owner's steps, at its place

  pub pushes_at : (party : ℕ) (v : Hand T) (xs : List T) → party ≡ 0 → 0 < v.parts → Pushes NoneIsLost party v xs (λ w. w ≡ hand v.parts (v.pushed ++ xs) v.got)
  pushes_at party v xs first part = rw first (pushes v xs part)

  pub forks_at : (party : ℕ) (v : Hand T) → party ≡ 0 → 1 < v.parts → Forks NoneIsLost party v (hand (v.parts - 1) v.pushed v.got) (hand 1 [] [])
  forks_at party v first parts = rw first (forks v parts)

  pub merges_at : (party : ℕ) (v : Hand T) (other : ℕ) (w : Hand T) → party ≡ 0 → 0 < v.parts → Merges NoneIsLost party v other w (hand (v.parts + w.parts) v.pushed (v.got ++ w.got)) (hand 0 [] [])
  merges_at party v other w first part = rw first (merges v other w part)

  pub learns_at : (party : ℕ) (v : Hand T) → party ≡ 0 → Learns NoneIsLost party v (IsAccountOf v)
  learns_at party v first = rw first (learns v)

  -- a party finds the deque empty

  pub finds : (party : ℕ) (v : Hand T) → Finds NoneIsLost party v (FoundNone v)
  finds party v hands kept is = record { hands = hands; party = party; is = is; empty = kept }
