-- What a block cut at rising ends holds, with a list more and with one less.
use Rattle.std.proofs.Common.{◌≡◌, ◌∙◌, ℕ, zero, suc, ◌+◌, ◌-◌, ◌<◌, ◌≤◌, ◌++◌, ◌∷◌, List, [], length, get_or, take, drop, Option, Some, None, true, refl, sym, ap, subst, arith, length-append, length-drop, replicate}
use Rattle.std.specs.Prelude.{option_to_list, is_some, slice_get, slice_index, slice_range}
use Rattle.std.proofs.Math.Seq.{drop-append-add, drop-append_seam, take-append_seam}
use Rattle.std.proofs.lemmas.List.{drop-replicate, drop-take, get_or_default, length-replicate, length-take-le, take-take, take_all, take_at}
use Rattle.tso_list.specs.Cuts.{cut, IsLonger, IsRising, start_at}

pub length-cut : (from : ℕ) (ends bytes : List ℕ) → length (cut from ends bytes) ≡ length ends
length-cut from [] bytes = refl
length-cut from (end ∷ ends) bytes = ap suc (length-cut end ends bytes)

-- a list starts where the one before it ends
pub start_at-suc : (from : ℕ) (ends : List ℕ) (n : ℕ) → n < length ends → start_at from ends (suc n) ≡ slice_index ends n
start_at-suc from [] n h = absurd (omega arith)
start_at-suc from (end ∷ []) zero h = refl
start_at-suc from (end ∷ next ∷ ends) zero h = refl
start_at-suc from (end ∷ ends) (suc n) h = start_at-suc end ends n (omega arith)

pub start_at-zero : (from : ℕ) (ends : List ℕ) → start_at from ends 0 ≡ from
start_at-zero from [] = refl
start_at-zero from (end ∷ ends) = refl

pub rising_more : (from : ℕ) (ends : List ℕ) (last : ℕ) → IsRising from ends last → from ≤ last
rising_more from [] last r = omega (arith, r)
rising_more from (end ∷ ends) last r = let h = rising_more end ends last r.1 in omega (arith, r.0, h)

-- each list is inside
pub start_le_end : (from : ℕ) (ends : List ℕ) (last n : ℕ) → IsRising from ends last → n < length ends → start_at from ends n ≤ slice_index ends n
start_le_end from [] last n r h = absurd (omega arith)
start_le_end from (end ∷ ends) last zero r h = r.0
start_le_end from (end ∷ ends) last (suc n) r h = start_le_end end ends last n r.1 (omega arith)

pub end_le_last : (from : ℕ) (ends : List ℕ) (last n : ℕ) → IsRising from ends last → n < length ends → slice_index ends n ≤ last
end_le_last from [] last n r h = absurd (omega arith)
end_le_last from (end ∷ ends) last zero r h = rising_more end ends last r.1
end_le_last from (end ∷ ends) last (suc n) r h = end_le_last end ends last n r.1 (omega arith)

pub cut_get : (from : ℕ) (ends bytes : List ℕ) (n : ℕ) → n < length ends → slice_get (cut from ends bytes) n ≡ Some (slice_range bytes (start_at from ends n) (slice_index ends n))
cut_get from [] bytes n h = absurd (omega arith)
cut_get from (end ∷ ends) bytes zero h = refl
cut_get from (end ∷ ends) bytes (suc n) h = cut_get end ends bytes n (omega arith)

-- ---- one end more

pub start_at-last : (from : ℕ) (ends : List ℕ) (last : ℕ) → IsRising from ends last → start_at from ends (length ends) ≡ last
start_at-last from [] last r = r
start_at-last from (end ∷ ends) last r = start_at-last end ends last r.1

pub rising_on : (from : ℕ) (ends : List ℕ) (last next : ℕ) → IsRising from ends last → last ≤ next → IsRising from (ends ++ next ∷ []) next
rising_on from [] last next r h = (omega (arith, r), refl)
rising_on from (end ∷ ends) last next r h = (r.0, rising_on end ends last next r.1 h)

pub rising_off : (from : ℕ) (ends : List ℕ) (end last : ℕ) → IsRising from (ends ++ end ∷ []) last → IsRising from ends (start_at from ends (length ends))
rising_off from [] end last r = refl
rising_off from (x ∷ ends) end last r = (r.0, rising_off x ends end last r.1)

pub start_le_last : (from : ℕ) (ends : List ℕ) (end last : ℕ) → IsRising from (ends ++ end ∷ []) last → start_at from ends (length ends) ≤ last
start_le_last from [] end last r = rising_more from (end ∷ []) last r
start_le_last from (x ∷ ends) end last r = start_le_last x ends end last r.1

pub cut_on : (from : ℕ) (ends : List ℕ) (end : ℕ) (bytes : List ℕ) → cut from (ends ++ end ∷ []) bytes ≡ cut from ends bytes ++ slice_range bytes (start_at from ends (length ends)) end ∷ []
cut_on from [] end bytes = refl
cut_on from (x ∷ ends) end bytes = ap (λ (c : List (List ℕ)). slice_range bytes from x ∷ c) (cut_on x ends end bytes)

-- ---- other bytes behind the last end

range_taken : (bytes : List ℕ) (a b n : ℕ) → a ≤ b → b ≤ n → slice_range (take n bytes) a b ≡ slice_range bytes a b
range_taken bytes a b n h k =
    let m = n - a in
    let e : n ≡ a + m = omega arith in
    let f : drop a (take n bytes) ≡ take m (drop a bytes) = ap (λ (x : ℕ). drop a (take x bytes)) e ∙ drop-take a m bytes in
    ap (λ (x : List ℕ). take (b - a) x) f ∙ take-take (b - a) m (drop a bytes) (omega arith)

pub cut_taken : (from : ℕ) (ends : List ℕ) (last : ℕ) (bytes : List ℕ) → IsRising from ends last → cut from ends (take last bytes) ≡ cut from ends bytes
cut_taken from [] last bytes r = refl
cut_taken from (end ∷ ends) last bytes r =
    let e = range_taken bytes from end last r.0 (rising_more end ends last r.1) in
    let f = cut_taken end ends last bytes r.1 in
    cc

-- ---- a list more, and one less

pub cut_pushed : (ends bytes list : List ℕ) → IsRising 0 ends (length bytes) → cut 0 (ends ++ length (bytes ++ list) ∷ []) (bytes ++ list) ≡ cut 0 ends bytes ++ list ∷ []
cut_pushed ends bytes list r =
    let n = length bytes in
    let at : start_at 0 ends (length ends) ≡ n = start_at-last 0 ends n r in
    let old : cut 0 ends (bytes ++ list) ≡ cut 0 ends bytes = sym (cut_taken 0 ends n (bytes ++ list) r) ∙ ap (cut 0 ends) (take-append_seam bytes list) in
    let rest : drop n (bytes ++ list) ≡ list = drop-append_seam bytes list in
    let new : slice_range (bytes ++ list) n (length (bytes ++ list)) ≡ list = ap (λ (x : List ℕ). take (length (bytes ++ list) - n) x) rest ∙ take_all (length (bytes ++ list) - n) list (omega (arith, length-append bytes list)) in
    let step = cut_on 0 ends (length (bytes ++ list)) (bytes ++ list) in
    let there : slice_range (bytes ++ list) (start_at 0 ends (length ends)) (length (bytes ++ list)) ≡ list = ap (λ (x : ℕ). slice_range (bytes ++ list) x (length (bytes ++ list))) at ∙ new in
    cc

pub rising_pushed : (ends bytes list : List ℕ) → IsRising 0 ends (length bytes) → IsRising 0 (ends ++ length (bytes ++ list) ∷ []) (length (bytes ++ list))
rising_pushed ends bytes list r = rising_on 0 ends (length bytes) (length (bytes ++ list)) r (omega (arith, length-append bytes list))

module _ (es bytes : List ℕ) (end : ℕ) where
  cut_off : IsRising 0 (es ++ end ∷ []) (length bytes) → cut 0 es (take (start_at 0 es (length es)) bytes) ≡ take (length (cut 0 (es ++ end ∷ []) bytes) - 1) (cut 0 (es ++ end ∷ []) bytes)
  cut_off r =
      let at = start_at 0 es (length es) in
      let item = slice_range bytes at end in
      let same : cut 0 es (take at bytes) ≡ cut 0 es bytes = cut_taken 0 es at bytes (rising_off 0 es end (length bytes) r) in
      let step : cut 0 (es ++ end ∷ []) bytes ≡ cut 0 es bytes ++ item ∷ [] = cut_on 0 es end bytes in
      let long : length (cut 0 es bytes ++ item ∷ []) ≡ length (cut 0 es bytes) + 1 = length-append (cut 0 es bytes) (item ∷ []) in
      let less : length (cut 0 (es ++ end ∷ []) bytes) - 1 ≡ length (cut 0 es bytes) = let h = ap length step in omega (arith, h, long) in
      let front : take (length (cut 0 es bytes)) (cut 0 es bytes ++ item ∷ []) ≡ cut 0 es bytes = take-append_seam (cut 0 es bytes) (item ∷ []) in
      same ∙ sym front ∙ cc

  rising_cut_off : IsRising 0 (es ++ end ∷ []) (length bytes) → IsRising 0 es (length (take (start_at 0 es (length es)) bytes))
  rising_cut_off r =
      let at = start_at 0 es (length es) in
      let e : length (take at bytes) ≡ at = length-take-le at bytes (start_le_last 0 es end (length bytes) r) in
      subst (λ (n : ℕ). IsRising 0 es n) (sym e) (rising_off 0 es end (length bytes) r)

-- what a pop of the ends gives
pub cut_popped : (ends es bytes : List ℕ) (o : Option ℕ) → ends ≡ es ++ option_to_list o → is_some o ≡ true → IsRising 0 ends (length bytes) → cut 0 es (take (start_at 0 es (length es)) bytes) ≡ take (length (cut 0 ends bytes) - 1) (cut 0 ends bytes)
cut_popped ends es bytes None e h r = cc
cut_popped ends es bytes (Some end) e h r = rw e (cut_off es bytes end (rw e at r))

pub rising_popped : (ends es bytes : List ℕ) (o : Option ℕ) → ends ≡ es ++ option_to_list o → is_some o ≡ true → IsRising 0 ends (length bytes) → IsRising 0 es (length (take (start_at 0 es (length es)) bytes))
rising_popped ends es bytes None e h r = cc
rising_popped ends es bytes (Some end) e h r = rising_cut_off es bytes end (rw e at r)

-- ---- a list by its number

-- what is known of two places in the block, where the list with this number starts and ends
pub record IsPlace (ends bytes : List ℕ) (n start end : ℕ) : Type 0 where
  pub rising : start ≤ end
  pub within : end ≤ length bytes
  pub got : slice_get (cut 0 ends bytes) n ≡ Some (slice_range bytes start end)

pub place_is : (ends bytes : List ℕ) (n start end : ℕ) → IsRising 0 ends (length bytes) → n < length ends → start ≡ start_at 0 ends n → end ≡ get_or ends n end → IsPlace ends bytes n start end
place_is ends bytes n start end r h s e =
    let at : end ≡ slice_index ends n = e ∙ get_or_default ends n end 0 h in
    record {
      rising = let k = start_le_end 0 ends (length bytes) n r h in omega (arith, k, s, at);
      within = let k = end_le_last 0 ends (length bytes) n r h in omega (arith, k, at);
      got = cut_get 0 ends bytes n h ∙ sym (ap (λ (x : ℕ). Some (slice_range bytes x end)) s ∙ ap (λ (x : ℕ). Some (slice_range bytes (start_at 0 ends n) x)) at);
    }

-- what a push of an end gives, where the bytes are there
module _ (ends bytes list ends' bytes' : List ℕ) (len : ℕ) where
  pub view_pushed : IsRising 0 ends (length bytes) → bytes' ≡ bytes ++ list → len ≡ length bytes' → ends' ≡ ends ++ len ∷ [] → cut 0 ends' bytes' ≡ cut 0 ends bytes ++ list ∷ []
  view_pushed r b l e = rw (e, l, b) (cut_pushed ends bytes list r)

  pub still_rising : IsRising 0 ends (length bytes) → bytes' ≡ bytes ++ list → len ≡ length bytes' → ends' ≡ ends ++ len ∷ [] → IsRising 0 ends' (length bytes')
  still_rising r b l e = rw (e, l, b) (rising_pushed ends bytes list r)

-- the list with this number is there once more, and longer
pub is_longer : (ends bytes : List ℕ) (n start end last : ℕ) (new : List (List ℕ)) → IsPlace ends bytes n start end → n < length ends → new ≡ cut 0 ends bytes ++ (slice_range bytes start end ++ last ∷ []) ∷ [] → IsLonger (cut 0 ends bytes) n last new
is_longer ends bytes n start end last new p h e = record {
  there = rw length-cut h;
  added = λ list at.
      let same : Some list ≡ Some (slice_range bytes start end) = sym at ∙ p.got in
      let item : slice_range bytes start end ≡ list = cc in
      e ∙ ap (λ (x : List ℕ). cut 0 ends bytes ++ (x ++ last ∷ []) ∷ []) item;
}

-- what a pop of the ends gives, where the bytes behind the last end are gone
module _ (ends es bytes bytes' : List ℕ) (o : Option ℕ) (n at : ℕ) where
  pub view_popped : IsRising 0 ends (length bytes) → ends ≡ es ++ option_to_list o → is_some o ≡ true → n ≡ length es → at ≡ start_at 0 es n → bytes' ≡ take at bytes → cut 0 es bytes' ≡ take (length (cut 0 ends bytes) - 1) (cut 0 ends bytes)
  view_popped r e h l a b = rw (b, a, l) (cut_popped ends es bytes o e h r)

  pub rising_still : IsRising 0 ends (length bytes) → ends ≡ es ++ option_to_list o → is_some o ≡ true → n ≡ length es → at ≡ start_at 0 es n → bytes' ≡ take at bytes → IsRising 0 es (length bytes')
  rising_still r e h l a b = rw (b, a, l) (rising_popped ends es bytes o e h r)

-- ---- bytes copied to the end

-- room is made behind the bytes, and then a part of them is copied to its front
module _ (old : List ℕ) (start end at len last : ℕ) (grown written : List ℕ) where
  pub copied : start ≤ end → end ≤ length old → at ≡ len → len ≡ length old → grown ≡ take (at + (end - start) + 1) old ++ replicate (at + (end - start) + 1 - len) last → written ≡ take at grown ++ (slice_range grown start end ++ drop (at + (end - start)) grown) → take (length grown) (written ++ drop (length written) grown) ≡ old ++ (slice_range old start end ++ last ∷ [])
  copied h k b l g w =
      let n = end - start in
      let a : at ≡ length old = b ∙ l in
      let rest : take (at + n + 1) old ≡ old = take_all (at + n + 1) old (omega arith) in
      let more : at + n + 1 - len ≡ n + 1 = omega arith in
      let is : grown ≡ old ++ replicate (n + 1) last = g ∙ ap (λ (x : List ℕ). x ++ replicate (at + n + 1 - len) last) rest ∙ ap (λ (x : ℕ). old ++ replicate x last) more in
      let front : take at grown ≡ old = ap (take at) is ∙ take_at old (replicate (n + 1) last) at (sym a) in
      let part : slice_range grown start end ≡ slice_range old start end = sym (range_taken grown start end at h (omega arith)) ∙ ap (λ (x : List ℕ). slice_range x start end) front in
      let one : n + 1 - n ≡ 1 = omega arith in
      let back : drop (at + n) grown ≡ last ∷ [] = ap (drop (at + n)) is ∙ ap (λ (x : ℕ). drop (x + n) (old ++ replicate (n + 1) last)) a ∙ drop-append-add old (replicate (n + 1) last) n ∙ drop-replicate n (n + 1) last ∙ ap (λ (x : ℕ). replicate x last) one in
      let made : written ≡ old ++ (slice_range old start end ++ last ∷ []) = cc in
      let count : length (slice_range old start end) ≡ n = length-take-le n (drop start old) (omega (arith, length-drop start old)) in
      let all : length written ≡ length grown =
      let x : length written ≡ length old + (n + 1) = ap length made ∙ simp length-append (omega (arith, count)) in
      let y : length grown ≡ length old + (n + 1) = ap length is ∙ simp (length-append, length-replicate) refl in
      x ∙ sym y
      in
      take_at written (drop (length written) grown) (length grown) all ∙ made

-- ---- for callers

-- after a pop, where the last list is known
pub popped : (xs : List (List ℕ)) (y : List ℕ) (old new : List (List ℕ)) → old ≡ xs ++ y ∷ [] → new ≡ take (length old - 1) old → new ≡ xs
popped xs y old new e p =
    let less : length (xs ++ y ∷ []) - 1 ≡ length xs = omega (arith, length-append xs (y ∷ [])) in
    p ∙ ap (λ (v : List (List ℕ)). take (length v - 1) v) e ∙ ap (λ (n : ℕ). take n (xs ++ y ∷ [])) less ∙ take-append_seam xs (y ∷ [])
