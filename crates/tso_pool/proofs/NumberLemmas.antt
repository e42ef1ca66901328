-- The numbers of the states after chosen steps, one after another.
use Rattle.std.proofs.Common.{◌≡◌, ◌∙◌, ℕ, zero, suc, ◌+◌, ◌++◌, List, [], ◌∷◌, length, Option, None, Some, slice_get, refl, sym, ap, subst, arith}
use Rattle.std.specs.Prelude.{All}
use Rattle.std.specs.List.{AllZip}
use Rattle.std.proofs.lemmas.List.{length-append}
use Rattle.std.proofs.lemmas.List.Elements.{All-append, Contains-append_left, Contains-append_right}
use Rattle.std.proofs.lemmas.Option.{none-some, same_Some}
use Rattle.tso_choose.specs.declared.choice.Choice.{Choice}
use Rattle.tso_compact.specs.Plans.{IsStep}
use Rattle.tso_parts.proofs.Marked.{new_item, of_longer, old_item}
use Rattle.tso_pool.specs.Numbering.{AreNumbered, HasMoved, IsOfShard, near_of}
use Rattle.tso_pool.specs.declared.finished.Moves.{Moves}
use Rattle.tso_prog.specs.declared.client.Client.{Client}
use Rattle.tso_rec.specs.declared.record.End.TheVariants.{Choices}
use Rattle.tso_state.specs.declared.state.State.{State}
use Rattle.tso_table.specs.Ends.{AreNear, HasNear, IsMove, IsNamed, IsNear, IsNearOf}
use Rattle.tso_table.specs.Leading.{shard_of}
use Rattle.tso_table.specs.declared.number.Number.{Number}
use Rattle.tso_table.specs.declared.slot.Filed.{Filed}
use Rattle.tso_table.specs.declared.slot.Near.{Near}

-- the end with these numbers
abbrev pub filed_with : List Choice → List Number → Filed
filed_with choices numbers = record { end = Choices choices; numbers = numbers }

none_near : (c : Client) (k : ℕ) (s : State) (choices : List Choice) → AreNear c k s (filed_with choices []) []
none_near c k s choices = record {
  only = λ i d lt. absurd (omega (arith, lt));
  every = λ i x n move. absurd (none-some n move.number);
}

pub none_numbered : (c : Client) (k : ℕ) (s : State) (choices : List Choice) (m : Moves) → m.numbers ≡ [] → m.near.items ≡ [] → AreNumbered c k s choices m
none_numbered c k s choices m numbers near = record {
  named = λ i x n here at. absurd (none-some n (sym (ap (λ (xs : List Number). slice_get xs i) numbers) ∙ at));
  near =
      let P : List Number → Type 0 = λ ns. AreNear c k s (filed_with choices ns) m.near.items in
      let Q : List Near → Type 0 = λ ms. AreNear c k s (filed_with choices []) ms in
      subst P (sym numbers) (subst Q (sym near) (none_near c k s choices));
}

module _ (c : Client) (k : ℕ) (s : State) (choices : List Choice) (numbers : List Number) (near : List Near) (x : Choice) (n : Number) (after : State) (step : IsStep c s x.actor after) (shard : n.shard ≡ shard_of after) (here : slice_get choices (length numbers) ≡ Some x) where
  move_on : (i : ℕ) (y : Choice) (m : Number) → IsMove k (filed_with choices numbers) i y m → IsMove k (filed_with choices (numbers ++ n ∷ [])) i y m
  move_on i y m move = record { choice = move.choice; number = old_item numbers n m i move.number; shard = move.shard }

  near_on : (m : Near) → IsNearOf c k s (filed_with choices numbers) m → IsNearOf c k s (filed_with choices (numbers ++ n ∷ [])) m
  near_on m of = record { index = of.index; choice = of.choice; number = of.number; move = move_on of.index of.choice of.number of.move; near = of.near }

  named_on : ((i : ℕ) (y : Choice) (m : Number) → slice_get choices i ≡ Some y → slice_get numbers i ≡ Some m → IsNamed c s y m)
      → (i : ℕ) (y : Choice) (m : Number) → slice_get choices i ≡ Some y → slice_get (numbers ++ n ∷ []) i ≡ Some m → IsNamed c s y m
  named_on old i y m at number = of_longer numbers n m i number
      (λ e. old i y m at e)
      (λ last same.
      let one : x ≡ y = same_Some x y (sym here ∙ ap (slice_get choices) (sym last) ∙ at) in
      let P : Choice → Type 0 = λ z. IsNamed c s z m in
      let Q : Number → Type 0 = λ z. IsNamed c s x z in
      subst P one (subst Q same (record { after = after; step = step; shard = shard })))

  last_move : n.shard ≡ k → IsMove k (filed_with choices (numbers ++ n ∷ [])) (length numbers) x n
  last_move own = record { choice = here; number = new_item numbers n; shard = own }

  last_near : (t : State) → t ≡ after → IsNear c s x n (record { place = n.place; state = t })
  last_near t same = let P : State → Type 0 = λ z. IsStep c s x.actor z in record { place = refl; step = subst P (sym same) step }

  only_with : (t : State) → (shard_of after ≡ k) × (t ≡ after) → IsNearOf c k s (filed_with choices (numbers ++ n ∷ [])) (record { place = n.place; state = t })
  only_with t (own, same) = record { index = length numbers; choice = x; number = n; move = last_move (shard ∙ own); near = last_near t same }

  one_only : (P : Near → Type 0) (m : Near) → P m → All P (m ∷ [])
  one_only P m p zero d lt = p
  one_only P m p (suc i) d lt = absurd (omega (arith, lt))

  only_on : (copy : Option State) → IsOfShard k after copy → All (IsNearOf c k s (filed_with choices (numbers ++ n ∷ []))) (near_of n copy)
  only_on None copied = λ i d lt. absurd (omega (arith, lt))
  only_on (Some t) copied = one_only (IsNearOf c k s (filed_with choices (numbers ++ n ∷ []))) (record { place = n.place; state = t }) (only_with t copied)

  has_on : (more : List Near) (y : Choice) (m : Number) → HasNear c s y m near → HasNear c s y m (near ++ more)
  has_on more y m has = record { one = has.one; among = Contains-append_left near more has.one has.among; is = has.is }

  has_last : (copy : Option State) → IsOfShard k after copy → n.shard ≡ k → HasNear c s x n (near ++ near_of n copy)
  has_last None copied own = absurd (copied (sym shard ∙ own))
  has_last (Some t) copied own = record {
    one = record { place = n.place; state = t };
    among = Contains-append_right near (near_of n (Some t)) (record { place = n.place; state = t }) (0, omega arith, refl);
    is = last_near t copied.1;
  }

  every_on : (copy : Option State) → IsOfShard k after copy → AreNear c k s (filed_with choices numbers) near
      → (i : ℕ) (y : Choice) (m : Number) → IsMove k (filed_with choices (numbers ++ n ∷ [])) i y m → HasNear c s y m (near ++ near_of n copy)
  every_on copy copied old i y m move = of_longer numbers n m i move.number
      (λ e. has_on (near_of n copy) y m (old.every i y m (record { choice = move.choice; number = e; shard = move.shard })))
      (λ last same.
      let one : x ≡ y = same_Some x y (sym here ∙ ap (slice_get choices) (sym last) ∙ move.choice) in
      let own : n.shard ≡ k = ap (λ (z : Number). z.shard) same ∙ move.shard in
      let P : Choice → Type 0 = λ z. HasNear c s z m (near ++ near_of n copy) in
      let Q : Number → Type 0 = λ z. HasNear c s x z (near ++ near_of n copy) in
      subst P one (subst Q same (has_last copy copied own)))

  are_near_on : (copy : Option State) → IsOfShard k after copy → AreNear c k s (filed_with choices numbers) near → AreNear c k s (filed_with choices (numbers ++ n ∷ [])) (near ++ near_of n copy)
  are_near_on copy copied old = record {
    only = All-append (IsNearOf c k s (filed_with choices (numbers ++ n ∷ []))) near (near_of n copy) (λ i d lt. near_on _ (old.only i d lt)) (only_on copy copied);
    every = every_on copy copied old;
  }

-- one more number
pub numbered_on : (c : Client) (k : ℕ) (s : State) (choices : List Choice) (old new : Moves) (x : Choice) → slice_get choices (length old.numbers) ≡ Some x → AreNumbered c k s choices old
    → HasMoved c k s x.actor old new → AreNumbered c k s choices new
numbered_on c k s choices old new x here are moved = record {
  named =
      let P : List Number → Type 0 = λ ns. (i : ℕ) (y : Choice) (m : Number) → slice_get choices i ≡ Some y → slice_get ns i ≡ Some m → IsNamed c s y m in
      subst P (sym moved.numbers) (named_on c k s choices old.numbers old.near.items x moved.number moved.after moved.step moved.shard here are.named);
  near =
      let P : List Number → Type 0 = λ ns. AreNear c k s (filed_with choices ns) new.near.items in
      let Q : List Near → Type 0 = λ ms. AreNear c k s (filed_with choices (old.numbers ++ moved.number ∷ [])) ms in
      subst P (sym moved.numbers) (subst Q (sym moved.near) (are_near_on c k s choices old.numbers old.near.items x moved.number moved.after moved.step moved.shard here moved.own moved.is_own are.near));
}

pub count_on : (c : Client) (k : ℕ) (s : State) (old new : Moves) (x : Choice) → HasMoved c k s x.actor old new → length new.numbers ≡ length old.numbers + 1
count_on c k s old new x moved = ap (λ (ns : List Number). length ns) moved.numbers ∙ length-append old.numbers (moved.number ∷ [])

-- a number for each
pub all_named : (c : Client) (s : State) (choices : List Choice) (numbers : List Number) → length numbers ≡ length choices
    → ((i : ℕ) (x : Choice) (n : Number) → slice_get choices i ≡ Some x → slice_get numbers i ≡ Some n → IsNamed c s x n) → AllZip (IsNamed c s) choices numbers
all_named c s [] [] same each = tt
all_named c s [] (n ∷ numbers) same each = absurd (omega (arith, same))
all_named c s (x ∷ choices) [] same each = absurd (omega (arith, same))
all_named c s (x ∷ choices) (n ∷ numbers) same each = (each 0 x n refl refl, all_named c s choices numbers (omega (arith, same)) (λ i y m a b. each (suc i) y m a b))
