-- While the prologue's thread can move no other can, and once it is over it stays so.
use Rattle.std.proofs.Common.{◌≡◌, ℕ, true, inl, inr, Some, None, sym, ◌∙◌, ap, subst}
use Rattle.std.specs.Option.{option_map}
use Rattle.std.proofs.lemmas.Bool.{cases_eq}
use Rattle.std.proofs.lemmas.Option.{none-some}
use Rattle.tso_model.specs.Persistence.{IsOverAt, ThePrologueComesFirst}
use Rattle.tso_model.specs.Programs.{Program}
use Rattle.tso_model.specs.States.{State}
use Rattle.tso_model.specs.Steps.{Actor, move, perform, step, thread_of}
use Rattle.tso_model.proofs.Moves.{move_of}
use Rattle.tso_model.proofs.Waits.{is_over_at, over_is_still, over_other}
use Rattle.tso_model.proofs.WellFormed.{alone}

module _ {F : Type 0} (p : Program F) where
  still : (s : State F) (a : Actor) (j : ℕ) → IsOverAt p s j → thread_of a ≡ j → move p s a ≡ None
  still s a j over e = over_is_still p s a (subst (λ i. is_over_at p s i ≡ true) (sym e) over)

  stays_over : (s s' : State F) (b : Actor) (j : ℕ) → IsOverAt p s j → step p s b ≡ Some s' → IsOverAt p s' j
  stays_over s s' b j over e =
      let (m, em, is) = move_of p s s' b e in
      elim (cases_eq (thread_of b) j) [
        | inl same ↦ absurd (none-some m (sym (still s b j over same) ∙ em))
        | inr other ↦ subst (λ x. IsOverAt p x j) (sym is) (over_other p s (thread_of b) j m other ∙ over)
      ]

pub prologue_comes_first : (F : Type 0) → ThePrologueComesFirst F
prologue_comes_first F p size sound j q = record {
  alone = λ s s' s'' a b w ea eb x y.
      let (m, em, is) = move_of p s s' a x in
      let (n, en, is') = move_of p s s'' b y in
      alone p size sound s a b m n w (q ∙ ap Some (sym ea)) (λ e. eb (sym e ∙ ea)) em en;
  stays = λ s s' b over e. stays_over p s s' b j over e;
  still = λ s a over e. ap (option_map (perform s (thread_of a))) (still p s a j over e);
}
