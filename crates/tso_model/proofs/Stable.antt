-- Each reason stays as long as no chosen actor moves.
use Rattle.std.proofs.Common.{◌≡◌, ℕ, List, inl, inr, Some, sym, ◌∙◌, subst, arith}
use Rattle.std.specs.List.{slice_get}
use Rattle.std.proofs.lemmas.Bool.{cases_eq}
use Rattle.std.proofs.lemmas.Option.{none-some, same_Some}
use Rattle.tso_model.specs.Programs.{Program}
use Rattle.tso_model.specs.Reasons.{Future, Holds, InBuffer, IsFuture, Reason}
use Rattle.tso_model.specs.Reduce.{Has}
use Rattle.tso_model.specs.States.{Log, State, CompactThread}
use Rattle.tso_model.specs.Steps.{Access, Actor, Drains, Exec, Move, move, perform, step, thread_of}
use Rattle.tso_model.proofs.Moves.{NextKept, begun_other, move_other, step_is, thread_other}
use Rattle.tso_model.proofs.Places.{get_set_same}
use Rattle.tso_model.proofs.Reasons.{DrainOf, drains}

module _ {F : Type 0} (p : Program F) (W : State F → Type 0) (f : Future F) (laws : IsFuture p W f) (s : State F) (w : W s) (chosen : List Actor) (access : Access) (log : Log) where
  far_stays : (b : Actor) (m : Move F) (j : ℕ) → move p s b ≡ Some m → Holds p f s chosen access log j Reason.Far → Holds p f (perform s (thread_of b) m) chosen access log j Reason.Far
  far_stays b m j e h =
      let st : step p s b ≡ Some (perform s (thread_of b) m) = step_is p s b m e in
      grind (arith, λ (q : ℕ). laws.reads_shrink s (perform s (thread_of b) m) b j q w, λ (q : ℕ). laws.writes_shrink s (perform s (thread_of b) m) b j q w)

  inside_stays : (b : Actor) (m : Move F) (j : ℕ) → (Has chosen b → ⊥) → NextKept p s (perform s (thread_of b) m) (thread_of b) → move p s b ≡ Some m → Holds p f s chosen access log j Reason.Inside → Holds p f (perform s (thread_of b) m) chosen access log j Reason.Inside
  inside_stays b m j n kept e h c at = elim (h c at) [
    | inl chosen' ↦ inl chosen'
    | inr still ↦ elim (cases_eq (thread_of b) (thread_of c)) [
      | inl same ↦ elim (h b (same ∙ at)) [ inl has ↦ absurd (n has) | inr none ↦ absurd (none-some m (sym none ∙ e)) ]
      | inr other ↦ inr (move_other p s (thread_of b) c m other kept ∙ still)
    ]
  ]

  -- after the thread's own drain, d
  drain_stays : (j : ℕ) (m : Move F) → DrainOf s j m → Holds p f s chosen access log j Reason.Buffered → Holds p f (perform s j m) chosen access log j Reason.Buffered
  drain_stays j m d h = (
    h.0,
    λ t q here x.
        let after : slice_get (perform s j m).threads j ≡ Some (record { core = d.core; buffer = d.rest }) = rw d.is (get_set_same s.threads j _ _ d.was) in
        let is : record { core = d.core; buffer = d.rest } ≡ t = same_Some _ _ (sym after ∙ here) in
        h.1 _ q d.was (inr (subst (λ (y : CompactThread F). InBuffer y.buffer q) (sym is) x)),
  )

  buffered_stays : (b : Actor) (m : Move F) (j : ℕ) → (Has chosen b → ⊥) → move p s b ≡ Some m → Holds p f s chosen access log j Reason.Buffered → Holds p f (perform s (thread_of b) m) chosen access log j Reason.Buffered
  buffered_stays (Exec i) m j n e h = (h.0, λ t q here x. grind (arith, cases_eq i j, thread_other p s i j m, h.1 t q))
  buffered_stays (Drains i) m j n e h = elim (cases_eq i j) [
    | inl same ↦ rw same (drain_stays j m (rw same at (drains p s i m e)) h)
    | inr other ↦ (h.0, λ t q here x. grind (arith, thread_other p s i j m other, h.1 t q))
  ]

  no_return_stays : (b : Actor) (m : Move F) (j : ℕ) → move p s b ≡ Some m → Holds p f s chosen access log j Reason.NoReturn → Holds p f (perform s (thread_of b) m) chosen access log j Reason.NoReturn
  no_return_stays b m j e h = (h.0, h.1, λ t here. grind (arith, cases_eq (thread_of b) j, get_set_same, thread_other p s (thread_of b) j m, begun_other p s (thread_of b) j m))

  pub reason_stays : (r : Reason) (b : Actor) (m : Move F) (j : ℕ) → (Has chosen b → ⊥) → NextKept p s (perform s (thread_of b) m) (thread_of b) → move p s b ≡ Some m → Holds p f s chosen access log j r → Holds p f (perform s (thread_of b) m) chosen access log j r
  reason_stays Reason.Own b m j n kept e h = h
  reason_stays Reason.Far b m j n kept e h = far_stays b m j e h
  reason_stays Reason.Inside b m j n kept e h = inside_stays b m j n kept e h
  reason_stays Reason.Buffered b m j n kept e h = buffered_stays b m j n e h
  reason_stays Reason.Returns b m j n kept e h = h
  reason_stays Reason.NoReturn b m j n kept e h = no_return_stays b m j e h
