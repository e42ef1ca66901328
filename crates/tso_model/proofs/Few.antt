-- At most one label follows for each core and for each buffer.
use Rattle.std.proofs.Common.{◌≡◌, ◌⊎◌, ℕ, Some, refl, sym, ◌∙◌, ap, inl, inr}
use Rattle.std.proofs.lemmas.Option.{same_Some}
use Rattle.tso_model.specs.Bounds.{EndsAreDecided, IsOneEach, IsTwoEach, LabelsAreFew}
use Rattle.tso_model.specs.Labels.{By, Call, Drain, Fault, Fence, Kind, Label, Lock, Machine, Read, Reg, Return, Step, Unlock, Write}
use Rattle.tso_model.specs.Offers.{Next, actor_of, offer}
use Rattle.tso_model.specs.Programs.{Program}
use Rattle.tso_model.specs.Steps.{Drains, Exec, thread_of}
use Rattle.tso_model.proofs.Offered.{decide, offered, whose}

kind_of : Label → Kind
kind_of (By i k) = k

-- whose label it is: its thread's core's, or its buffer's
side : (i : ℕ) (k : Kind) → (actor_of (By i k) ≡ Exec i) ⊎ (actor_of (By i k) ≡ Drains i)
side i (Drain p v) = inr refl
side i (Call c) = inl refl
side i Reg = inl refl
side i (Read p v) = inl refl
side i (Write p v) = inl refl
side i Fence = inl refl
side i Lock = inl refl
side i Unlock = inl refl
side i (Return a) = inl refl
side i (Fault n) = inl refl

module _ {F : Type 0} where
  one_each : (P : Program F) (m : Machine F) → IsOneEach P m
  one_each P m (By i k) (By j k') a b e x y =
      let p : offer P m (actor_of (By i k)) ≡ Some (record { kind = k; machine = a }) = offered P m i x.0 x.1 x.2 in
      let q : offer P m (actor_of (By j k')) ≡ Some (record { kind = k'; machine = b }) = offered P m j y.0 y.1 y.2 in
      let r = same_Some _ _ (sym p ∙ (ap (offer P m) e ∙ q)) in
      let t : i ≡ j = sym (whose i k) ∙ (ap thread_of e ∙ whose j k') in
      let u : k ≡ k' = ap (λ (n : Next F). n.kind) r in
      ((λ n. By (t n) (u n)), ap (λ (n : Next F). n.machine) r)

  same_kind : (P : Program F) (m : Machine F) (i : ℕ) (x y : Kind) (a b : Machine F) → Step P m (By i x) a → Step P m (By i y) b → actor_of (By i x) ≡ actor_of (By i y) → x ≡ y
  unfolding kind_of
  same_kind P m i x y a b s t e = ap kind_of (one_each P m (By i x) (By i y) a b e s t).0

  two_each : (P : Program F) (m : Machine F) → IsTwoEach P m
  two_each P m i x y z a b c s t u = elim (side i x) [
    | inl e ↦ elim (side i y) [
      | inl f ↦ inl (same_kind P m i x y a b s t (e ∙ sym f))
      | inr f ↦ elim (side i z) [ inl g ↦ inr (inr (same_kind P m i x z a c s u (e ∙ sym g))) | inr g ↦ inr (inl (same_kind P m i y z b c t u (f ∙ sym g))) ]
    ]
    | inr e ↦ elim (side i y) [
      | inl f ↦ elim (side i z) [ inl g ↦ inr (inl (same_kind P m i y z b c t u (f ∙ sym g))) | inr g ↦ inr (inr (same_kind P m i x z a c s u (e ∙ sym g))) ]
      | inr f ↦ inl (same_kind P m i x y a b s t (e ∙ sym f))
    ]
  ]

  pub labels_are_few : LabelsAreFew F
  labels_are_few P m = record { one = one_each P m; two = two_each P m }

  pub ends_are_decided : EndsAreDecided F
  ends_are_decided P m = decide P m
