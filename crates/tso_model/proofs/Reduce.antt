-- Where each kept state at which an actor has a step has a nonempty persistent list of choices whose steps lead to
-- kept states, each end that can be reached is met by a kept end that is at least as strict.
use Rattle.std.proofs.Common.{◌≡◌, ℕ, zero, suc, List, [], ◌∷◌, ◌++◌, length, length-append, Option, Some, None, ◌⊎◌, inl, inr, refl, sym, ◌∙◌, ap, subst, arith}
use Rattle.std.proofs.lemmas.Option.{none-some, same_Some}
use Rattle.tso_model.specs.Reduce.{GoesFirst, Has, NoneOf, Over, Persistent, Steps}
use Rattle.tso_model.specs.Strictness.{AtLeast}

-- a list has none of the chosen, or a first of them
pub record First {A : Type 0} (chosen xs : List A) : Type 0 where
  pub before : List A
  pub one : A
  pub after : List A
  pub is_chosen : Has chosen one
  pub none_before : NoneOf chosen before
  pub splits : xs ≡ before ++ one ∷ after

pub first_or_none : {A : Type 0} → ((chosen : List A) (a : A) → Has chosen a ⊎ (Has chosen a → ⊥)) →
    (chosen xs : List A) → NoneOf chosen xs ⊎ First chosen xs
first_or_none dec chosen [] = inl tt
first_or_none {A} dec chosen (x ∷ xs) = elim (dec chosen x) [
  | inl h ↦ inr (record { before = []; one = x; after = xs; is_chosen = h; none_before = tt; splits = refl })
  | inr h ↦ elim (first_or_none dec chosen xs) [ inl n ↦ inl (h, n) | inr f ↦ inr (record { before = x ∷ f.before; one = f.one; after = f.after; is_chosen = f.is_chosen; none_before = (h, f.none_before); splits = ap (λ ys. x ∷ ys) f.splits }) ]
]

module _ {S A : Type 0} (step : S → A → Option S) where
  pub steps_append : (xs ys : List A) (s m t : S) → Steps step s xs m → Steps step m ys t → Steps step s (xs ++ ys) t
  steps_append [] ys s m t e r = rw e r
  steps_append (x ∷ xs) ys s m t (n, e, r) q = (n, e, steps_append xs ys n m t r q)

  pub steps_split : (xs ys : List A) (s t : S) → Steps step s (xs ++ ys) t → (m : S) × Steps step s xs m × Steps step m ys t
  steps_split [] ys s t r = (s, refl, r)
  steps_split (x ∷ xs) ys s t (n, e, r) = let (m, q, p) = steps_split xs ys n t r in (m, (n, e, q), p)

  -- a chosen actor comes first in a persistent list's run
  pub first_moves : (AtLeast : S → S → Type 0) (chosen : List A) (s t : S) (before after : List A) (c : A) →
      Persistent step AtLeast s chosen → Has chosen c → NoneOf chosen before → Steps step s (before ++ c ∷ after) t →
      (s' : S) × (u : S) × (m : S) × (step s c ≡ Some s') × Steps step s' before u × AtLeast u m × Steps step m after t
  first_moves AtLeast chosen s t before after c p h n r =
      let (m, q, (m', e, rest)) = steps_split before (c ∷ after) s t r in
      let (t', s', u, et, es, ru, at) = p before m n q c h in
      (s', u, t', es, ru, at, (let same : m' ≡ t' = same_Some m' t' (sym e ∙ et) in rw same at rest))

-- What the theorem asks of the steps, of the order and of the kept states.
pub record Reduces {S A : Type 0} (step : S → A → Option S) (AtLeast : S → S → Type 0) (Kept : S → Type 0) : Type 0 where
  pub decide : (chosen : List A) (a : A) → Has chosen a ⊎ (Has chosen a → ⊥)
  pub same : (s : S) → AtLeast s s
  pub trans : (s t u : S) → AtLeast s t → AtLeast t u → AtLeast s u
  pub simulates : (s t t' : S) (a : A) → AtLeast s t → step t a ≡ Some t' → (s' : S) × (step s a ≡ Some s') × AtLeast s' t'
  pub as_ended : (s t : S) (a : A) → AtLeast s t → step t a ≡ None → step s a ≡ None
  pub choices : (s s' : S) (a : A) → Kept s → step s a ≡ Some s' →
      (c : A) × (rest : List A) × Persistent step AtLeast s (c ∷ rest) ×
      ((b : A) (s'' : S) → Has (c ∷ rest) b → step s b ≡ Some s'' → Kept s'')

module _ {S A : Type 0} (step : S → A → Option S) (AtLeast : S → S → Type 0) (Kept : S → Type 0) (g : Reduces step AtLeast Kept) where
  -- the stricter state does the same steps
  pub lifts : (xs : List A) (s t t' : S) → AtLeast s t → Steps step t xs t' → (s' : S) × Steps step s xs s' × AtLeast s' t'
  lifts [] s t t' h e = (s, refl, rw e at h)
  lifts (x ∷ xs) s t t' h (m, e, r) =
      let (n, en, hn) = g.simulates s t m x h e in
      let (s', rs, hs) = lifts xs n m t' hn r in
      (s', (n, en, rs), hs)

  -- the theorem, by the length of the list
  reduces_by : (n : ℕ) (xs : List A) (s t : S) → length xs ≡ n → Kept s → Steps step s xs t → Over step t →
      (r : S) × Kept r × Over step r × AtLeast r t
  reduces_by n [] s t l k r z = (s, k, rw r z, rw r (g.same t))
  reduces_by zero (x ∷ xs) s t l k r z = absurd (omega arith)
  reduces_by (suc n) (x ∷ xs) s t l k (m, e, r) z =
      let (c, rest, p, closed) = g.choices s m x k e in
      elim (first_or_none g.decide (c ∷ rest) (x ∷ xs)) [
        | inl none ↦
            let (t', s', u, et, es, ru, at) = p (x ∷ xs) t none (m, e, r) c (inl refl) in
            absurd (none-some t' (sym (z c) ∙ et))
        | inr f ↦
            let run : Steps step s (f.before ++ f.one ∷ f.after) t = let whole : Steps step s (x ∷ xs) t = (m, e, r) in subst (λ ys. Steps step s ys t) f.splits whole in
            let (s', u, w, es, ru, at, ra) = first_moves step AtLeast (c ∷ rest) s t f.before f.after f.one p f.is_chosen f.none_before run in
            let (v, rv, hv) = lifts f.after u w t at ra in
            let shorter : length (f.before ++ f.after) ≡ n = omega (arith, length-append f.before f.after, length-append f.before (f.one ∷ f.after), ap length f.splits) in
            let (r', kr, zr, hr) = reduces_by n (f.before ++ f.after) s' v shorter (closed f.one s' f.is_chosen es)
            (steps_append step f.before f.after s' u v ru rv) (λ a. g.as_ended v t a hv (z a)) in
            (r', kr, zr, g.trans r' v t hr hv)
      ]

  -- for a kept state s, each end that a state below it can reach is met by a kept end that is at least as strict
  pub reduces : (s s0 t : S) (xs : List A) → Kept s → AtLeast s s0 → Steps step s0 xs t → Over step t →
      (r : S) × Kept r × Over step r × AtLeast r t
  reduces s s0 t xs k h r z =
      let (v, rv, hv) = lifts xs s s0 t h r in
      let (r', kr, zr, hr) = reduces_by (length xs) xs s v refl k rv (λ a. g.as_ended v t a hv (z a)) in
      (r', kr, zr, g.trans r' v t hr hv)

-- WHERE CHOICES ARE PERSISTENT

-- A fact V of states at which each chosen actor has a step, which no unchosen actor's step ends, and at which each
-- chosen actor's step may come before each unchosen one's.
pub record StepsLeft {S A : Type 0} (step : S → A → Option S) (AtLeast : S → S → Type 0) (V : S → Type 0) (chosen : List A) : Type 0 where
  pub same : (s : S) → AtLeast s s
  pub trans : (s t u : S) → AtLeast s t → AtLeast t u → AtLeast s u
  pub simulates : (s t t' : S) (a : A) → AtLeast s t → step t a ≡ Some t' → (s' : S) × (step s a ≡ Some s') × AtLeast s' t'
  pub has_step : (s : S) (c : A) → V s → Has chosen c → (s' : S) × (step s c ≡ Some s')
  pub stays : (s s' : S) (b : A) → V s → (Has chosen b → ⊥) → step s b ≡ Some s' → V s'
  pub passes : (s x y : S) (c b : A) → V s → Has chosen c → (Has chosen b → ⊥) → step s b ≡ Some x → step x c ≡ Some y →
      (s' : S) × (u : S) × (step s c ≡ Some s') × (step s' b ≡ Some u) × AtLeast u y

module _ {S A : Type 0} (step : S → A → Option S) (AtLeast : S → S → Type 0) (V : S → Type 0) (chosen : List A) (g : StepsLeft step AtLeast V chosen) where
  lifts_left : (xs : List A) (s t t' : S) → AtLeast s t → Steps step t xs t' → (s' : S) × Steps step s xs s' × AtLeast s' t'
  lifts_left [] s t t' h e = (s, refl, rw e at h)
  lifts_left (x ∷ xs) s t t' h (m, e, r) =
      let (n, en, hn) = g.simulates s t m x h e in
      let (s', rs, hs) = lifts_left xs n m t' hn r in
      (s', (n, en, rs), hs)

  goes_first : (others : List A) (s t : S) (c : A) → V s → NoneOf chosen others → Steps step s others t → Has chosen c → GoesFirst step AtLeast s c others t
  goes_first [] s t c v n r h = let (s', e) = g.has_step s c v h in (s', s', s', rw (← r) e, e, refl, g.same s')
  goes_first (b ∷ rest) s t c v (nb, n) (x, e, r) h =
      let (t', y, w, et, ey, rw', at) = goes_first rest x t c (g.stays s x b v nb e) n r h in
      let (s', u, es, eu, hu) = g.passes s x y c b v h nb e ey in
      let (u', ru, hw) = lifts_left rest u y w hu rw' in
      (t', s', u', et, es, (u, eu, ru), g.trans u' w t' hw at)

  pub persistent : (s : S) → V s → Persistent step AtLeast s chosen
  persistent s v others t n r c h = goes_first others s t c v n r h
