-- Each reading takes what the spelling gives: what is read is spelled so, and what is spelled so is read.
use Rattle.std.proofs.Common.{◌≡◌, ℕ, zero, suc, ◌^◌, ◌<◌, List, [], ◌∷◌, ◌++◌, length, Option, Some, None, refl, sym, ap, subst, ◌∙◌, append_assoc, arith}
use Rattle.std.specs.List.{flat_map, AllByRecursion}
use Rattle.tso_code.specs.Fields.{at2, at3, at4, items_at, list, list_at, ListFits}
use Rattle.tso_code.specs.Numbers.{◌>>=◌, Reading, number, number_at}

-- the value of a step that did not fail
pub bind_some : {A B : Type 0} (r : Option A) (f : A → Option B) (y : B) → (r >>= f) ≡ Some y → (x : A) × (r ≡ Some x) × (f x ≡ Some y)
bind_some (Some x) f y e = (x, refl, e)
bind_some None f y e = absurd cc

pub record IsCode {X : Type 0} (Fits : X → Type 0) (spell : X → List ℕ) (read : Reading X) : Type 0 where
  pub takes : (bytes : List ℕ) (x : X × List ℕ) → read bytes ≡ Some x → (bytes ≡ spell x.0 ++ x.1) × Fits x.0
  pub again : (x : X) (rest : List ℕ) → Fits x → read (spell x ++ rest) ≡ Some (x, rest)

-- ---- fields one after the other

pub two : {A B X : Type 0} {F : A → Type 0} {s : A → List ℕ} {r : Reading A} {G : B → Type 0} {t : B → List ℕ} {q : Reading B} → IsCode F s r → IsCode G t q
    → (make : A → B → X) (a : X → A) (b : X → B) → ((x : X) → make (a x) (b x) ≡ x) → ((y : A) (z : B) → a (make y z) ≡ y) → ((y : A) (z : B) → b (make y z) ≡ z)
    → IsCode (λ x. F (a x) × G (b x)) (λ x. s (a x) ++ t (b x)) (at2 make r q)
two {A} {B} {X} {F} {s} {r} {G} {t} {q} c d make a b whole first second = record {
  takes = λ bytes x e.
      let p = bind_some (r bytes) (λ y. q y.1 >>= λ z. Some (make y.0 z.0, z.1)) x e in
      let o = bind_some (q p.0.1) (λ z. Some (make p.0.0 z.0, z.1)) x p.2 in
      let u = c.takes bytes p.0 p.1 in
      let v = d.takes p.0.1 o.0 o.1 in
      let parts : bytes ≡ (s p.0.0 ++ t o.0.0) ++ o.0.1 = u.0 ∙ ap (λ (w : List ℕ). s p.0.0 ++ w) v.0 ∙ sym (append_assoc (s p.0.0) (t o.0.0) o.0.1) in
      let made : X × List ℕ = (make p.0.0 o.0.0, o.0.1) in
      let is : made ≡ x = cc in
      subst (λ (y : X × List ℕ). (bytes ≡ (s (a y.0) ++ t (b y.0)) ++ y.1) × (F (a y.0) × G (b y.0))) is
      (subst (λ (y : A). (bytes ≡ (s y ++ t (b made.0)) ++ o.0.1) × (F y × G (b made.0))) (sym (first p.0.0 o.0.0))
      (subst (λ (z : B). (bytes ≡ (s p.0.0 ++ t z) ++ o.0.1) × (F p.0.0 × G z)) (sym (second p.0.0 o.0.0)) (parts, (u.1, v.1))));
  again = λ x rest fits.
      ap (λ (w : List ℕ). at2 make r q w) (append_assoc (s (a x)) (t (b x)) rest)
      ∙ rw (c.again (a x) (t (b x) ++ rest) fits.0, d.again (b x) rest fits.1) (ap (λ (y : X). Some (y, rest)) (whole x));
}

pub three : {A B C X : Type 0} {F : A → Type 0} {s : A → List ℕ} {r : Reading A} {G : B → Type 0} {t : B → List ℕ} {q : Reading B} {H : C → Type 0} {u : C → List ℕ} {o : Reading C} → IsCode F s r → IsCode G t q → IsCode H u o
    → (make : A → B → C → X) (a : X → A) (b : X → B) (c : X → C) → ((x : X) → make (a x) (b x) (c x) ≡ x) → ((y : A) (z : B) (w : C) → a (make y z w) ≡ y) → ((y : A) (z : B) (w : C) → b (make y z w) ≡ z) → ((y : A) (z : B) (w : C) → c (make y z w) ≡ w)
    → IsCode (λ x. F (a x) × G (b x) × H (c x)) (λ x. s (a x) ++ (t (b x) ++ u (c x))) (at3 make r q o)
three {A} {B} {C} {X} {F} {s} {r} {G} {t} {q} {H} {u} {o} k l m make a b c whole first second third = record {
  takes = λ bytes x e.
      let p1 = bind_some (r bytes) (λ y. q y.1 >>= λ z. o z.1 >>= λ w. Some (make y.0 z.0 w.0, w.1)) x e in
      let p2 = bind_some (q p1.0.1) (λ z. o z.1 >>= λ w. Some (make p1.0.0 z.0 w.0, w.1)) x p1.2 in
      let p3 = bind_some (o p2.0.1) (λ w. Some (make p1.0.0 p2.0.0 w.0, w.1)) x p2.2 in
      let y = p1.0.0 in
      let z = p2.0.0 in
      let w = p3.0.0 in
      let t1 = k.takes bytes p1.0 p1.1 in
      let t2 = l.takes p1.0.1 p2.0 p2.1 in
      let t3 = m.takes p2.0.1 p3.0 p3.1 in
      let parts : bytes ≡ (s y ++ (t z ++ u w)) ++ p3.0.1 =
      t1.0 ∙ ap (λ (v : List ℕ). s y ++ v) (t2.0 ∙ ap (λ (v : List ℕ). t z ++ v) t3.0 ∙ sym (append_assoc (t z) (u w) p3.0.1)) ∙ sym (append_assoc (s y) (t z ++ u w) p3.0.1) in
      let made : X × List ℕ = (make y z w, p3.0.1) in
      let is : made ≡ x = cc in
      subst (λ (v : X × List ℕ). (bytes ≡ (s (a v.0) ++ (t (b v.0) ++ u (c v.0))) ++ v.1) × (F (a v.0) × G (b v.0) × H (c v.0))) is
      (subst (λ (i : A). (bytes ≡ (s i ++ (t (b made.0) ++ u (c made.0))) ++ p3.0.1) × (F i × G (b made.0) × H (c made.0))) (sym (first y z w))
      (subst (λ (i : B). (bytes ≡ (s y ++ (t i ++ u (c made.0))) ++ p3.0.1) × (F y × G i × H (c made.0))) (sym (second y z w))
      (subst (λ (i : C). (bytes ≡ (s y ++ (t z ++ u i)) ++ p3.0.1) × (F y × G z × H i)) (sym (third y z w)) (parts, (t1.1, t2.1, t3.1)))));
  again = λ x rest fits.
      ap (λ (v : List ℕ). at3 make r q o v) (append_assoc (s (a x)) (t (b x) ++ u (c x)) rest ∙ ap (λ (v : List ℕ). s (a x) ++ v) (append_assoc (t (b x)) (u (c x)) rest))
      ∙ rw (k.again (a x) (t (b x) ++ (u (c x) ++ rest)) fits.0, l.again (b x) (u (c x) ++ rest) fits.1, m.again (c x) rest fits.2) (ap (λ (v : X). Some (v, rest)) (whole x));
}

-- ---- lists

pub items_take : {X : Type 0} {F : X → Type 0} {s : X → List ℕ} {r : Reading X} → IsCode F s r → (n : ℕ) (bytes : List ℕ) (x : List X × List ℕ) → items_at r n bytes ≡ Some x
    → (bytes ≡ flat_map s x.0 ++ x.1) × (length x.0 ≡ n) × AllByRecursion F x.0
unfolding items_at
items_take {X} {F} {s} {r} c zero bytes x e =
    let made : List X × List ℕ = ([], bytes) in
    let is : made ≡ x = cc in
    subst (λ (y : List X × List ℕ). (bytes ≡ flat_map s y.0 ++ y.1) × (length y.0 ≡ 0) × AllByRecursion F y.0) is (refl, refl, tt)
items_take {X} {F} {s} {r} c (suc n) bytes x e =
    let a = bind_some (r bytes) (λ first. items_at r n first.1 >>= λ others. Some (first.0 ∷ others.0, others.1)) x e in
    let b = bind_some (items_at r n a.0.1) (λ others. Some (a.0.0 ∷ others.0, others.1)) x a.2 in
    let first = c.takes bytes a.0 a.1 in
    let others = items_take c n a.0.1 b.0 b.1 in
    let made : List X × List ℕ = (a.0.0 ∷ b.0.0, b.0.1) in
    let is : made ≡ x = cc in
    let parts : bytes ≡ flat_map s (a.0.0 ∷ b.0.0) ++ b.0.1 = first.0 ∙ ap (λ (v : List ℕ). s a.0.0 ++ v) others.0 ∙ sym (append_assoc (s a.0.0) (flat_map s b.0.0) b.0.1) in
    subst (λ (y : List X × List ℕ). (bytes ≡ flat_map s y.0 ++ y.1) × (length y.0 ≡ suc n) × AllByRecursion F y.0) is (parts, ap suc others.1, (first.1, others.2))

pub items_again : {X : Type 0} {F : X → Type 0} {s : X → List ℕ} {r : Reading X} → IsCode F s r → (xs : List X) (rest : List ℕ) → AllByRecursion F xs → items_at r (length xs) (flat_map s xs ++ rest) ≡ Some (xs, rest)
unfolding items_at
items_again c [] rest fits = refl
items_again {X} {F} {s} {r} c (x ∷ xs) rest fits =
    ap (items_at r (suc (length xs))) (append_assoc (s x) (flat_map s xs) rest)
    ∙ rw (c.again x (flat_map s xs ++ rest) fits.0, items_again c xs rest fits.1) refl

apart : (s t u v rest : List ℕ) → (s ++ (t ++ (u ++ v))) ++ rest ≡ s ++ (t ++ (u ++ (v ++ rest)))
apart s t u v rest = simp append_assoc

joined : (s t u v bytes b1 b2 b3 b4 : List ℕ) → bytes ≡ s ++ b1 → b1 ≡ t ++ b2 → b2 ≡ u ++ b3 → b3 ≡ v ++ b4 → bytes ≡ (s ++ (t ++ (u ++ v))) ++ b4
joined s t u v bytes b1 b2 b3 b4 p q r o = let e = apart s t u v b4 in cc

pub four : {A B C D X : Type 0} {F : A → Type 0} {s : A → List ℕ} {r : Reading A} {G : B → Type 0} {t : B → List ℕ} {q : Reading B} {H : C → Type 0} {u : C → List ℕ} {o : Reading C} {K : D → Type 0} {v : D → List ℕ} {n : Reading D} → IsCode F s r → IsCode G t q → IsCode H u o → IsCode K v n
    → (make : A → B → C → D → X) (a : X → A) (b : X → B) (c : X → C) (d : X → D) → ((x : X) → make (a x) (b x) (c x) (d x) ≡ x)
    → ((y : A) (z : B) (w : C) (i : D) (bytes rest : List ℕ) → (bytes ≡ (s y ++ (t z ++ (u w ++ v i))) ++ rest) × (F y × G z × H w × K i) → let x = make y z w i in (bytes ≡ (s (a x) ++ (t (b x) ++ (u (c x) ++ v (d x)))) ++ rest) × (F (a x) × G (b x) × H (c x) × K (d x)))
    → IsCode (λ x. F (a x) × G (b x) × H (c x) × K (d x)) (λ x. s (a x) ++ (t (b x) ++ (u (c x) ++ v (d x)))) (at4 make r q o n)
four {A} {B} {C} {D} {X} {F} {s} {r} {G} {t} {q} {H} {u} {o} {K} {v} {n} k l m j make a b c d whole parts_of = record {
  takes = λ bytes x e.
      let p1 = bind_some (r bytes) (λ y. q y.1 >>= λ z. o z.1 >>= λ w. n w.1 >>= λ i. Some (make y.0 z.0 w.0 i.0, i.1)) x e in
      let p2 = bind_some (q p1.0.1) (λ z. o z.1 >>= λ w. n w.1 >>= λ i. Some (make p1.0.0 z.0 w.0 i.0, i.1)) x p1.2 in
      let p3 = bind_some (o p2.0.1) (λ w. n w.1 >>= λ i. Some (make p1.0.0 p2.0.0 w.0 i.0, i.1)) x p2.2 in
      let p4 = bind_some (n p3.0.1) (λ i. Some (make p1.0.0 p2.0.0 p3.0.0 i.0, i.1)) x p3.2 in
      let t1 = k.takes bytes p1.0 p1.1 in
      let t2 = l.takes p1.0.1 p2.0 p2.1 in
      let t3 = m.takes p2.0.1 p3.0 p3.1 in
      let t4 = j.takes p3.0.1 p4.0 p4.1 in
      let parts = joined (s p1.0.0) (t p2.0.0) (u p3.0.0) (v p4.0.0) bytes p1.0.1 p2.0.1 p3.0.1 p4.0.1 t1.0 t2.0 t3.0 t4.0 in
      let made : X × List ℕ = (make p1.0.0 p2.0.0 p3.0.0 p4.0.0, p4.0.1) in
      let last = p4.2 in
      let is : made ≡ x = cc in
      subst (λ (y : X × List ℕ). (bytes ≡ (s (a y.0) ++ (t (b y.0) ++ (u (c y.0) ++ v (d y.0)))) ++ y.1) × (F (a y.0) × G (b y.0) × H (c y.0) × K (d y.0))) is
      (parts_of p1.0.0 p2.0.0 p3.0.0 p4.0.0 bytes p4.0.1 (parts, (t1.1, t2.1, t3.1, t4.1)));
  again = λ x rest fits.
      ap (λ (w : List ℕ). at4 make r q o n w) (apart (s (a x)) (t (b x)) (u (c x)) (v (d x)) rest)
      ∙ rw (k.again (a x) (t (b x) ++ (u (c x) ++ (v (d x) ++ rest))) fits.0, l.again (b x) (u (c x) ++ (v (d x) ++ rest)) fits.1, m.again (c x) (v (d x) ++ rest) fits.2, j.again (d x) rest fits.3) (ap (λ (y : X). Some (y, rest)) (whole x));
}

pub list_code : {X : Type 0} {F : X → Type 0} {s : X → List ℕ} {r : Reading X} → IsCode (λ n. n < 2 ^ 64) number number_at → IsCode F s r → IsCode (ListFits F) (list s) (list_at r)
unfolding list_at
list_code {X} {F} {s} {r} words c = record {
  takes = λ bytes x e.
      let p = bind_some (number_at bytes) (λ n. items_at r n.0 n.1) x e in
      let t = words.takes bytes p.0 p.1 in
      let items = items_take c p.0.0 p.0.1 x p.2 in
      let parts : bytes ≡ (number p.0.0 ++ flat_map s x.0) ++ x.1 = t.0 ∙ ap (λ (v : List ℕ). number p.0.0 ++ v) items.0 ∙ sym (append_assoc (number p.0.0) (flat_map s x.0) x.1) in
      (parts ∙ ap (λ (k : ℕ). (number k ++ flat_map s x.0) ++ x.1) (sym items.1), (omega (arith, items.1, t.1), items.2));
  again = λ xs rest fits.
      ap (λ (v : List ℕ). list_at r v) (append_assoc (number (length xs)) (flat_map s xs) rest)
      ∙ rw (words.again (length xs) (flat_map s xs ++ rest) fits.0) (items_again c xs rest fits.1);
}
