-- Reading says that a limit is passed exactly where a front of the bytes goes beyond it.
use Rattle.std.proofs.Common.{◌≡◌, ℕ, zero, suc, ◌-◌, ◌^◌, ◌<◌, Bool, true, false, cond, ltb, eqb, List, [], ◌∷◌, ◌++◌, length, min, drop, Option, Some, None, Result, Ok, Err, refl, sym, ap, subst, ◌∙◌, append_assoc, arith, ◌⊎◌, inl, inr}
use Rattle.std.proofs.lemmas.Bool.{ltb-true, lt-ltb}
use Rattle.tso_code.proofs.NumberCode.{word_code}
use Rattle.tso_code.proofs.StateCodes.{state_code}
use Rattle.tso_code.specs.Fields.{items_at}
use Rattle.tso_code.specs.Numbers.{number, number_at}
use Rattle.tso_code.specs.States.{state, state_at}
use Rattle.tso_foot.specs.declared.table.Table.{Table}
use Rattle.tso_rec.specs.Spelling.{record_at}
use Rattle.tso_rec.specs.declared.basis.Basis.{Basis}
use Rattle.tso_rec.specs.declared.basis.Grain.{Grain}
use Rattle.tso_rec.specs.declared.basis.Grain.TheVariants.{Steps, Crossings}
use Rattle.tso_state.specs.declared.state.State.{State}
use Rattle.tso_cert.proofs.FrontCode.{basis_of, front_again, front_take, is_by, with_table}
use Rattle.tso_cert.proofs.Opening.{tree_opens}
use Rattle.tso_cert.proofs.TreeCode.{Three, behind, ended, tree_take, tree_again}
use Rattle.tso_cert.specs.Certificates.{◌>>=◌, Branch, certificate_at, field, front, front_at, leaf_at, magic, magic_at, table_by, tree_at}
use Rattle.tso_cert.specs.Limits.{GoesBeyond, leaf_count, fork_inside, in_left, in_right, PassesLimit}
use Rattle.tso_cert.specs.Trees.{Tree, leaf, fork, spelling_of, record_count}
use Rattle.tso_cert.specs.declared.fault.Fault.{Fault}
use Rattle.tso_cert.specs.declared.fault.Fault.TheVariants.{K01, K02}

-- a field, which passes no limit, before a step that does
past_field : {A B : Type 0} (o : Option A) (f : A → Result B Fault) → (field o >>= f) ≡ Err K02 → (x : A) × (o ≡ Some x) × (f x ≡ Err K02)
past_field (Some x) f e = (x, refl, e)
past_field None f e = absurd cc

-- a test before a step that does
past_test : {A B : Type 0} (r : Result A Fault) (f : A → Result B Fault) → (r ≡ Err K02 → ⊥) → (r >>= f) ≡ Err K02 → (x : A) × (r ≡ Ok x) × (f x ≡ Err K02)
past_test (Ok x) f m e = (x, refl, e)
past_test (Err K01) f m e = absurd cc
past_test (Err K02) f m e = absurd (m refl)

-- any step before one that does, or that itself does
either : {A B : Type 0} (r : Result A Fault) (f : A → Result B Fault) → (r >>= f) ≡ Err K02 → (r ≡ Err K02) ⊎ ((x : A) × (r ≡ Ok x) × (f x ≡ Err K02))
either (Ok x) f e = inr (x, refl, e)
either (Err K01) f e = absurd cc
either (Err K02) f e = inl refl

over : {X : Type 0} (b : Bool) (o : Option X) (f : X → Three) → cond b (Err K02) (field o >>= λ x. Ok (f x)) ≡ Err K02 → b ≡ true
over true o f e = refl
over false None f e = absurd cc
over false (Some x) f e = absurd cc

abbrev Passed : Grain → ℕ → ℕ → List ℕ → Type 0
Passed g depth room bytes = (start : List ℕ) × (rest : List ℕ) × (bytes ≡ start ++ rest) × GoesBeyond g depth room start

leaf_passed : (g : Grain) (depth room : ℕ) (rest : List ℕ) → leaf_at g room rest ≡ Err K02 → Passed g depth room (0 ∷ rest)
unfolding leaf_at
leaf_passed g depth room rest e =
    let n = past_field (number_at rest) (λ n. cond (ltb (min 64 room) n.0) (Err K02) (field (items_at (record_at g) n.0 n.1) >>= λ records. Ok (leaf records.0, room - n.0, records.1))) e in
    let b = over (ltb (min 64 room) n.0.0) (items_at (record_at g) n.0.0 n.0.1) (λ records. (leaf records.0, room - n.0.0, records.1)) n.2 in
    let t = word_code.takes rest n.0 n.1 in
    (0 ∷ number n.0.0, n.0.1, ap (λ (w : List ℕ). 0 ∷ w) t.0, leaf_count depth room n.0.0 t.1 (ltb-true (min 64 room) n.0.0 b))

tree_passed : (g : Grain) (depth room : ℕ) (bytes : List ℕ) → tree_at g depth room bytes ≡ Err K02 → Passed g depth room bytes
unfolding tree_at
tree_passed g zero room [] e = absurd cc
tree_passed g zero room (zero ∷ rest) e = leaf_passed g 0 room rest e
tree_passed g zero room (suc zero ∷ rest) e = (1 ∷ [], rest, refl, fork_inside room)
tree_passed g zero room (suc (suc b) ∷ rest) e = absurd cc
tree_passed g (suc depth) room [] e = absurd cc
tree_passed g (suc depth) room (zero ∷ rest) e = leaf_passed g (suc depth) room rest e
tree_passed g (suc depth) room (suc zero ∷ rest) e =
    elim (either (tree_at g depth room rest) (λ left. field (state_at left.2) >>= λ s. tree_at g depth left.1 s.1 >>= λ right. Ok (fork left.0 s.0 right.0, right.1, right.2)) e) [
      | inl h ↦
          let p = tree_passed g depth room rest h in
          (1 ∷ p.0, p.1, ap (λ (w : List ℕ). 1 ∷ w) p.2, in_left depth room p.0 p.3)
      | inr l ↦
          let s = past_field (state_at l.0.2) (λ s. tree_at g depth l.0.1 s.1 >>= λ right. Ok (fork l.0.0 s.0 right.0, right.1, right.2)) l.2 in
          let h = last (tree_at g depth l.0.1 s.0.1) (λ right. (fork l.0.0 s.0.0 right.0, right.1, right.2)) s.2 in
          let p = tree_passed g depth l.0.1 s.0.1 h in
          let tl = tree_take g depth room rest l.0 l.1 in
          let ts = state_code.takes l.0.2 s.0 s.1 in
          let left_over : l.0.1 ≡ room - record_count l.0.0 = omega (arith, tl.3) in
          let parts : rest ≡ (spelling_of g l.0.0 ++ (state s.0.0 ++ p.0)) ++ p.1 = joined (spelling_of g l.0.0) (state s.0.0) p.0 p.1 rest l.0.2 s.0.1 tl.0 ts.0 p.2 in (
            1 ∷ (spelling_of g l.0.0 ++ (state s.0.0 ++ p.0)),
            p.1,
            ap (λ (w : List ℕ). 1 ∷ w) parts,
            in_right depth room l.0.0 s.0.0 p.0 tl.1 tl.2 (omega (arith, tl.3)) ts.1 (subst (λ (k : ℕ). GoesBeyond g depth k p.0) left_over p.3),
          )
    ]
  where
    last : {A B : Type 0} (r : Result A Fault) (f : A → B) → (r >>= λ x. Ok (f x)) ≡ Err K02 → r ≡ Err K02
    last (Ok x) f e = absurd cc
    last (Err K01) f e = absurd cc
    last (Err K02) f e = refl

    joined : (s t u rest bytes b1 b2 : List ℕ) → bytes ≡ s ++ b1 → b1 ≡ t ++ b2 → b2 ≡ u ++ rest → bytes ≡ (s ++ (t ++ u)) ++ rest
    joined s t u rest bytes b1 b2 p q r = p ∙ ap (λ (w : List ℕ). s ++ w) (q ∙ ap (λ (w : List ℕ). t ++ w) r ∙ sym (append_assoc t u rest)) ∙ sym (append_assoc s (t ++ u) rest)
tree_passed g (suc depth) room (suc (suc b) ∷ rest) e = absurd cc

apart : (s t u rest : List ℕ) → (s ++ (t ++ u)) ++ rest ≡ s ++ (t ++ (u ++ rest))
apart s t u rest = simp append_assoc

leaf_beyond : (g : Grain) (room n : ℕ) (rest : List ℕ) → n < 2 ^ 64 → min 64 room < n → leaf_at g room (number n ++ rest) ≡ Err K02
unfolding leaf_at
leaf_beyond g room n rest fits lt = rw (word_code.again n rest fits, lt-ltb (min 64 room) n lt) refl

fork_left : (g : Grain) (depth room : ℕ) (bytes : List ℕ) → tree_at g depth room bytes ≡ Err K02 → tree_at g (suc depth) room (1 ∷ bytes) ≡ Err K02
unfolding tree_at
fork_left g depth room bytes e = rw e refl

fork_right : (g : Grain) (depth room : ℕ) (left : Tree) (s : State) (middle rest bytes : List ℕ) → tree_at g depth room bytes ≡ Ok (left, room - record_count left, middle) → state_at middle ≡ Some (s, rest)
    → tree_at g depth (room - record_count left) rest ≡ Err K02 → tree_at g (suc depth) room (1 ∷ bytes) ≡ Err K02
unfolding tree_at
fork_right g depth room left s middle rest bytes l m r = rw (l, m, r) refl

-- however the bytes go on
tree_beyond : (g : Grain) (depth room : ℕ) (start : List ℕ) → GoesBeyond g depth room start → (rest : List ℕ) → tree_at g depth room (start ++ rest) ≡ Err K02
tree_beyond g _ _ _ (leaf_count depth room n fits lt) rest = tree_opens g depth room (0 ∷ (number n ++ rest)) ∙ leaf_beyond g room n rest fits lt
tree_beyond g _ _ _ (fork_inside room) rest = tree_opens g 0 room (1 ∷ rest)
tree_beyond g _ _ _ (in_left depth room start beyond) rest = fork_left g depth room (start ++ rest) (tree_beyond g depth room start beyond rest)
tree_beyond g _ _ _ (in_right depth room left s start fits within le state_fits beyond) rest =
    let l = tree_again g depth room left (state s ++ (start ++ rest)) fits within le in
    let m = state_code.again s (start ++ rest) state_fits in
    let r = tree_beyond g depth (room - record_count left) start beyond rest in
    ap (λ (w : List ℕ). tree_at g (suc depth) room (1 ∷ w)) (apart (spelling_of g left) (state s) start rest) ∙ fork_right g depth room left s (state s ++ (start ++ rest)) (start ++ rest) (spelling_of g left ++ (state s ++ (start ++ rest))) l m r

stops : {X : Type 0} (b : Bool) (x : X) → cond b (Ok x) (Err K01) ≡ Err K02 → ⊥
stops true x e = cc
stops false x e = cc

stops_either : {X : Type 0} (b c d : Bool) (x y : X) → cond b (Err K01) (cond c (Ok x) (cond d (Ok y) (Err K01))) ≡ Err K02 → ⊥
stops_either true c d x y e = cc
stops_either false true d x y e = cc
stops_either false false d x y e = stops d y e

magic_passes_none : (bytes : List ℕ) → magic_at bytes ≡ Err K02 → ⊥
unfolding magic_at
magic_passes_none bytes e = stops_either (ltb (length bytes) 4) (is_by Steps bytes) (is_by Crossings bytes) (Steps, drop 4 bytes) (Crossings, drop 4 bytes) e

table_passes_none : (g : Grain) (o : Option (Table × List ℕ)) → (field o >>= λ t. Ok (basis_of g t)) ≡ Err K02 → ⊥
table_passes_none g (Some t) e = cc
table_passes_none g None e = cc

front_passes_none : (bytes : List ℕ) → front_at bytes ≡ Err K02 → ⊥
front_passes_none bytes e =
    let m = past_test (magic_at bytes) with_table (magic_passes_none bytes) e in
    table_passes_none m.0.0 (table_by m.0.0 m.0.1) m.2

pub passed : (bytes : List ℕ) → certificate_at bytes ≡ Err K02 → PassesLimit bytes
unfolding certificate_at
passed bytes e =
    let b = past_test (front_at bytes) behind (front_passes_none bytes) e in
    let basis = b.0.0 in
    elim (either (tree_at basis.grain 64 4194304 b.0.1) (ended basis) b.2) [
      | inl h ↦
          let p = tree_passed basis.grain 64 4194304 b.0.1 h in
          let t = front_take bytes b.0 b.1 in
          (basis, p.0, p.1, t.1, p.3, t.0 ∙ ap (λ (w : List ℕ). magic basis.grain ++ (front basis ++ w)) p.2)
      | inr c ↦ absurd (stops (eqb (length c.0.2) 0) (basis, c.0.0) c.2)
    ]

pub beyond : (bytes : List ℕ) → PassesLimit bytes → certificate_at bytes ≡ Err K02
unfolding certificate_at
beyond bytes (b, start, rest, fits, goes, e) =
    ap certificate_at e
    ∙ ap (λ (r : Result (Basis × List ℕ) Fault). r >>= behind) (front_again b (start ++ rest) fits)
    ∙ ap (λ (r : Branch). r >>= ended b) (tree_beyond b.grain 64 4194304 start goes rest)
