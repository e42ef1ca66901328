-- What stands before a tree: what is read is spelled so, and what is spelled so is read.
use Rattle.std.proofs.Common.{◌≡◌, ℕ, zero, suc, Bool, true, false, cond, ltb, eqb, List, [], ◌∷◌, ◌++◌, length, take, drop, Option, Some, None, Result, Ok, Err, refl, sym, ap, subst, ◌∙◌, ◌⊎◌, inl, inr, arith}
use Rattle.std.specs.Cmp.Lexicographic.{pointwise, bytes_decides}
use Rattle.std.proofs.lemmas.Bool.{le-ltb}
use Rattle.std.proofs.lemmas.List.{take-append-drop}
use Rattle.tso_code.proofs.Codes.{IsCode}
use Rattle.tso_code.proofs.TableCodes.{table_code}
use Rattle.tso_code.specs.Tables.{table, table_at, TableFits}
use Rattle.tso_foot.specs.declared.table.Table.{Table}
use Rattle.tso_foot.specs.declared.table.Table.TheVariants.{Arrays, Intervals}
use Rattle.tso_rec.specs.declared.basis.Basis.{Basis}
use Rattle.tso_rec.specs.declared.basis.Grain.{Grain}
use Rattle.tso_rec.specs.declared.basis.Grain.TheVariants.{Steps, Crossings}
use Rattle.tso_cert.specs.Certificates.{◌>>=◌, field, front, front_at, FrontFits, magic, magic_at, table_by, table_of, TableFitsBy}
use Rattle.tso_cert.specs.declared.fault.Fault.{Fault}
use Rattle.tso_cert.specs.declared.fault.Fault.TheVariants.{K01}

-- the value of a step that did not fail
pub bind_ok : {A B : Type 0} (r : Result A Fault) (f : A → Result B Fault) (y : B) → (r >>= f) ≡ Ok y → (x : A) × (r ≡ Ok x) × (f x ≡ Ok y)
bind_ok (Ok x) f y e = (x, refl, e)
bind_ok (Err d) f y e = absurd cc

pub field_ok : {A : Type 0} (o : Option A) (y : A) → field o ≡ Ok y → o ≡ Some y
field_ok (Some x) y e = cc
field_ok None y e = absurd cc

pub guard_else : {X : Type 0} (b : Bool) (d : Fault) (y : Result X Fault) (z : X) → cond b (Err d) y ≡ Ok z → (b ≡ false) × (y ≡ Ok z)
guard_else true d y z e = absurd cc
guard_else false d y z e = (refl, e)

pub guard_ended : {X : Type 0} (b : Bool) (d : Fault) (x y : X) → cond b (Ok x) (Err d) ≡ Ok y → (b ≡ true) × (x ≡ y)
guard_ended true d x y e = (refl, cc)
guard_ended false d x y e = absurd cc

-- ---- the four bytes

one_of : {X : Type 0} (b c : Bool) (x y z : X) → cond b (Ok x) (cond c (Ok y) (Err K01)) ≡ Ok z → ((b ≡ true) × (x ≡ z)) ⊎ ((c ≡ true) × (y ≡ z))
one_of true c x y z e = inl (refl, cc)
one_of false c x y z e = inr (guard_ended c K01 y z e)

told : (g : Grain) (bytes : List ℕ) (m : Grain × List ℕ) → pointwise eqb (take 4 bytes) (magic g) ≡ true → (g, drop 4 bytes) ≡ m → bytes ≡ magic m.0 ++ m.1
told g bytes m same is =
    let begins : take 4 bytes ≡ magic g = (bytes_decides (take 4 bytes) (magic g)).0 same in
    sym (take-append-drop 4 bytes) ∙ ap (λ (w : List ℕ). w ++ drop 4 bytes) begins ∙ ap (λ (n : Grain × List ℕ). magic n.0 ++ n.1) is

abbrev pub is_by : Grain → List ℕ → Bool
is_by g bytes = pointwise eqb (take 4 bytes) (magic g)

pub magic_take : (bytes : List ℕ) (m : Grain × List ℕ) → magic_at bytes ≡ Ok m → bytes ≡ magic m.0 ++ m.1
unfolding magic_at
magic_take bytes m e =
    let long = guard_else (ltb (length bytes) 4) K01 (cond (is_by Steps bytes) (Ok (Steps, drop 4 bytes)) (cond (is_by Crossings bytes) (Ok (Crossings, drop 4 bytes)) (Err K01))) m e in
    elim (one_of (is_by Steps bytes) (is_by Crossings bytes) (Steps, drop 4 bytes) (Crossings, drop 4 bytes) m long.1) [
      | inl h ↦ told Steps bytes m h.0 h.1
      | inr h ↦ told Crossings bytes m h.0 h.1
    ]

pub magic_again : (g : Grain) (rest : List ℕ) → magic_at (magic g ++ rest) ≡ Ok (g, rest)
unfolding magic_at
magic_again Steps rest =
    let long : ltb (length (magic Steps ++ rest)) 4 ≡ false = le-ltb (length (magic Steps ++ rest)) 4 (omega arith) in
    rw long refl
magic_again Crossings rest =
    let long : ltb (length (magic Crossings ++ rest)) 4 ≡ false = le-ltb (length (magic Crossings ++ rest)) 4 (omega arith) in
    rw long refl

-- ---- the table

-- the one table that both versions spell but for their first byte
other_version : (t : Table) (rest after : List ℕ) → 2 ∷ rest ≡ table t ++ after → TableFits t → (1 ∷ rest ≡ table_of Crossings t ++ after) × TableFitsBy Crossings t
other_version (Arrays t) rest after e fits = absurd cc
other_version (Intervals t) rest after e fits = (ap (λ (w : List ℕ). 1 ∷ drop 1 w) e, fits)

table_takes : (bytes : List ℕ) (x : Table × List ℕ) → table_by Crossings bytes ≡ Some x → (bytes ≡ table_of Crossings x.0 ++ x.1) × TableFitsBy Crossings x.0
unfolding table_at
table_takes [] x e = absurd cc
table_takes (zero ∷ rest) x e = absurd cc
table_takes (suc zero ∷ rest) x e = let t = table_code.takes (2 ∷ rest) x e in other_version x.0 rest x.1 t.0 t.1
table_takes (suc (suc b) ∷ rest) x e = absurd cc

table_again : (t : Table) (rest : List ℕ) → TableFitsBy Crossings t → table_by Crossings (table_of Crossings t ++ rest) ≡ Some (t, rest)
unfolding table_at
table_again (Arrays t) rest fits = absurd fits
table_again (Intervals t) rest fits = table_code.again (Intervals t) rest fits

table_by_code : (g : Grain) → IsCode (TableFitsBy g) (table_of g) (table_by g)
table_by_code Steps = record { takes = λ bytes x e. table_code.takes bytes x e; again = λ t rest fits. table_code.again t rest fits }
table_by_code Crossings = record { takes = table_takes; again = table_again }

-- ---- both

-- the basis of a grain and a table
abbrev pub basis_of : Grain → Table × List ℕ → Basis × List ℕ
basis_of g t = (record { grain = g; table = t.0 }, t.1)

abbrev pub with_table : Grain × List ℕ → Result (Basis × List ℕ) Fault
with_table m = field (table_by m.0 m.1) >>= λ t. Ok (basis_of m.0 t)

pub front_take : (bytes : List ℕ) (x : Basis × List ℕ) → front_at bytes ≡ Ok x → (bytes ≡ magic x.0.grain ++ (front x.0 ++ x.1)) × FrontFits x.0
front_take bytes x e =
    let m = bind_ok (magic_at bytes) with_table x e in
    let t = bind_ok (field (table_by m.0.0 m.0.1)) (λ t. Ok (basis_of m.0.0 t)) x m.2 in
    let took = (table_by_code m.0.0).takes m.0.1 t.0 (field_ok (table_by m.0.0 m.0.1) t.0 t.1) in
    let last = t.2 in
    let is : basis_of m.0.0 t.0 ≡ x = cc in
    subst (λ (y : Basis × List ℕ). (bytes ≡ magic y.0.grain ++ (front y.0 ++ y.1)) × FrontFits y.0) is
    (magic_take bytes m.0 m.1 ∙ ap (λ (w : List ℕ). magic m.0.0 ++ w) took.0, took.1)

pub front_again : (b : Basis) (rest : List ℕ) → FrontFits b → front_at (magic b.grain ++ (front b ++ rest)) ≡ Ok (b, rest)
front_again b rest fits =
    ap (λ (r : Result (Grain × List ℕ) Fault). r >>= with_table) (magic_again b.grain (front b ++ rest))
    ∙ ap (λ (o : Option (Table × List ℕ)). field o >>= λ t. Ok (basis_of b.grain t)) ((table_by_code b.grain).again b.table rest fits)
