-- Trees and certificates: what is read is spelled so, and what is spelled so within the limits is read.
use Rattle.std.proofs.Common.{◌≡◌, ℕ, zero, suc, ◌+◌, ◌-◌, ◌≤◌, cond, ltb, eqb, List, [], ◌∷◌, ◌++◌, length, min, Result, Ok, Err, refl, sym, ap, subst, ◌∙◌, append_assoc, arith}
use Rattle.std.specs.List.{flat_map}
use Rattle.std.proofs.lemmas.Bool.{ltb-false, le-ltb, eqb-true}
use Rattle.std.proofs.lemmas.List.{nil_from_length, append-nil}
use Rattle.std.specs.Prelude.{IfOk}
use Rattle.tso_code.proofs.Codes.{items_take, items_again}
use Rattle.tso_code.proofs.NumberCode.{word_code}
use Rattle.tso_code.proofs.StateCodes.{state_code}
use Rattle.tso_code.specs.Fields.{items_at, list, ListFits}
use Rattle.tso_code.specs.Numbers.{number, number_at}
use Rattle.tso_code.specs.States.{state, state_at}
use Rattle.tso_rec.proofs.RecordCodes.{record_code}
use Rattle.tso_rec.specs.Spelling.{a_record, record_at, RecordFits}
use Rattle.tso_rec.specs.declared.basis.Basis.{Basis}
use Rattle.tso_rec.specs.declared.basis.Grain.{Grain}
use Rattle.tso_rec.specs.declared.record.Record.{Record}
use Rattle.tso_cert.proofs.FrontCode.{bind_ok, field_ok, front_take, front_again, guard_else, guard_ended}
use Rattle.tso_cert.specs.Certificates.{◌>>=◌, Branch, certificate, certificate_at, Decodes, field, Fits, front, front_at, leaf_at, magic, Spells, tree_at}
use Rattle.tso_cert.specs.Trees.{Tree, leaf, fork, tree_of, spelling_of, record_count, TreeFits, IsWithin, IsWithinLimits}
use Rattle.tso_cert.specs.declared.cert.Cert.{Cert}
use Rattle.tso_cert.specs.declared.fault.DecodeError.{DecodeError}
use Rattle.tso_cert.specs.declared.fault.Fault.{Fault}
use Rattle.tso_cert.specs.declared.fault.Fault.TheVariants.{K01, K02}

abbrev pub Three : Type 0
Three = Tree × ℕ × List ℕ

-- what a branch took
abbrev pub Took : Grain → ℕ → ℕ → List ℕ → Three → Type 0
Took g depth room bytes x = (bytes ≡ spelling_of g x.0 ++ x.2) × TreeFits g x.0 × IsWithin depth x.0 × (x.1 + record_count x.0 ≡ room)

leaf_take : (g : Grain) (depth room : ℕ) (rest : List ℕ) (x : Three) → leaf_at g room rest ≡ Ok x → Took g depth room (0 ∷ rest) x
unfolding leaf_at
leaf_take g depth room rest x e =
    let n = bind_ok (field (number_at rest)) (λ n. cond (ltb (min 64 room) n.0) (Err K02) (field (items_at (record_at g) n.0 n.1) >>= λ records. Ok (leaf records.0, room - n.0, records.1))) x e in
    let h = guard_else (ltb (min 64 room) n.0.0) K02 (field (items_at (record_at g) n.0.0 n.0.1) >>= λ records. Ok (leaf records.0, room - n.0.0, records.1)) x n.2 in
    let rs = bind_ok (field (items_at (record_at g) n.0.0 n.0.1)) (λ records. Ok (leaf records.0, room - n.0.0, records.1)) x h.1 in
    let tn = word_code.takes rest n.0 (field_ok (number_at rest) n.0 n.1) in
    let ts = items_take (record_code g) n.0.0 n.0.1 rs.0 (field_ok (items_at (record_at g) n.0.0 n.0.1) rs.0 rs.1) in
    let few = ltb-false (min 64 room) n.0.0 h.0 in
    let len = ts.1 in
    let made : Three = (leaf rs.0.0, room - n.0.0, rs.0.1) in
    let last = rs.2 in
    let is : made ≡ x = cc in
    let parts : 0 ∷ rest ≡ spelling_of g (leaf rs.0.0) ++ rs.0.1 =
    ap (λ (w : List ℕ). 0 ∷ w) (tn.0 ∙ ap (λ (w : List ℕ). number n.0.0 ++ w) ts.0 ∙ sym (append_assoc (number n.0.0) (flat_map (a_record g) rs.0.0) rs.0.1) ∙ ap (λ (k : ℕ). (number k ++ flat_map (a_record g) rs.0.0) ++ rs.0.1) (sym len)) in
    subst (λ (y : Three). Took g depth room (0 ∷ rest) y) is (parts, (omega (arith, tn.1), ts.2), omega arith, omega arith)

pub tree_take : (g : Grain) (depth room : ℕ) (bytes : List ℕ) (x : Three) → tree_at g depth room bytes ≡ Ok x → Took g depth room bytes x
unfolding tree_at
tree_take g zero room [] x e = absurd cc
tree_take g zero room (zero ∷ rest) x e = leaf_take g 0 room rest x e
tree_take g zero room (suc zero ∷ rest) x e = absurd cc
tree_take g zero room (suc (suc b) ∷ rest) x e = absurd cc
tree_take g (suc depth) room [] x e = absurd cc
tree_take g (suc depth) room (zero ∷ rest) x e = leaf_take g (suc depth) room rest x e
tree_take g (suc depth) room (suc zero ∷ rest) x e =
    let l = bind_ok (tree_at g depth room rest) (λ left. field (state_at left.2) >>= λ s. tree_at g depth left.1 s.1 >>= λ right. Ok (fork left.0 s.0 right.0, right.1, right.2)) x e in
    let s = bind_ok (field (state_at l.0.2)) (λ s. tree_at g depth l.0.1 s.1 >>= λ right. Ok (fork l.0.0 s.0 right.0, right.1, right.2)) x l.2 in
    let r = bind_ok (tree_at g depth l.0.1 s.0.1) (λ right. Ok (fork l.0.0 s.0.0 right.0, right.1, right.2)) x s.2 in
    let tl = tree_take g depth room rest l.0 l.1 in
    let ts = state_code.takes l.0.2 s.0 (field_ok (state_at l.0.2) s.0 s.1) in
    let tr = tree_take g depth l.0.1 s.0.1 r.0 r.1 in
    let made : Three = (fork l.0.0 s.0.0 r.0.0, r.0.1, r.0.2) in
    let last = r.2 in
    let is : made ≡ x = cc in
    let parts = joined (spelling_of g l.0.0) (state s.0.0) (spelling_of g r.0.0) rest l.0.2 s.0.1 r.0.2 tl.0 ts.0 tr.0 in
    let count : r.0.1 + (record_count l.0.0 + record_count r.0.0) ≡ room = omega (arith, tl.3, tr.3) in
    subst (λ (y : Three). Took g (suc depth) room (1 ∷ rest) y) is (ap (λ (w : List ℕ). 1 ∷ w) parts, (tl.1, ts.1, tr.1), (tl.2, tr.2), count)
  where
    joined : (s t u bytes b1 b2 b3 : List ℕ) → bytes ≡ s ++ b1 → b1 ≡ t ++ b2 → b2 ≡ u ++ b3 → bytes ≡ (s ++ (t ++ u)) ++ b3
    joined s t u bytes b1 b2 b3 p q r = p ∙ ap (λ (w : List ℕ). s ++ w) (q ∙ ap (λ (w : List ℕ). t ++ w) r ∙ sym (append_assoc t u b3)) ∙ sym (append_assoc s (t ++ u) b3)
tree_take g (suc depth) room (suc (suc b) ∷ rest) x e = absurd cc

leaf_again : (g : Grain) (room : ℕ) (records : List Record) (rest : List ℕ) → ListFits (RecordFits g) records → length records ≤ 64 → length records ≤ room
    → leaf_at g room (list (a_record g) records ++ rest) ≡ Ok (leaf records, room - length records, rest)
unfolding leaf_at
leaf_again g room records rest fits few room_for =
    ap (leaf_at g room) (append_assoc (number (length records)) (flat_map (a_record g) records) rest)
    ∙ rw (word_code.again (length records) (flat_map (a_record g) records ++ rest) fits.0, le-ltb (min 64 room) (length records) (omega arith), items_again (record_code g) records rest fits.1) refl

pub tree_again : (g : Grain) (depth room : ℕ) (t : Tree) (rest : List ℕ) → TreeFits g t → IsWithin depth t → record_count t ≤ room → tree_at g depth room (spelling_of g t ++ rest) ≡ Ok (t, room - record_count t, rest)
unfolding tree_at
tree_again g zero room (leaf records) rest fits within le = leaf_again g room records rest fits within le
tree_again g (suc depth) room (leaf records) rest fits within le = leaf_again g room records rest fits within le
tree_again g zero room (fork left s right) rest fits within le = absurd within
tree_again g (suc depth) room (fork left s right) rest fits within le =
    let after : List ℕ = state s ++ (spelling_of g right ++ rest) in
    let l = tree_again g depth room left (state s ++ (spelling_of g right ++ rest)) fits.0 within.0 (omega arith) in
    let m = state_code.again s (spelling_of g right ++ rest) fits.1 in
    let r = tree_again g depth (room - record_count left) right rest fits.2 within.1 (omega arith) in
    let left_over : room - record_count left - record_count right ≡ room - (record_count left + record_count right) = omega arith in
    ap (λ (w : List ℕ). tree_at g (suc depth) room (1 ∷ w)) (apart (spelling_of g left) (state s) (spelling_of g right) rest)
    ∙ rw (l, m, r, left_over) refl
  where
    apart : (s t u rest : List ℕ) → (s ++ (t ++ u)) ++ rest ≡ s ++ (t ++ (u ++ rest))
    apart s t u rest = simp append_assoc

-- ---- certificates

abbrev IsFound : List ℕ → Basis × Tree → Type 0
IsFound bytes x = Spells bytes x.0 x.1 × IsWithinLimits x.1

-- the tree takes all bytes
abbrev pub ended : Basis → Three → Result (Basis × Tree) Fault
ended b c = cond (eqb (length c.2) 0) (Ok (b, c.0)) (Err K01)

abbrev pub behind : Basis × List ℕ → Result (Basis × Tree) Fault
behind b = tree_at b.0.grain 64 4194304 b.1 >>= ended b.0

pub certificate_take : (bytes : List ℕ) (x : Basis × Tree) → certificate_at bytes ≡ Ok x → IsFound bytes x
unfolding certificate_at
certificate_take bytes x e =
    let b = bind_ok (front_at bytes) behind x e in
    let basis = b.0.0 in
    let c = bind_ok (tree_at basis.grain 64 4194304 b.0.1) (ended basis) x b.2 in
    let tree = c.0.0 in
    let h = guard_ended (eqb (length c.0.2) 0) K01 (basis, tree) x c.2 in
    let tb = front_take bytes b.0 b.1 in
    let tc = tree_take basis.grain 64 4194304 b.0.1 c.0 c.1 in
    let nothing : c.0.2 ≡ [] = nil_from_length c.0.2 (eqb-true _ _ h.0) in
    let tree_all : b.0.1 ≡ spelling_of basis.grain tree = tc.0 ∙ ap (λ (w : List ℕ). spelling_of basis.grain tree ++ w) nothing ∙ append-nil (spelling_of basis.grain tree) in
    let whole : bytes ≡ certificate basis tree = tb.0 ∙ ap (λ (w : List ℕ). magic basis.grain ++ (front basis ++ w)) tree_all in
    subst (λ (y : Basis × Tree). IsFound bytes y) h.1 (((tb.1, tc.1), whole), (tc.2, omega (arith, tc.3)))

pub certificate_again : (b : Basis) (c : Tree) → Fits b c → IsWithinLimits c → certificate_at (certificate b c) ≡ Ok (b, c)
unfolding certificate_at
certificate_again b c fits within =
    let spelled = spelling_of b.grain c in
    let tree_all : tree_at b.grain 64 4194304 spelled ≡ Ok (c, 4194304 - record_count c, []) = ap (tree_at b.grain 64 4194304) (sym (append-nil spelled)) ∙ tree_again b.grain 64 4194304 c [] fits.1 within.0 within.1 in
    ap (λ (r : Result (Basis × List ℕ) Fault). r >>= behind) (front_again b spelled fits.0)
    ∙ ap (λ (r : Branch). r >>= ended b) tree_all

-- behind the table are the bytes of the tree
pub front_of : (bytes : List ℕ) (b : Basis) (c : Tree) → Spells bytes b c → front_at bytes ≡ Ok (b, spelling_of b.grain c)
front_of bytes b c spelled = ap front_at spelled.1 ∙ front_again b (spelling_of b.grain c) spelled.0.0

pub is_found : (bytes : List ℕ) (r : Result (Basis × Cert) DecodeError) → Decodes r (certificate_at bytes) → IfOk r (λ x. Spells bytes x.0 (tree_of x.1) × IsWithinLimits (tree_of x.1))
is_found bytes (Ok x) given = certificate_take bytes (x.0, tree_of x.1) given
is_found bytes (Err e) given = tt
