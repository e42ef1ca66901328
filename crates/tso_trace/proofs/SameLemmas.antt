-- A line spells one label at most.
use Rattle.std.proofs.Common.{◌≡◌, ◌∙◌, ℕ, ◌<◌, ◌^◌, Bool, true, false, cond, eqb, List, [], ◌∷◌, ◌++◌, Some, codes, decimal, sym, ap, refl}
use Rattle.std.proofs.lemmas.Bool.{and_parts, both_ways, cond-true, eq-eqb, ltb-true}
use Rattle.std.proofs.lemmas.Fmt.{decimal_injective}
use Rattle.std.proofs.lemmas.List.{append_cancel_left}
use Rattle.tso_line.specs.Proper.{is_call}
use Rattle.tso_line.specs.declared.instruction.CallKind.{CallKind}
use Rattle.tso_line.specs.declared.instruction.CallKind.TheVariants as calls
use Rattle.tso_prog.specs.declared.answer.Answer.{Answer}
use Rattle.tso_prog.specs.declared.answer.Answer.TheVariants as answers
use Rattle.tso_prog.specs.declared.client.Client.{Client}
use Rattle.tso_machine.specs.declared.action.FaultKind.{FaultKind}
use Rattle.tso_machine.specs.declared.action.FaultKind.TheVariants as faults
use Rattle.tso_machine.specs.declared.label.Label.{Label}
use Rattle.tso_machine.specs.declared.label.LabelKind.{LabelKind}
use Rattle.tso_machine.specs.declared.label.LabelKind.TheVariants as kinds
use Rattle.tso_trace.specs.Grammar.{access_text, answer_text, call_text, fault_text, is_answer, is_access, is_proper_kind, kind_text, IsLineOf}
use Rattle.tso_trace.proofs.AccessLemmas.{access_of, same_place, same_split}
use Rattle.tso_trace.proofs.LineLemmas.{decimal_lacks, same_cut}

-- one of the texts has another byte, or ends, where the other goes on
abbrev differ : List ℕ → List ℕ → Bool
differ [] [] = false
differ [] (y ∷ ys) = true
differ (x ∷ xs) [] = true
differ (x ∷ xs) (y ∷ ys) = cond (eqb x y) (differ xs ys) true

differ_not : (xs : List ℕ) → differ xs xs ≡ false
differ_not [] = refl
differ_not (x ∷ xs) = cond-true (eqb x x) (differ xs xs) true (eq-eqb x x refl) ∙ differ_not xs

differ_apart : {xs ys : List ℕ} → differ xs ys ≡ true → xs ≡ ys → ⊥
differ_apart {xs = xs} d e = both_ways (differ xs xs) (differ_not xs) (ap (differ xs) e ∙ d)

same_behind : (word : List ℕ) (m n : ℕ) → m < 2 ^ 64 → n < 2 ^ 64 → word ++ decimal m ≡ word ++ decimal n → m ≡ n
same_behind word m n small small' e = decimal_injective m n small small' (append_cancel_left word _ _ e)

same_call : (a b : CallKind) → is_call a ≡ true → is_call b ≡ true → call_text a ≡ call_text b → a ≡ b
same_call (calls.Push m) (calls.Push n) p q e = ap (λ x. calls.Push x) (same_behind (codes "push ") m n (ltb-true _ _ p) (ltb-true _ _ q) e)
same_call (calls.Push m) calls.Pop p q e = absurd (differ_apart refl e)
same_call calls.Pop (calls.Push n) p q e = absurd (differ_apart refl e)
same_call calls.Pop calls.Pop p q e = refl

same_answer : (a b : Answer) → is_answer a ≡ true → is_answer b ≡ true → answer_text a ≡ answer_text b → a ≡ b
same_answer (answers.Value m) (answers.Value n) p q e = ap (λ x. answers.Value x) (same_behind (codes "value ") m n (ltb-true _ _ p) (ltb-true _ _ q) e)
same_answer answers.Refused answers.Refused p q e = refl
same_answer answers.Done answers.Done p q e = refl
same_answer _ _ p q e = absurd (differ_apart refl e)

same_fault : (a b : FaultKind) → fault_text a ≡ fault_text b → a ≡ b
same_fault faults.OutOfRange faults.OutOfRange e = refl
same_fault faults.FalseAssertion faults.FalseAssertion e = refl
same_fault faults.BadAnswer faults.BadAnswer e = refl
same_fault _ _ e = absurd (differ_apart refl e)

module _ (c : Client) where
  record SameAccess (p q v w : ℕ) : Type 0 where
    place : p ≡ q
    word : v ≡ w

  same_access : (p q v w : ℕ) → is_access c.arrays p v ≡ true → is_access c.arrays q w ≡ true → access_text c.arrays p v ≡ access_text c.arrays q w → SameAccess p q v w
  same_access p q v w proper proper' e =
      let a = access_of c p v proper in
      let b = access_of c q w proper' in
      let same = same_split c a.name b.name a.index b.index v w a.named b.named a.small b.small (sym a.text ∙ e ∙ b.text) in
      record {
        place = same_place c a.name a.index p q a.named a.small a.cell (b.cell ∙ ap Some (sym same.0));
        word = decimal_injective v w a.fits b.fits same.1;
      }

  pub same_kind : (a b : LabelKind) → is_proper_kind c.arrays a ≡ true → is_proper_kind c.arrays b ≡ true → kind_text c.arrays a ≡ kind_text c.arrays b → a ≡ b
  same_kind (kinds.Call a) (kinds.Call b) p q e = ap (λ x. kinds.Call x) (same_call a b p q (append_cancel_left (codes "call ") _ _ e))
  same_kind kinds.Reg kinds.Reg p q e = refl
  same_kind (kinds.Read x v) (kinds.Read y w) p q e = let same = same_access x y v w p q (append_cancel_left (codes "read ") _ _ e) in rw (same.place, same.word) refl
  same_kind (kinds.Write x v) (kinds.Write y w) p q e = let same = same_access x y v w p q (append_cancel_left (codes "write ") _ _ e) in rw (same.place, same.word) refl
  same_kind (kinds.Drain x v) (kinds.Drain y w) p q e = let same = same_access x y v w p q (append_cancel_left (codes "drain ") _ _ e) in rw (same.place, same.word) refl
  same_kind kinds.Fence kinds.Fence p q e = refl
  same_kind kinds.Lock kinds.Lock p q e = refl
  same_kind kinds.Unlock kinds.Unlock p q e = refl
  same_kind (kinds.Return a) (kinds.Return b) p q e = ap (λ x. kinds.Return x) (same_answer a b p q (append_cancel_left (codes "return ") _ _ e))
  same_kind (kinds.Fault a) (kinds.Fault b) p q e = ap (λ x. kinds.Fault x) (same_fault a b (append_cancel_left (codes "fault ") _ _ e))
  same_kind _ _ p q e = absurd (differ_apart refl e)

  -- two labels that are spelled alike are one
  pub same_label : (line : List ℕ) (a b : Label) → IsLineOf c.arrays line a → IsLineOf c.arrays line b → a ≡ b
  same_label line a b is is' =
      let p = and_parts _ _ is.proper in
      let q = and_parts _ _ is'.proper in
      let small = ltb-true _ _ p.0 in
      let small' = ltb-true _ _ q.0 in
      let parts = same_cut 32 (decimal a.thread) (decimal b.thread) _ _ (decimal_lacks 32 a.thread refl small) (decimal_lacks 32 b.thread refl small') (sym is.spelled ∙ is'.spelled) in
      let thread = decimal_injective a.thread b.thread small small' parts.0 in
      let kind = same_kind a.kind b.kind p.1 q.1 parts.1 in
      λ i. record { thread = thread i; kind = kind i }
