-- The lines of a trace's text.
use Rattle.std.proofs.Common.{◌≡◌, ◌∙◌, ℕ, true, List, [], ◌∷◌, ◌++◌, codes, decimal, sym, ap, refl}
use Rattle.std.proofs.lemmas.Bool.{and_parts, ltb-true}
use Rattle.std.proofs.lemmas.List.{append_assoc}
use Rattle.tso_line.specs.declared.instruction.CallKind.TheVariants as calls
use Rattle.tso_prog.specs.declared.answer.Answer.TheVariants as answers
use Rattle.tso_prog.specs.declared.client.Client.{Client}
use Rattle.tso_machine.specs.declared.action.FaultKind.TheVariants as faults
use Rattle.tso_machine.specs.declared.label.Label.{Label}
use Rattle.tso_machine.specs.declared.label.LabelKind.{LabelKind}
use Rattle.tso_machine.specs.declared.label.LabelKind.TheVariants as kinds
use Rattle.tso_trace.specs.Grammar.{access_text, ended, header, is_access, is_proper, is_proper_kind, kind_text, line_text, named_cell}
use Rattle.tso_trace.specs.Parts.{lacks}
use Rattle.tso_trace.proofs.AccessLemmas.{access_of}
use Rattle.tso_trace.proofs.LineLemmas.{decimal_lacks, lacks-append, same_cut}
use Rattle.tso_trace.proofs.SameLemmas.{same_label}

-- a line goes up to its newline
pub ended_parts : (line rest : List ℕ) → ended line ++ rest ≡ line ++ 10 ∷ rest
ended_parts line rest = append_assoc line (10 ∷ []) rest

header_lacks : lacks 10 header ≡ true
header_lacks = refl

module _ (c : Client) where
  access_lacks : (place word : ℕ) → is_access c.arrays place word ≡ true → lacks 10 (access_text c.arrays place word) ≡ true
  access_lacks place word proper =
      let a = access_of c place word proper in
      let index : lacks 10 (91 ∷ (decimal a.index ++ 93 ∷ [])) ≡ true = lacks-append 10 (decimal a.index) (93 ∷ []) (decimal_lacks 10 a.index refl a.small) refl in
      let cell : lacks 10 (named_cell a.name a.index) ≡ true = lacks-append 10 a.name (91 ∷ (decimal a.index ++ 93 ∷ [])) (a.plain 10 refl) index in
      let tail : lacks 10 (codes " = " ++ decimal word) ≡ true = decimal_lacks 10 word refl a.fits in
      ap (lacks 10) a.text ∙ lacks-append 10 (named_cell a.name a.index) (codes " = " ++ decimal word) cell tail

  kind_lacks : (k : LabelKind) → is_proper_kind c.arrays k ≡ true → lacks 10 (kind_text c.arrays k) ≡ true
  kind_lacks (kinds.Call (calls.Push n)) p = decimal_lacks 10 n refl (ltb-true _ _ p)
  kind_lacks (kinds.Call calls.Pop) p = refl
  kind_lacks (kinds.Read place word) p = access_lacks place word p
  kind_lacks (kinds.Write place word) p = access_lacks place word p
  kind_lacks (kinds.Drain place word) p = access_lacks place word p
  kind_lacks (kinds.Return (answers.Value n)) p = decimal_lacks 10 n refl (ltb-true _ _ p)
  kind_lacks (kinds.Return answers.Refused) p = refl
  kind_lacks (kinds.Return answers.Done) p = refl
  kind_lacks (kinds.Fault faults.OutOfRange) p = refl
  kind_lacks (kinds.Fault faults.FalseAssertion) p = refl
  kind_lacks (kinds.Fault faults.BadAnswer) p = refl
  kind_lacks kinds.Reg p = refl
  kind_lacks kinds.Fence p = refl
  kind_lacks kinds.Lock p = refl
  kind_lacks kinds.Unlock p = refl

  -- a line has no newline
  pub line_lacks : (l : Label) → is_proper c.arrays l ≡ true → lacks 10 (line_text c.arrays l) ≡ true
  line_lacks l p = let parts = and_parts _ _ p in lacks-append 10 (decimal l.thread) _ (decimal_lacks 10 l.thread refl (ltb-true _ _ parts.0)) (kind_lacks l.kind parts.1)

  -- the first line of a text is that of one label
  pub same_first : (a b : Label) (rest rest' : List ℕ) → is_proper c.arrays a ≡ true → is_proper c.arrays b ≡ true
      → ended (line_text c.arrays a) ++ rest ≡ ended (line_text c.arrays b) ++ rest' → (a ≡ b) × (rest ≡ rest')
  same_first a b rest rest' p q e =
      let parts = same_cut 10 (line_text c.arrays a) (line_text c.arrays b) rest rest' (line_lacks a p) (line_lacks b q) (sym (ended_parts _ rest) ∙ e ∙ ended_parts _ rest') in
      (same_label c (line_text c.arrays a) a b (record { proper = p; spelled = refl }) (record { proper = q; spelled = parts.0 }), parts.1)
