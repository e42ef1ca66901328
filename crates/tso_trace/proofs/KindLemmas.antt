-- What threads do, by its text.
use Rattle.std.proofs.Common.{◌≡◌, ◌≢◌, ℕ, ◌<◌, ◌^◌, false, List, ◌++◌, codes, decimal, IsTrue}
use Rattle.std.proofs.lemmas.Bool.{ltb-true, true≢false}
use Rattle.tso_line.specs.declared.instruction.CallKind.TheVariants as calls
use Rattle.tso_prog.specs.declared.answer.Answer.TheVariants as answers
use Rattle.tso_prog.specs.declared.client.Array.{Array}
use Rattle.tso_machine.specs.declared.label.LabelKind.{LabelKind}
use Rattle.tso_machine.specs.declared.label.LabelKind.TheVariants as kinds
use Rattle.tso_trace.specs.Grammar.{access_text, is_access, is_proper_kind, kind_text}
use Rattle.tso_trace.specs.Parts.{is_bare}

-- the text is no access behind this word
abbrev pub IsNoAccess : List Array → List ℕ → List ℕ → Type 0
IsNoAccess arrays text verb = (place word : ℕ) → IsTrue (is_access arrays place word) → text ≢ verb ++ access_text arrays place word

-- nor is it a number behind this word
abbrev pub IsNoNumber : List ℕ → List ℕ → Type 0
IsNoNumber text word = (n : ℕ) → n < 2 ^ 64 → text ≢ word ++ decimal n

-- a text without a number
pub record HasNoNumber (arrays : List Array) (text : List ℕ) : Type 0 where
  pub call : IsNoNumber text (codes "call push ")
  pub answer : IsNoNumber text (codes "return value ")
  pub read : IsNoAccess arrays text (codes "read ")
  pub write : IsNoAccess arrays text (codes "write ")
  pub drain : IsNoAccess arrays text (codes "drain ")

pub no_number : (arrays : List Array) (text : List ℕ) → HasNoNumber arrays text → (k : LabelKind) → is_bare k ≡ false → IsTrue (is_proper_kind arrays k) → text ≢ kind_text arrays k
no_number arrays text none (kinds.Call (calls.Push n)) bare proper is = none.call n (ltb-true _ _ proper) is
no_number arrays text none (kinds.Read place word) bare proper is = none.read place word proper is
no_number arrays text none (kinds.Write place word) bare proper is = none.write place word proper is
no_number arrays text none (kinds.Drain place word) bare proper is = none.drain place word proper is
no_number arrays text none (kinds.Return (answers.Value n)) bare proper is = none.answer n (ltb-true _ _ proper) is
no_number arrays text none _ bare proper is = absurd (true≢false bare)
