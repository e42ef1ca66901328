-- A text and bytes have one answer, want of memory aside.
use Rattle.std.proofs.Common.{◌≡◌, ◌∙◌, ℕ, ◌⊎◌, inl, inr, List, Some, Result, Ok, Err, refl, sym, ap, subst}
use Rattle.tso_client.proofs.OneText.{one_first, same_client}
use Rattle.tso_check.proofs.OneVerdict.{one_verdict}
use Rattle.tso_check.proofs.VerdictLemmas.{accepted}
use Rattle.tso_client.specs.Headline.{DenotesChecked, IsVerified}
use Rattle.tso_check.specs.Laws.{IsSameButMemory}
use Rattle.tso_client.specs.Programs.{IsClientOf, IsRefused}
use Rattle.tso_check.specs.Verdicts.{IsAnswer, IsVerdict}
use Rattle.tso_client.specs.declared.error.CheckError.{CheckError}
use Rattle.tso_client.specs.declared.error.CheckError.TheVariants.{Program, Memory}
use Rattle.tso_check.specs.declared.verdict.Verdict.{Verdict}
use Rattle.tso_check.specs.declared.verdict.Verdict.TheVariants.{Accepted}
use Rattle.tso_flow.specs.Faults.{HasFault, IsFirst}
use Rattle.tso_judge.specs.Valid.{IsValidCertificate}
use Rattle.tso_prog.specs.Client.{client}
use Rattle.tso_prog.specs.Clients.{ClientOf}
use Rattle.tso_prog.specs.declared.client.Client.{Client}
use Rattle.tso_prog.specs.declared.fault.Fault.{Fault}

-- ---- what a text is read as

same_value : (r : Result ClientOf Fault) (x y : ClientOf) → r ≡ Ok x → r ≡ Ok y → x ≡ y
same_value r x y e f = cc

same_fault : (r : Result ClientOf Fault) (x y : Fault) → r ≡ Err x → r ≡ Err y → x ≡ y
same_fault r x y e f = cc

not_both : (r : Result ClientOf Fault) (x : ClientOf) (y : Fault) → r ≡ Ok x → r ≡ Err y → ⊥
not_both r x y e f = cc

module _ (text : List ℕ) where
  -- a text denotes one client
  one_client : (c d : Client) → IsClientOf text c → IsClientOf text d → c ≡ d
  one_client c d f g =
      same_client c d (same_value _ (client c) (client d) f.denoted g.denoted) (f.lines.push_lines ∙ sym g.lines.push_lines) (f.lines.pop_lines ∙ sym g.lines.pop_lines)

  as_client : (c : Client) → DenotesChecked text c → IsClientOf text c
  as_client c d = record { denoted = d.denoted; lines = d.lines }

  -- a text that is refused denotes no checked client
  not_refused : (c : Client) (f : Fault) → DenotesChecked text c → IsRefused text f → ⊥
  not_refused c f d (inl e) = not_both _ (client c) f d.denoted e
  not_refused c f d (inr (b, is, first)) = d.sound f (subst (λ x. HasFault x f) (one_client b c is (as_client c d)) first.0)

  -- a text has one first fault
  one_refusal : (f g : Fault) → IsRefused text f → IsRefused text g → f ≡ g
  one_refusal f g (inl e) (inl h) = same_fault _ f g e h
  one_refusal f g (inl e) (inr (c, is, first)) = absurd (not_both _ (client c) f is.denoted e)
  one_refusal f g (inr (c, is, first)) (inl h) = absurd (not_both _ (client c) g is.denoted h)
  one_refusal f g (inr (b, is, first)) (inr (c, other, second)) =
      one_first (HasFault c) f g (subst (λ x. IsFirst (HasFault x) (Some f)) (one_client b c is other) first) second

  -- ---- answers

  abbrev as_answer : Verdict → Result Verdict CheckError
  as_answer v = Ok v

  abbrev as_refusal : Fault → Result Verdict CheckError
  as_refusal f = Err (Program f)

  abbrev as_want : Result Verdict CheckError
  as_want = Err Memory

  pub one_answer : (bytes : List ℕ) (a b : Result Verdict CheckError) → IsAnswer text bytes a → IsAnswer text bytes b → IsSameButMemory a b
  one_answer bytes (Ok v) (Ok w) (c, d, is) (b, e, other) =
      inl (ap as_answer (one_verdict b bytes v w (subst (λ x. IsVerdict x bytes v) (one_client c b (as_client c d) (as_client b e)) is) other))
  one_answer bytes (Ok v) (Err (Program f)) (c, d, is) g = absurd (not_refused c f d g)
  one_answer bytes (Ok v) (Err Memory) p q = inr (inr refl)
  one_answer bytes (Err (Program f)) (Ok v) g (c, d, is) = absurd (not_refused c f d g)
  one_answer bytes (Err (Program f)) (Err (Program g)) p q = inl (ap as_refusal (one_refusal f g p q))
  one_answer bytes (Err (Program f)) (Err Memory) p q = inr (inr refl)
  one_answer bytes (Err Memory) b p q = inr (inl refl)

  -- a text with this first fault is refused for it
  pub refused_for : (bytes : List ℕ) (a : Result Verdict CheckError) (f : Fault) → IsAnswer text bytes a → IsRefused text f → (a ≡ Err (Program f)) ⊎ (a ≡ Err Memory)
  refused_for bytes a f p r = elim (one_answer bytes a (as_refusal f) p r) [
    | inl same ↦ inl same
    | inr other ↦ elim other [ inl want ↦ inr want | inr clash ↦ absurd (let e : as_refusal f ≡ as_want = clash in cc) ]
  ]

  -- a valid certificate is accepted
  pub accepted_if_valid : (bytes : List ℕ) (a : Result Verdict CheckError) (c : Client) → IsAnswer text bytes a → DenotesChecked text c → IsValidCertificate c bytes → (a ≡ Ok Accepted) ⊎ (a ≡ Err Memory)
  accepted_if_valid bytes a c p d v = elim (one_answer bytes a (as_answer Accepted) p (c, d, v)) [
    | inl same ↦ inl same
    | inr other ↦ elim other [ inl want ↦ inr want | inr clash ↦ absurd (let e : as_answer Accepted ≡ as_want = clash in cc) ]
  ]

  -- what an answer accepts is verified
  pub verified : (bytes : List ℕ) (a : Result Verdict CheckError) → IsAnswer text bytes a → a ≡ Ok Accepted → IsVerified text
  verified bytes (Ok v) (c, d, is) e = accepted text bytes c v d is (let same : as_answer v ≡ as_answer Accepted = e in cc)
  verified bytes (Err x) p e = absurd cc
