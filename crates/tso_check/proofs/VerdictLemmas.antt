-- From what was found of bytes, a table and a tree to the verdict.
use Rattle.std.proofs.Common.{◌≡◌, ◌∙◌, ℕ, Bool, List, None, Result, Ok, Err, refl, sym, subst}
use Rattle.std.specs.Prelude.{◌↔◌, Contains, IfOk, IsTrue}
use Rattle.std.specs.declared.alloc.AllocError.{AllocError}
use Rattle.tso_cert.proofs.Uniqueness.{reads}
use Rattle.tso_cert.specs.Certificates.{Fails, Spells, certificate_at}
use Rattle.tso_cert.specs.Limits.{PassesLimit}
use Rattle.tso_cert.specs.Trees.{IsWithinLimits, Tree}
use Rattle.tso_cert.specs.declared.cert.Cert.{Cert}
use Rattle.tso_cert.specs.declared.fault.DecodeError.{DecodeError}
use Rattle.tso_cert.specs.declared.fault.DecodeError.TheVariants as errors
use Rattle.tso_cert.specs.declared.fault.Fault.{Fault}
use Rattle.tso_cert.specs.declared.fault.Fault.TheVariants as limits
use Rattle.tso_check.proofs.Goodness.{each_run_is_good}
use Rattle.tso_client.specs.Headline.{DenotesChecked, IsVerified}
use Rattle.tso_foot.specs.declared.table.ArrayTable.{ArrayTable}
use Rattle.tso_foot.specs.declared.table.Table.{Table}
use Rattle.tso_judge.proofs.CrossingLemmas.{meets_initial}
use Rattle.tso_judge.specs.Valid.{ContainsInitial, MeetsInitial}
use Rattle.tso_move.specs.Crossed.{IsMetFrom}
use Rattle.tso_rec.specs.Conditions.{IsLeast}
use Rattle.tso_check.specs.Verdicts.{IsFault, IsOfFault, IsTreeVerdict, IsVerdict, code_of, no_certificate, of_tree, past_limit}
use Rattle.tso_check.specs.declared.verdict.Verdict.{Verdict}
use Rattle.tso_check.specs.declared.verdict.Verdict.TheVariants.{Accepted, Rejected}
use Rattle.tso_compact.specs.Laws.{initial_of}
use Rattle.tso_rec.specs.declared.basis.Basis.{Basis}
use Rattle.tso_prog.specs.declared.client.Client.{Client}
use Rattle.tso_state.specs.Views.{state_of}
use Rattle.tso_state.specs.declared.state.State.{State}
use Rattle.tso_confluence.proofs.Views.{same_state}

-- the initial state is one
pub initial_there : (c : Client) (states : List State) (s : State) → state_of s ≡ initial_of c → ContainsInitial c states → Contains states s
initial_there c states s first h = subst (Contains states) (same_state h.initial s (h.first ∙ sym first)) h.there

-- the run from the initial state is met or not, where that is answered
pub if_initial : (c : Client) (own : ArrayTable) (t : Table) (states : List State) (s : State) (r : Result Bool AllocError) → IsLeast c own → state_of s ≡ initial_of c
    → IfOk r (λ b. IsTrue b ↔ IsMetFrom c own t states s) → IfOk r (λ b. IsTrue b ↔ MeetsInitial c t states)
if_initial c own t states s (Ok b) least first met = meets_initial c own t states s b least first met
if_initial c own t states s (Err e) least first met = tt

-- the verdict on what bytes spell is that on the bytes
pub whole : (c : Client) (bytes : List ℕ) (t : Basis) (tree : Tree) → Spells bytes t tree → IsWithinLimits tree → (v : Verdict) → IsTreeVerdict c t tree v → IsVerdict c bytes v
whole c bytes t tree spelled within Accepted valid = record { basis = t; tree = tree; spelled = spelled; within = within; valid = valid }
whole c bytes t tree spelled within (Rejected code place) fault = of_tree code place t tree spelled within fault

pub accepted : (text bytes : List ℕ) (c : Client) (v : Verdict) → DenotesChecked text c → IsVerdict c bytes v → v ≡ Accepted → IsVerified text
accepted text bytes c v denotes is e =
    let valid = subst (IsVerdict c bytes) e is in
    record { verified = c; denotes = denotes; good = each_run_is_good c valid.basis valid.tree valid.valid }

abbrev failed : DecodeError → Result (Basis × Cert) DecodeError
failed e = Err e

abbrev faulted : Fault → Result (Basis × Tree) Fault
faulted f = Err f

abbrev decoded : Basis → Tree → Result (Basis × Tree) Fault
decoded t tree = Ok (t, tree)

-- a fault of the bytes, for what was answered
faulty : (c : Client) (bytes : List ℕ) (e : DecodeError) (f : Fault) → e ≡ errors.Fault f → Fails e (certificate_at bytes) → (failed e ≡ failed (errors.Fault limits.K02) → PassesLimit bytes)
    → (PassesLimit bytes → Fails e (faulted limits.K02)) → IsFault c bytes (code_of f) None
faulty c bytes errors.Memory f is exact passed beyond = absurd cc
faulty c bytes (errors.Fault limits.K01) limits.K01 is exact passed beyond = no_certificate (
  (λ t tree spelled within. let there = reads bytes t tree spelled within in let clash : decoded t tree ≡ faulted limits.K01 = sym there ∙ exact in cc),
  (λ p. let clash : faulted limits.K02 ≡ faulted limits.K01 = beyond p in cc),
)
faulty c bytes (errors.Fault limits.K01) limits.K02 is exact passed beyond = absurd cc
faulty c bytes (errors.Fault limits.K02) limits.K01 is exact passed beyond = absurd cc
faulty c bytes (errors.Fault limits.K02) limits.K02 is exact passed beyond = past_limit (passed refl)

pub of_fault : (c : Client) (bytes : List ℕ) (e : DecodeError) → Fails e (certificate_at bytes) → (failed e ≡ failed (errors.Fault limits.K02) → PassesLimit bytes) → (PassesLimit bytes → Fails e (faulted limits.K02))
    → (v : Verdict) → IsOfFault e v → IsVerdict c bytes v
of_fault c bytes e exact passed beyond v (f, is, same) = subst (IsVerdict c bytes) (sym same) (faulty c bytes e f is exact passed beyond)
