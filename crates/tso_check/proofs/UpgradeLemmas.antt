-- A valid certificate stays one with a table of intervals that names no more arrays and holds all registers.
use Rattle.std.proofs.Common.{◌≡◌, ◌∙◌, ℕ, ◌⊎◌, inl, inr, Bool, true, false, not, ◌&&◌, List, Option, None, Some, map, slice_get, refl, sym, ap, subst}
use Rattle.std.specs.Prelude.{Err, IfErr, IfOk, Ok, Result}
use Rattle.std.specs.Option.{option_map}
use Rattle.std.proofs.lemmas.Bool.{and_from, and_parts}
use Rattle.std.proofs.lemmas.Option.{slice_get-map}
use Rattle.tso_cells.specs.Inductive.{IsInductive}
use Rattle.tso_cells.specs.declared.table.IntervalTable.{IntervalTable}
use Rattle.tso_cert.proofs.TreeCode.{front_of}
use Rattle.tso_cert.proofs.Uniqueness.{unique}
use Rattle.tso_cert.specs.Certificates.{Spells, certificate, front_at}
use Rattle.tso_cert.specs.Lookup.{tree_states}
use Rattle.tso_cert.specs.Seen.{AreWithin}
use Rattle.tso_cert.specs.Trees.{IsWithinLimits, Tree, records_of, spelling_of}
use Rattle.tso_check.proofs.OneAnswer.{one_answer}
use Rattle.tso_check.specs.Laws.{IsSameButMemory}
use Rattle.tso_check.specs.Upgrades.{HasRecords, IsMadeFor, IsNoAcceptance, IsNotRenewed, IsNotUpgraded, IsRenewed, IsRenewedWith, IsSpelledAnew, IsUpgraded}
use Rattle.tso_check.specs.Verdicts.{IsAnswer}
use Rattle.tso_check.specs.declared.upgrading.UpgradeError.{UpgradeError}
use Rattle.tso_check.specs.declared.upgrading.UpgradeError.TheVariants.{Memory, NotAccepted}
use Rattle.tso_check.specs.declared.verdict.Verdict.{Verdict}
use Rattle.tso_check.specs.declared.verdict.Verdict.TheVariants.{Accepted, Rejected}
use Rattle.tso_choose.specs.Choices.{actors_of}
use Rattle.tso_client.specs.Headline.{DenotesChecked}
use Rattle.tso_client.specs.declared.error.CheckError.{CheckError}
use Rattle.tso_client.specs.declared.error.CheckError.TheVariants as errors
use Rattle.tso_compact.specs.declared.sort.StepKind.{StepKind}
use Rattle.tso_compact.specs.declared.sort.StepKind.TheVariants as kinds
use Rattle.tso_foot.proofs.NarrowerLemmas.{narrower_foresees_no_more}
use Rattle.tso_foot.specs.Ahead.{future_reads, future_writes}
use Rattle.tso_foot.specs.Narrower.{IsNarrower, IsNarrowerThanClosed}
use Rattle.tso_foot.specs.declared.table.ArrayTable.{ArrayTable}
use Rattle.tso_foot.specs.declared.table.Table.{Table}
use Rattle.tso_foot.specs.declared.table.Table.TheVariants.{Arrays, Intervals}
use Rattle.tso_indep.specs.Reasons.{is_far, is_reason, is_reason_if, kind_in}
use Rattle.tso_indep.specs.declared.reason.Reason.{Reason}
use Rattle.tso_indep.specs.declared.reason.Reason.TheVariants as reasons
use Rattle.tso_rec.specs.Conditions.{EndFits, HaveReasons, SuccessorsAreKept}
use Rattle.tso_judge.specs.Valid.{IsValidCertificate, IsValidRecord, IsValidTree}
use Rattle.tso_prog.specs.declared.client.Client.{Client}
use Rattle.tso_rec.specs.Bases.{basis, by_steps}
use Rattle.tso_rec.specs.declared.basis.Basis.{Basis}
use Rattle.tso_rec.specs.declared.basis.Grain.{Grain}
use Rattle.tso_rec.specs.declared.basis.Grain.TheVariants.{Steps}
use Rattle.tso_judge.proofs.Tables.{table_fits}
use Rattle.tso_rec.specs.declared.record.End.{End}
use Rattle.tso_rec.specs.declared.record.End.TheVariants.{Choices, Order}
use Rattle.tso_rec.specs.declared.record.Record.{Record}
use Rattle.tso_scan.specs.Scanned.{IsScannedTree}
use Rattle.tso_scan.specs.declared.scanned.Scanned.{Scanned}
use Rattle.tso_state.specs.WellFormed.{IsWellFormed}
use Rattle.tso_state.specs.declared.actor.Actor.{Actor}
use Rattle.tso_state.specs.declared.state.State.{State}

-- ---- reasons

not_less : (x y : Bool) → (y ≡ true → x ≡ true) → not x ≡ true → not y ≡ true
not_less x true f h = let clash : false ≡ true = ap not (sym (f refl)) ∙ h in absurd cc
not_less x false f h = refl

module _ (c : Client) (a : ArrayTable) (t : IntervalTable) (is : IsInductive c t) (narrow : IsNarrower t a) (s : State) (w : IsWellFormed c s) (j : ℕ) where
  no_read : (place : ℕ) → not (future_reads c (Arrays a) s j place) ≡ true → not (future_reads c (Intervals t) s j place) ≡ true
  no_read place h = not_less _ _ (narrower_foresees_no_more c t a s j place is narrow w).reads h

  no_write : (place : ℕ) → not (future_writes c (Arrays a) s j place) ≡ true → not (future_writes c (Intervals t) s j place) ≡ true
  no_write place h = not_less _ _ (narrower_foresees_no_more c t a s j place is narrow w).writes h

  neither : (place : ℕ) → (not (future_reads c (Arrays a) s j place) && not (future_writes c (Arrays a) s j place)) ≡ true
      → (not (future_reads c (Intervals t) s j place) && not (future_writes c (Intervals t) s j place)) ≡ true
  neither place h = let (reads, writes) = and_parts _ _ h in and_from _ _ (no_read place reads) (no_write place writes)

  far_too : (kind : StepKind) → is_far (future_reads c (Arrays a) s j) (future_writes c (Arrays a) s j) kind ≡ true
      → is_far (future_reads c (Intervals t) s j) (future_writes c (Intervals t) s j) kind ≡ true
  far_too (kinds.Load place) h = no_write place h
  far_too (kinds.Drain place) h = neither place h
  far_too (kinds.Locked place) h = neither place h
  far_too kinds.Local h = absurd cc
  far_too kinds.Call h = absurd cc
  far_too kinds.Return h = absurd cc

  reason_too : (chosen : List Actor) (kind : StepKind) (reason : Reason) → is_reason c (Arrays a) s chosen kind j reason ≡ true → is_reason c (Intervals t) s chosen kind j reason ≡ true
  reason_too chosen kind reasons.Own h = h
  reason_too chosen kind reasons.Far h = far_too kind h
  reason_too chosen kind reasons.Inside h = h
  reason_too chosen kind reasons.Buffer h = h
  reason_too chosen kind reasons.Return h = h
  reason_too chosen kind reasons.NoReturn h = h

  any_too : (chosen : List Actor) (kind : Option StepKind) (reason : Reason) → is_reason_if c (Arrays a) s chosen kind j reason ≡ true → is_reason_if c (Intervals t) s chosen kind j reason ≡ true
  any_too chosen None reason h = h
  any_too chosen (Some kind) reason h = reason_too chosen kind reason h

module _ (c : Client) (a : ArrayTable) (t : IntervalTable) (is : IsInductive c t) (narrow : IsNarrower t a) where
  abbrev before : Basis
  before = by_steps (Arrays a)

  abbrev after : Basis
  after = by_steps (Intervals t)

  reasons_too : (s : State) (e : End) → IsWellFormed c s → HaveReasons c before s e → HaveReasons c after s e
  reasons_too s (Choices choices) w have = λ k d lt.
      let old = have k d lt in
      record {
        count = old.count;
        each = λ j reason few apart at. any_too c a t is narrow s w j (actors_of choices) (kind_in c s _) reason (old.each j reason few apart at);
      }
  reasons_too s (Order order) w have = tt

  fits_too : (s : State) (e : End) → EndFits c before s e → EndFits c after s e
  fits_too s (Choices choices) fits = fits
  fits_too s (Order order) fits = fits

  kept_too : (states : List State) (s : State) (e : End) → SuccessorsAreKept c before states s e → SuccessorsAreKept c after states s e
  kept_too states s (Choices choices) kept = kept
  kept_too states s (Order order) kept = kept

  record_too : (states : List State) (k : ℕ) (r : Record) → slice_get states k ≡ Some r.state → AreWithin (Intervals t) states → IsValidRecord c before states r → IsValidRecord c after states r
  record_too states k r at within met = record {
    well_formed = met.well_formed;
    fits = fits_too r.state r.end met.fits;
    reasons = reasons_too r.state r.end met.well_formed met.reasons;
    successors = kept_too states r.state r.end met.successors;
    unstopped = met.unstopped;
    explained = met.explained;
    within = within k r.state at;
  }

-- ---- certificates

state_at : (records : List Record) (k : ℕ) (r : Record) → slice_get records k ≡ Some r → slice_get (map (λ (x : Record). x.state) records) k ≡ Some r.state
state_at records k r at = slice_get-map (λ (x : Record). x.state) records k ∙ ap (option_map (λ (x : Record). x.state)) at

pub valid_of : (c : Client) (bytes : List ℕ) (t : Basis) (tree : Tree) → IsValidCertificate c bytes → Spells bytes t tree → IsWithinLimits tree → IsValidTree c t tree
valid_of c bytes t tree v spelled within =
    let (table, same) = unique.one_value bytes v.basis t v.tree tree v.spelled v.within spelled within in
    subst (λ (d : Tree). IsValidTree c t d) same (subst (λ (u : Basis). IsValidTree c u v.tree) table v.valid)

module _ (c : Client) (bytes : List ℕ) (a : ArrayTable) (t : IntervalTable) (tree : Tree) (v : IsValidCertificate c bytes) (spelled : Spells bytes (by_steps (Arrays a)) tree) (limits : IsWithinLimits tree)
    (is : IsInductive c t) (within : AreWithin (Intervals t) (tree_states tree)) (narrow : IsNarrower t a) (upgraded : List ℕ) (written : upgraded ≡ certificate (by_steps (Intervals t)) tree) where
  pub new_spelled : Spells upgraded (by_steps (Intervals t)) tree
  new_spelled = ((table_fits c (Intervals t) is, spelled.0.1), written)

  pub new_tree : IsValidTree c (by_steps (Intervals t)) tree
  new_tree =
      let old = valid_of c bytes (by_steps (Arrays a)) tree v spelled limits in
      record {
        ordered = old.ordered;
        closed = is;
        initial = old.initial;
        records = λ k r at. record_too c a t is narrow (tree_states tree) k r (state_at (records_of tree) k r at) within (old.records k r at);
      }

  pub new_valid : IsValidCertificate c upgraded
  new_valid = record { basis = by_steps (Intervals t); tree = tree; spelled = new_spelled; within = limits; valid = new_tree }

  pub new_anew : IsSpelledAnew bytes upgraded
  new_anew = record { grain = Steps; table = Arrays a; tree = tree; intervals = t; before = spelled; after = new_spelled; same = λ u e. absurd cc }

-- bytes that are made for the tree
pub made_valid : (c : Client) (bytes new : List ℕ) (a : ArrayTable) (tree : Tree) → IsValidCertificate c bytes → Spells bytes (by_steps (Arrays a)) tree → IsWithinLimits tree → IsMadeFor c tree new → IsRenewed c tree bytes new
unfolding new_anew
made_valid c bytes new a tree v spelled limits made =
    let closed = (valid_of c bytes (by_steps (Arrays a)) tree v spelled limits).closed in
    let narrow = made.narrow a closed in
    record {
      before = v;
      after = new_valid c bytes a made.intervals tree v spelled limits made.inductive made.within narrow new made.written;
      spelled = new_anew c bytes a made.intervals tree v spelled limits made.inductive made.within narrow new made.written;
      same = refl;
    }

-- a table of intervals for the states in a store, before the bytes of the tree that they were read from
pub made_for : (c : Client) (tree : Tree) (s : Scanned) (t : IntervalTable) (new : List ℕ) → IsScannedTree c tree s → IsInductive c t → AreWithin (Intervals t) s.store.states → IsNarrowerThanClosed c t → new ≡ certificate (by_steps (Intervals t)) tree
    → IsMadeFor c tree new
made_for c tree s t new is inductive within narrow written = record { intervals = t; inductive = inductive; within = subst (AreWithin (Intervals t)) is.states within; narrow = narrow; written = written }

same_front : (bytes : List ℕ) (x y : Basis × List ℕ) → front_at bytes ≡ Ok x → front_at bytes ≡ Ok y → x ≡ y
same_front bytes x y e f = cc

-- the bytes behind the table are those of the tree
pub tree_behind : (bytes rest : List ℕ) (t u : Basis) (tree : Tree) → Spells bytes t tree → front_at bytes ≡ Ok (u, rest) → rest ≡ spelling_of t.grain tree
tree_behind bytes rest t u tree spelled e = ap (λ (x : Basis × List ℕ). x.1) (same_front bytes (u, rest) (t, spelling_of t.grain tree) e (front_of bytes t tree spelled))

-- bytes that have such a table
pub same_anew : (c : Client) (bytes new : List ℕ) (g : Grain) (t : IntervalTable) (tree : Tree) → IsValidCertificate c bytes → Spells bytes (basis g (Intervals t)) tree → new ≡ bytes → IsRenewed c tree bytes new
same_anew c bytes new g t tree v spelled is =
    let spelled_too : Spells new (basis g (Intervals t)) tree = (spelled.0, is ∙ spelled.1) in
    record {
      before = v;
      after = subst (IsValidCertificate c) (sym is) v;
      spelled = record { grain = g; table = Intervals t; tree = tree; intervals = t; before = spelled; after = spelled_too; same = λ u e. is };
      same = refl;
    }

-- ---- what is answered

-- of an error
pub on_error : {A E : Type 0} {P Q : E → Type 0} (r : Result A E) → ((e : E) → P e → Q e) → IfErr r P → IfErr r Q
on_error (Ok x) f h = tt
on_error (Err e) f h = f e h

module _ (text bytes : List ℕ) where
  refused_with : (given answer : Result Verdict CheckError) → IsNoAcceptance given → IsNoAcceptance answer → IsSameButMemory given answer → given ≡ answer
  refused_with given answer p q (inl same) = same
  refused_with given answer p q (inr (inl e)) = absurd (p.not_memory e)
  refused_with given answer p q (inr (inr e)) = absurd (q.not_memory e)

  pub not_upgraded : (e : UpgradeError) → IsNotUpgraded text bytes e → (answer : Result Verdict CheckError) → IsAnswer text bytes answer → IsNoAcceptance answer
      → (e ≡ NotAccepted answer) ⊎ (e ≡ Memory)
  not_upgraded (NotAccepted given) (is, apart) answer other none = inl (ap NotAccepted (refused_with given answer apart none (one_answer text bytes given answer is other)))
  not_upgraded Memory is answer other none = inr refl

  pub accepted_only : (answer : Result Verdict CheckError) → IsAnswer text bytes (Ok Accepted) → IsAnswer text bytes answer → IsNoAcceptance answer → ⊥
  accepted_only answer is other none = elim (one_answer text bytes (Ok Accepted) answer is other) [
    | inl same ↦ none.not_accepted (sym same)
    | inr (inl e) ↦ let clash : Ok Accepted ≡ Err errors.Memory = e in absurd cc
    | inr (inr e) ↦ none.not_memory e
  ]

  pub memory_alone : (e : UpgradeError) → IsNotUpgraded text bytes e → IsAnswer text bytes (Ok Accepted) → e ≡ Memory
  memory_alone (NotAccepted given) (is, apart) accepted = absurd (accepted_only given accepted is apart)
  memory_alone Memory is accepted = refl

  pub as_upgraded : (c : Client) (new : List ℕ) (count : ℕ) → DenotesChecked text c → IsRenewedWith c bytes new count → IsUpgraded text bytes new
  as_upgraded c new count denotes with = let r = with.renewed in record { before = (c, denotes, r.before); after = (c, denotes, r.after); spelled = r.spelled }

  pub as_counted : (c : Client) (new : List ℕ) (count : ℕ) → IsRenewedWith c bytes new count → HasRecords new count
  as_counted c new count with =
      let r = with.renewed in
      record { basis = basis r.spelled.grain (Intervals r.spelled.intervals); tree = with.tree; spelled = subst (Spells new (basis r.spelled.grain (Intervals r.spelled.intervals))) r.same r.spelled.after; within = with.within; counted = with.counted }

  pub as_refused : (c : Client) (e : UpgradeError) → DenotesChecked text c → IsNotRenewed c bytes e → IsNotUpgraded text bytes e
  as_refused c (NotAccepted (Ok Accepted)) denotes not = absurd not
  as_refused c (NotAccepted (Ok (Rejected code place))) denotes verdict = ((c, denotes, verdict), record { not_accepted = λ e. absurd cc; not_memory = λ e. absurd cc })
  as_refused c (NotAccepted (Err e)) denotes not = absurd not
  as_refused c Memory denotes not = tt

  -- the same of results
  pub exact_error : {V : Type 0} (items : V → List ℕ) (r : Result V UpgradeError) → IfErr r (λ e. IsNotUpgraded text bytes e) → IfOk r (λ new. IsUpgraded text bytes (items new)) → (answer : Result Verdict CheckError)
      → IsAnswer text bytes answer → IsNoAcceptance answer → (r ≡ Err (NotAccepted answer)) ⊎ (r ≡ Err Memory)
  exact_error items (Ok new) refused upgraded answer is none = absurd (accepted_only answer upgraded.before is none)
  exact_error items (Err e) refused upgraded answer is none = elim (not_upgraded e refused answer is none) [ inl same ↦ inl (ap Err same) | inr same ↦ inr (ap Err same) ]

  pub accepted_error : {V : Type 0} (r : Result V UpgradeError) → IfErr r (λ e. IsNotUpgraded text bytes e) → IsAnswer text bytes (Ok Accepted) → IfErr r (λ e. e ≡ Memory)
  accepted_error (Ok new) refused is = tt
  accepted_error (Err e) refused is = memory_alone e refused is
