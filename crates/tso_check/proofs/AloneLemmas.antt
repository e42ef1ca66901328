-- From what a store remembers of the one chosen core to the conditions of its record.
use Rattle.std.proofs.Common.{◌≡◌, ◌∙◌, ℕ, zero, suc, ◌+◌, ◌<◌, true, false, List, [], ◌∷◌, length, Some, None, get_or, slice_get, sym, ap, subst, arith}
use Rattle.std.specs.Prelude.{All, IsTrue, is_some}
use Rattle.std.proofs.lemmas.Option.{same_Some, slice_get_within, slice_get-get_or}
use Rattle.tso_check.specs.Alone.{IsSureEnd, is_sure}
use Rattle.tso_choose.specs.Choices.{AreReasons, IsRising, actors_of, position_of}
use Rattle.tso_choose.specs.Needs.{is_enabled}
use Rattle.tso_choose.specs.declared.choice.Choice.{Choice}
use Rattle.tso_compact.specs.declared.sort.StepKind.{StepKind}
use Rattle.tso_foot.specs.declared.table.Table.{Table}
use Rattle.tso_indep.specs.Reasons.{is_reason, is_reason_if, kind_in}
use Rattle.tso_indep.specs.declared.reason.Reason.{Reason}
use Rattle.tso_indep.specs.declared.reason.Reason.TheVariants as reasons
use Rattle.tso_judge.specs.Judging.{IsJudgedAlone}
use Rattle.tso_prog.specs.declared.client.Client.{Client}
use Rattle.tso_rec.specs.Conditions.{AreMovers}
use Rattle.tso_rec.specs.Bases.{by_steps}
use Rattle.tso_rec.specs.declared.record.End.{End}
use Rattle.tso_rec.specs.declared.record.End.TheVariants.{Choices, Order}
use Rattle.tso_state.specs.Actors.{thread_of}
use Rattle.tso_state.specs.WellFormed.{IsWellFormed}
use Rattle.tso_state.specs.declared.actor.Actor.{Actor}
use Rattle.tso_state.specs.declared.actor.Actor.TheVariants.{Exec}
use Rattle.tso_state.specs.declared.state.State.{State}
use Rattle.tso_store.proofs.Alone.{kind_is}
use Rattle.tso_store.specs.Lone.{lone_core}

-- ---- lists

at_all : {X : Type 0} (P : X → Type 0) (xs : List X) (k : ℕ) (x : X) → All P xs → slice_get xs k ≡ Some x → P x
at_all P xs k x all at =
    let lt = slice_get_within xs k x at in
    subst P (same_Some (get_or xs k x) x (sym (slice_get-get_or xs k x lt) ∙ at)) (all k x lt)

one_at : {X : Type 0} (P : X → Type 0) (x d : X) (k : ℕ) → P x → k < 1 → P (get_or (x ∷ []) k d)
one_at P x d zero p lt = p
one_at P x d (suc k) p lt = absurd (omega (arith, lt))

one_all : {X : Type 0} (P : X → Type 0) (x : X) → P x → All P (x ∷ [])
one_all P x p = λ k d lt. one_at P x d k p lt

one_rises : (a : Actor) → IsRising (a ∷ [])
one_rises a n x y at next = let lt = slice_get_within (a ∷ []) (n + 1) y next in absurd (omega (arith, lt))

-- ---- steps

module _ (c : Client) (t : Table) (s : State) where
  sure_reason : (chosen : List Actor) (kind : StepKind) (j : ℕ) (reason : Reason) → is_sure kind reason ≡ true → is_reason c t s chosen kind j reason ≡ true
  sure_reason chosen kind j reasons.Own sure = sure
  sure_reason chosen kind j reasons.Return sure = sure
  sure_reason chosen kind j reasons.Far sure = absurd (let h : false ≡ true = sure in cc)
  sure_reason chosen kind j reasons.Inside sure = absurd (let h : false ≡ true = sure in cc)
  sure_reason chosen kind j reasons.Buffer sure = absurd (let h : false ≡ true = sure in cc)
  sure_reason chosen kind j reasons.NoReturn sure = absurd (let h : false ≡ true = sure in cc)

  sure_reasons : (chosen : List Actor) (x : Choice) (kind : StepKind) → kind_in c s x.actor ≡ Some kind → length x.reasons + 1 ≡ length s.threads
      → All (λ (r : Reason). IsTrue (is_sure kind r)) x.reasons → AreReasons c t s chosen x.actor x.reasons
  sure_reasons chosen x kind own count sure = record {
    count = count;
    each = λ j reason lt apart at.
        ap (λ o. is_reason_if c t s chosen o j reason) own
        ∙ sure_reason chosen kind j reason (at_all (λ (r : Reason). IsTrue (is_sure kind r)) x.reasons (position_of (thread_of x.actor) j) reason sure at);
  }

  one_moves : (x : Choice) (kind : StepKind) → kind_in c s x.actor ≡ Some kind → AreMovers c s (x ∷ [])
  one_moves x kind own = record { some = omega arith; rising = one_rises x.actor; enabled = one_all (λ (y : Choice). IsTrue (is_enabled c s y.actor)) x (ap is_some own) }

-- ---- ends

-- a well-formed state with such an end meets all conditions by itself
pub sure_met : (d c : Client) (t : Table) (states : List State) (n count : ℕ) (s : State) (e : End) → d ≡ c → slice_get states n ≡ Some s → count ≡ length s.threads
    → IsSureEnd d states n count e → IsWellFormed c s → IsJudgedAlone c (by_steps t) s e None
sure_met d c t states n count s (Order order) same at all sure formed = absurd sure
sure_met d c t states n count s (Choices choices) same at all sure formed =
    let x : Choice = sure.choice in
    let held = sure.held in
    let i = held.thread in
    let here : lone_core d s i ≡ Some held.kind = subst (λ (u : State). lone_core d u i ≡ Some held.kind) (same_Some _ _ (sym held.core.at ∙ at)) held.core.core.kind in
    let lone : lone_core c s i ≡ Some held.kind = subst (λ (b : Client). lone_core b s i ≡ Some held.kind) same here in
    let own : kind_in c s x.actor ≡ Some held.kind = ap (kind_in c s) held.actor ∙ kind_is (kind_in c s (Exec i)) held.kind lone in
    let P : List Choice → Type 0 = λ xs. IsJudgedAlone c (by_steps t) s (Choices xs) None in
    subst P (sym sure.only) (record {
      well_formed = formed;
      fits = one_moves c t s x held.kind own;
      reasons = one_all (λ (y : Choice). AreReasons c t s (actors_of (x ∷ [])) y.actor y.reasons) x (sure_reasons c t s (actors_of (x ∷ [])) x held.kind own (held.one_each ∙ all) held.sure);
      successors = tt;
      unstopped = tt;
      explained = tt;
      within = tt;
    })
