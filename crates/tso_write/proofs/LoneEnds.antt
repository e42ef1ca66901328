-- Ends of states in which a core's step goes first alone.
use Rattle.std.proofs.Common.{◌≡◌, ◌∙◌, ℕ, zero, suc, ◌*◌, ◌^◌, ◌<◌, ◌≤◌, ◌==◌, ◌++◌, inl, inr, Bool, true, false, List, [], ◌∷◌, length, if◌then◌else◌, map, Option, None, Some, refl, sym, ap, subst, arith, ne_eqb}
use Rattle.std.proofs.lemmas.Bool.{cases_lt, eq-eqb}
use Rattle.std.proofs.lemmas.Option.{same_Some}
use Rattle.tso_choose.proofs.ChoosingLemmas.{at_number}
use Rattle.tso_choose.specs.Choices.{actors_below, choice_of, choices_of, reasons_below, reasons_if}
use Rattle.tso_choose.specs.Closures.{has_bit}
use Rattle.tso_choose.specs.Sets.{actor_at}
use Rattle.tso_choose.specs.declared.choice.Choice.{Choice}
use Rattle.tso_compact.specs.declared.sort.StepKind.{StepKind}
use Rattle.tso_compact.specs.declared.sort.StepKind.TheVariants as kinds
use Rattle.tso_write.proofs.CuttingLemmas.{searched_well_formed}
use Rattle.tso_write.specs.Cutting.{IsEndAt, IsLoneEnd, lone_reason, reasons_but}
use Rattle.tso_foot.specs.declared.table.Table.{Table}
use Rattle.tso_search.specs.declared.ground.Ground.TheVariants.{Steps}
use Rattle.tso_indep.specs.Reasons.{kind_in}
use Rattle.tso_indep.specs.declared.reason.Reason.{Reason}
use Rattle.tso_indep.specs.declared.reason.Reason.TheVariants as reasons
use Rattle.tso_machine.specs.Programs.{calls_of}
use Rattle.tso_prog.specs.declared.client.Client.{Client}
use Rattle.tso_rec.specs.declared.record.End.{End}
use Rattle.tso_rec.specs.declared.record.End.TheVariants.{Choices}
use Rattle.tso_search.proofs.LoneLemmas.{core_chosen, one_bit, one_core}
use Rattle.tso_search.specs.Searched.{AreSearched}
use Rattle.tso_state.proofs.ClientLemmas.{calls_of-width}
use Rattle.tso_state.specs.declared.actor.Actor.{Actor}
use Rattle.tso_state.specs.declared.actor.Actor.TheVariants.{Exec}
use Rattle.tso_state.specs.declared.state.State.{State}
use Rattle.tso_store.proofs.Alone.{kind_is}
use Rattle.tso_store.specs.Lone.{IsFirstLoneCore, IsLoneAt, lone_of}
use Rattle.tso_store.specs.declared.lone.Lone.{Lone}

-- ---- its actors

left_out : (xs : List Actor) (x : Actor) (b : Bool) → b ≡ false → (if b then xs ++ x ∷ [] else xs) ≡ xs
left_out xs x false e = refl
left_out xs x true e = absurd cc

taken_in : (xs : List Actor) (x : Actor) (b : Bool) → b ≡ true → (if b then xs ++ x ∷ [] else xs) ≡ xs ++ x ∷ []
taken_in xs x true e = refl
taken_in xs x false e = absurd cc

none_below : (k n : ℕ) → n ≤ k → actors_below (2 ^ k) n ≡ []
none_below k zero le = refl
none_below k (suc n) le = left_out (actors_below (2 ^ k) n) (actor_at n) (has_bit (2 ^ k) n) (one_bit k n ∙ ne_eqb n k (λ e. omega (arith, e, le))) ∙ none_below k n (omega (arith, le))

one_below : (k n : ℕ) → k < n → actors_below (2 ^ k) n ≡ actor_at k ∷ []
one_below k zero lt = absurd (omega (arith, lt))
one_below k (suc n) lt = elim (cases_lt k n) [
  | inl less ↦ left_out (actors_below (2 ^ k) n) (actor_at n) (has_bit (2 ^ k) n) (one_bit k n ∙ ne_eqb n k (λ e. omega (arith, e, less))) ∙ one_below k n less
  | inr ge ↦
      let same : n ≡ k = omega (arith, lt, ge) in
      taken_in (actors_below (2 ^ k) n) (actor_at n) (has_bit (2 ^ k) n) (one_bit k n ∙ eq-eqb n k same) ∙ ap (λ (xs : List Actor). xs ++ actor_at n ∷ []) (none_below k n ge) ∙ ap (λ m. actor_at m ∷ []) same
]

-- ---- its reasons

local_reasons : (c : Client) (t : Table) (s : State) (chosen : List Actor) (i n : ℕ) → reasons_below c t s chosen kinds.Local i n ≡ reasons_but reasons.Own i n
local_reasons c t s chosen i zero = refl
local_reasons c t s chosen i (suc n) = ap (λ (xs : List Reason). if n == i then xs else xs ++ reasons.Own ∷ []) (local_reasons c t s chosen i n)

return_reasons : (c : Client) (t : Table) (s : State) (chosen : List Actor) (i n : ℕ) → reasons_below c t s chosen kinds.Return i n ≡ reasons_but reasons.Return i n
return_reasons c t s chosen i zero = refl
return_reasons c t s chosen i (suc n) = ap (λ (xs : List Reason). if n == i then xs else xs ++ reasons.Return ∷ []) (return_reasons c t s chosen i n)

lone_reasons : (c : Client) (t : Table) (s : State) (chosen : List Actor) (i n : ℕ) (o : Option StepKind) (kind : StepKind) → lone_of o ≡ Some kind → reasons_below c t s chosen kind i n ≡ reasons_but (lone_reason kind) i n
lone_reasons c t s chosen i n None kind e = absurd (let h : None ≡ Some kind = e in cc)
lone_reasons c t s chosen i n (Some kinds.Local) kind e =
    let same : kinds.Local ≡ kind = cc in
    subst (λ x. reasons_below c t s chosen x i n ≡ reasons_but (lone_reason x) i n) same (local_reasons c t s chosen i n)
lone_reasons c t s chosen i n (Some kinds.Return) kind e =
    let same : kinds.Return ≡ kind = cc in
    subst (λ x. reasons_below c t s chosen x i n ≡ reasons_but (lone_reason x) i n) same (return_reasons c t s chosen i n)
lone_reasons c t s chosen i n (Some kinds.Call) kind e = absurd (let h : None ≡ Some kind = e in cc)
lone_reasons c t s chosen i n (Some (kinds.Load place)) kind e = absurd (let h : None ≡ Some kind = e in cc)
lone_reasons c t s chosen i n (Some (kinds.Drain place)) kind e = absurd (let h : None ≡ Some kind = e in cc)
lone_reasons c t s chosen i n (Some (kinds.Locked place)) kind e = absurd (let h : None ≡ Some kind = e in cc)

-- ---- its end

-- the one choice that is made
abbrev alone : Lone → ℕ → Choice
alone l n = record { actor = Exec l.thread; reasons = reasons_but (lone_reason l.kind) l.thread n }

lone_choices : (c : Client) (t : Table) (s : State) (l : Lone) → IsFirstLoneCore c s l → choices_of c t s (2 ^ (2 * l.thread)) ≡ alone l (length s.threads) ∷ []
lone_choices c t s l first =
    let i = l.thread in
    let n = length s.threads in
    let one : List Actor = Exec i ∷ [] in
    let only : actors_below (2 ^ (2 * i)) (2 * n) ≡ one = one_below (2 * i) (2 * n) (omega (arith, first.there)) ∙ ap (λ a. a ∷ []) (at_number (Exec i)) in
    ap (λ chosen. map (choice_of c t s chosen) chosen) only
    ∙ ap (λ o. record { actor = Exec i; reasons = reasons_if c t s one i o } ∷ []) (kind_is (kind_in c s (Exec i)) l.kind first.kind)
    ∙ ap (λ given. record { actor = Exec i; reasons = given } ∷ []) (lone_reasons c t s one i n (kind_in c s (Exec i)) l.kind first.kind)

pub lone_ended : (l : Lone) (n : ℕ) (reason : Reason) (given : List Reason) (choices : List Choice) → reason ≡ lone_reason l.kind → given ≡ reasons_but reason l.thread n
    → choices ≡ record { actor = Exec l.thread; reasons = given } ∷ [] → IsLoneEnd l n (Choices choices)
lone_ended l n reason given choices same are is c t s first count =
    let set = 2 ^ (2 * l.thread) in
    let one : List Reason → List Choice = λ xs. record { actor = Exec l.thread; reasons = xs } ∷ [] in
    let made : choices ≡ alone l n ∷ [] = is ∙ ap one (are ∙ ap (λ r. reasons_but r l.thread n) same) in
    let all : choices ≡ choices_of c t s set = made ∙ ap (λ m. alone l m ∷ []) (sym count) ∙ sym (lone_choices c t s l first) in
    let some = ap (λ (xs : List Choice). length xs) is in
    (record { set = set; is = core_chosen c t s l set first (one_core l.thread); all = all }, omega (arith, some))

-- that of a worked state of which the store tells it
pub lone_end_at : (d c : Client) (t : Table) (states : List State) (n count : ℕ) (l : Lone) (end : End) → d ≡ c → AreSearched c (Steps t) states → count ≡ length (calls_of c) → IsLoneAt d states n l → IsLoneEnd l count end
    → IsEndAt c (Steps t) states n end
lone_end_at d c t states n count l end same searched all at ended s here =
    let first : IsFirstLoneCore d s l = subst (λ x. IsFirstLoneCore d x l) (same_Some _ _ (sym at.at ∙ here)) at.first in
    let sizes = (searched_well_formed c (Steps t) states n s searched here).sizes in
    ended c t s (subst (λ x. IsFirstLoneCore x s l) same first) (sizes.threads ∙ sym (all ∙ calls_of-width c))
