-- Lists of calls and of counts, as the code goes over them.
use Rattle.std.proofs.Common.{◌≡◌, ◌↔◌, ℕ, zero, suc, ◌-◌, ◌≤◌, true, false, IsTrue, nat_eq, nat_le, List, [], ◌∷◌, ◌++◌, length, take, drop, Option, None, Some, slice_get, refl, sym, ap, subst, ◌∙◌, arith, length-append, length-drop}
use Rattle.std.specs.Prelude.{All}
use Rattle.std.proofs.lemmas.Bool.{and_parts, and_from, false≢true, leb-true}
use Rattle.std.proofs.lemmas.Bool.Decides.{nat_tests}
use Rattle.std.proofs.Math.Seq.{take-append_seam}
use Rattle.tso_flow.specs.Calls.{kind_of}
use Rattle.tso_hist.specs.declared.call.Call.{Call}
use Rattle.tso_line.specs.declared.instruction.CallKind.{CallKind}
use Rattle.tso_line.specs.declared.instruction.CallKind.TheVariants.{Push, Pop}
use Rattle.tso_machine.specs.declared.frame.Frame.{Frame}
use Rattle.tso_machine.specs.Soundness.{are_within}
use Rattle.tso_prog.specs.declared.answer.Answer.{Answer}
use Rattle.tso_prog.specs.declared.answer.Answer.TheVariants.{Refused, Done, Value}
use Rattle.tso_prog.specs.declared.client.Client.{Client}
use Rattle.tso_state.specs.declared.state.Core.{Core}
use Rattle.tso_state.specs.declared.state.Core.TheVariants.{Idle, Running, Stopped}
use Rattle.tso_state.specs.declared.state.Thread.{Thread}
use Rattle.tso_state.specs.Fitting.{AreEarlierAnswered, CoreFits, ThreadFits}
use Rattle.tso_state.specs.Stages.{CoreAtStage, ThreadAtStage, stage_by, stage_if, stage_of}
use Rattle.tso_state.specs.WellFormed.{IsAnswerTo, IsAnswered, IsFrameOf, last_call}

-- ---- tests and what they say

pub refuted : {P : Type 0} → (P → ⊥) → IsTrue false ↔ P
refuted not = (λ h. absurd (false≢true h), λ p. absurd (not p))

pub granted : {P : Type 0} → P → IsTrue true ↔ P
granted p = (λ h. p, λ q. refl)

-- ---- counts of back jumps

none_left : (xs : List ℕ) → nat_eq (length xs) 0 ≡ are_within xs []
none_left [] = refl
none_left (x ∷ xs) = grind (arith, nat_tests)

pub all_counted : (taken : List ℕ) (number : ℕ) → number ≤ length taken → nat_eq number (length taken) ≡ are_within (drop number taken) []
all_counted taken number within =
    let e : nat_eq number (length taken) ≡ nat_eq (length (drop number taken)) 0 = rw (length-drop number taken) (grind (arith, nat_tests)) in
    e ∙ none_left (drop number taken)

-- as many counts as bounds, each at most its bound
pub record AreCounts (counts bounds : List ℕ) : Type 0 where
  pub width : length counts ≡ length bounds
  pub each : (n count bound : ℕ) → slice_get counts n ≡ Some count → slice_get bounds n ≡ Some bound → count ≤ bound

counts_of : (counts bounds : List ℕ) → IsTrue (are_within counts bounds) → AreCounts counts bounds
counts_of [] [] h = record { width = refl; each = λ n count bound e f. cc }
counts_of [] (b ∷ bs) h = absurd (false≢true h)
counts_of (c ∷ cs) [] h = absurd (false≢true h)
counts_of (c ∷ cs) (b ∷ bs) h =
    let (first, others) = and_parts (nat_le c b) (are_within cs bs) h in
    let rest = counts_of cs bs others in
    let lt = leb-true c b first in
    record { width = ap suc rest.width; each = each lt rest.each }
  where
    each : c ≤ b → ((n count bound : ℕ) → slice_get cs n ≡ Some count → slice_get bs n ≡ Some bound → count ≤ bound)
        → (n count bound : ℕ) → slice_get (c ∷ cs) n ≡ Some count → slice_get (b ∷ bs) n ≡ Some bound → count ≤ bound
    each lt rest zero count bound e f = let p : c ≡ count = cc in let q : b ≡ bound = cc in omega (arith, p, q, lt)
    each lt rest (suc n) count bound e f = rest n count bound e f

le_holds : (a b : ℕ) → a ≤ b → nat_le a b ≡ true
le_holds a b h = grind (arith, nat_tests)

within_of : (counts bounds : List ℕ) → AreCounts counts bounds → IsTrue (are_within counts bounds)
within_of [] [] h = refl
within_of [] (b ∷ bs) h = absurd (omega (arith, h.width))
within_of (c ∷ cs) [] h = absurd (omega (arith, h.width))
within_of (c ∷ cs) (b ∷ bs) h =
    and_from (nat_le c b) (are_within cs bs) (le_holds c b (h.each zero c b refl refl))
    (within_of cs bs (record { width = omega (arith, h.width); each = λ n count bound e f. h.each (suc n) count bound e f }))

pub are_counts : (counts bounds : List ℕ) → IsTrue (are_within counts bounds) ↔ AreCounts counts bounds
are_counts counts bounds = (counts_of counts bounds, within_of counts bounds)

-- ---- the last call

pub last_call-append : (cs : List Call) (c : Call) → last_call (cs ++ c ∷ []) ≡ Some c
last_call-append [] c = refl
last_call-append (b ∷ []) c = refl
last_call-append (b ∷ d ∷ cs) c = last_call-append (d ∷ cs) c

before_last : (cs : List Call) (c : Call) → take (length (cs ++ c ∷ []) - 1) (cs ++ c ∷ []) ≡ cs
before_last cs c =
    let e : length (cs ++ c ∷ []) - 1 ≡ length cs = omega (arith, length-append cs (c ∷ [])) in
    rw (e, take-append_seam cs (c ∷ [])) refl

pub earlier_last : (calls cs : List Call) (c : Call) → calls ≡ cs ++ c ∷ [] → All IsAnswered cs ↔ AreEarlierAnswered calls
earlier_last calls cs c e = subst (λ xs. All IsAnswered cs ↔ AreEarlierAnswered xs) (sym e) (
  λ h. subst (λ xs. All IsAnswered xs) (sym (before_last cs c)) h,
  λ h. subst (λ xs. All IsAnswered xs) (before_last cs c) h,
)

-- ---- how far the last call has come

same : {A : Type 0} → A ↔ A
same = (λ a. a, λ a. a)

idle_at_stage : (k : Client) (kind : CallKind) (answer : Option Answer) → CoreAtStage k (stage_by kind answer) Idle ↔ IsAnswerTo kind answer
idle_at_stage k kind None = same
idle_at_stage k kind (Some Refused) = same
idle_at_stage k (Push v) (Some Done) = same
idle_at_stage k Pop (Some Done) = same
idle_at_stage k (Push v) (Some (Value w)) = same
idle_at_stage k Pop (Some (Value w)) = same

unanswered : {X : Type 0} (x : X) {P : Type 0} → Some x ≡ None → P
unanswered x e = absurd (let h : Some x ≡ None = e in cc)

running_at_stage : (k : Client) (f : Frame) (kind : CallKind) (answer : Option Answer) → CoreAtStage k (stage_by kind answer) (Running f) ↔ ((answer ≡ None) × IsFrameOf k (kind_of kind) f)
running_at_stage k f kind None = (λ h. (refl, h), λ h. h.1)
running_at_stage k f kind (Some Refused) = (λ h. absurd h, λ h. unanswered Refused h.0)
running_at_stage k f (Push v) (Some Done) = (λ h. absurd h, λ h. unanswered Done h.0)
running_at_stage k f Pop (Some Done) = (λ h. absurd h, λ h. unanswered Done h.0)
running_at_stage k f (Push v) (Some (Value w)) = (λ h. absurd h, λ h. unanswered (Value w) h.0)
running_at_stage k f Pop (Some (Value w)) = (λ h. absurd h, λ h. unanswered (Value w) h.0)

stopped_at_stage : (k : Client) (kind : CallKind) (answer : Option Answer) → CoreAtStage k (stage_by kind answer) Stopped ↔ (answer ≡ None)
stopped_at_stage k kind None = (λ h. refl, λ e. tt)
stopped_at_stage k kind (Some Refused) = (λ h. absurd h, λ e. unanswered Refused e)
stopped_at_stage k (Push v) (Some Done) = (λ h. absurd h, λ e. unanswered Done e)
stopped_at_stage k Pop (Some Done) = (λ h. absurd h, λ e. unanswered Done e)
stopped_at_stage k (Push v) (Some (Value w)) = (λ h. absurd h, λ e. unanswered (Value w) e)
stopped_at_stage k Pop (Some (Value w)) = (λ h. absurd h, λ e. unanswered (Value w) e)

core_at_stage : (k : Client) (core : Core) (calls : List Call) → CoreAtStage k (stage_of calls) core ↔ CoreFits k core calls
core_at_stage k Idle [] = (λ h. record { last = tt; frame = tt }, λ h. tt)
core_at_stage k (Running f) [] = (λ h. absurd h, λ h. absurd h.last)
core_at_stage k Stopped [] = (λ h. absurd h, λ h. absurd h.last)
core_at_stage k Idle (c ∷ []) = let e = idle_at_stage k c.kind c.answer in (λ h. record { last = e.0 h; frame = tt }, λ h. e.1 h.last)
core_at_stage k (Running f) (c ∷ []) = let e = running_at_stage k f c.kind c.answer in (λ h. record { last = (e.0 h).0; frame = (e.0 h).1 }, λ h. e.1 (h.last, h.frame))
core_at_stage k Stopped (c ∷ []) = let e = stopped_at_stage k c.kind c.answer in (λ h. record { last = e.0 h; frame = tt }, λ h. e.1 h.last)
core_at_stage k core (c ∷ d ∷ rest) =
    let e = core_at_stage k core (d ∷ rest) in
    (λ h. let r = e.0 h in record { last = r.last; frame = r.frame }, λ h. e.1 (record { last = h.last; frame = h.frame }))

-- a thread fits its calls where it fits the stage of the last of them
pub stage_fits : (k : Client) (t : Thread) (calls : List Call) → ThreadAtStage k t (stage_of calls) ↔ ThreadFits k t calls
stage_fits k t calls =
    let e = core_at_stage k t.core calls in
    (λ h. record { inside = h.inside; fit = e.0 h.core }, λ h. record { inside = h.inside; core = e.1 h.fit })

pub stage_last : (calls cs : List Call) (c : Call) → calls ≡ cs ++ c ∷ [] → stage_of calls ≡ stage_by c.kind c.answer
stage_last calls cs c e = ap stage_of e ∙ ap stage_if (last_call-append cs c)
