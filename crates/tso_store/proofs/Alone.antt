-- Steps that may go first alone.
use Rattle.std.proofs.Common.{◌≡◌, ℕ, ◌<◌, ◌≤◌, ◌^◌, true, false, List, [], ◌∷◌, length, Option, Some, None, refl, sym, ap, ◌∙◌, arith, slice_get, subst}
use Rattle.std.specs.Prelude.{IfSome, MatchOption}
use Rattle.std.specs.Option.{option_and_then, option_map}
use Rattle.std.proofs.lemmas.Option.{slice_get_within}
use Rattle.tso_compact.specs.Motions.{log_of, move_of}
use Rattle.tso_compact.specs.Plans.{kind_by, kind_of_move, procedure_in}
use Rattle.tso_compact.specs.declared.motion.Motion.{Motion}
use Rattle.tso_compact.specs.declared.sort.StepKind.{StepKind}
use Rattle.tso_compact.specs.declared.sort.StepKind.TheVariants as kinds
use Rattle.tso_flow.specs.declared.location.ProcedureKind.{ProcedureKind}
use Rattle.tso_machine.specs.Activations.{Activation}
use Rattle.tso_machine.specs.Programs.{program_of}
use Rattle.tso_model.specs.Programs.{CallKind, Program}
use Rattle.tso_model.specs.Prologue.{next_call}
use Rattle.tso_model.specs.States.{Buffer, CompactThread}
use Rattle.tso_model.specs.Steps.{Move, Nothing, core_move}
use Rattle.tso_prog.specs.declared.client.Client.{Client}
use Rattle.tso_state.proofs.ViewLemmas.{slice_get-threads_view}
use Rattle.tso_state.specs.Views.{core_view, state_of, thread_view}
use Rattle.tso_state.specs.declared.state.Core.{Core}
use Rattle.tso_state.specs.declared.state.Core.TheVariants.{Idle, Running, Stopped}
use Rattle.tso_state.specs.declared.state.State.{State}
use Rattle.tso_state.specs.declared.state.Thread.{Thread}
use Rattle.tso_keys.specs.declared.key.Key.{Key}
use Rattle.tso_store.specs.declared.lone.Lone.{Lone}
use Rattle.tso_keys.specs.declared.parts.Parts.{Parts}
use Rattle.tso_keys.specs.Keys.{IsKept, state_at, states_at}
use Rattle.tso_store.specs.Lone.{HasNoLoneAt, HasNoLoneBelow, HasNoLoneCore, IsFirstLoneCore, IsLoneAt, IsLoneCore, IsLoneCoreAt, is_running, is_running_if, lone_core, lone_of}
use Rattle.tso_keys.specs.Numbers.{AreNumbersOf}
use Rattle.tso_store.specs.Remembered.{HasNext, IsNextMotion, IsRun}
use Rattle.tso_store.proofs.Performed.{next_move}
use Rattle.tso_keys.proofs.Rows.{none_at, number_at}
use Rattle.tso_keys.proofs.StateLemmas.{state_got, state_none}

-- what goes first alone is the step's own kind
pub kind_is : (o : Option StepKind) (kind : StepKind) → lone_of o ≡ Some kind → o ≡ Some kind
kind_is None kind e = e
kind_is (Some kinds.Local) kind e = e
kind_is (Some kinds.Return) kind e = e
kind_is (Some kinds.Call) kind e = absurd (let h : None ≡ Some kind = e in cc)
kind_is (Some (kinds.Load place)) kind e = absurd (let h : None ≡ Some kind = e in cc)
kind_is (Some (kinds.Drain place)) kind e = absurd (let h : None ≡ Some kind = e in cc)
kind_is (Some (kinds.Locked place)) kind e = absurd (let h : None ≡ Some kind = e in cc)

-- ---- a core that runs no call

rest_core : (p : Program Activation) (call : Option CallKind) (name : ProcedureKind) (core : Core) (b : Buffer) → is_running core ≡ false → lone_of (option_map kind_of_move (core_move p call (core_view name core) b)) ≡ None
rest_core p None name Idle b e = refl
rest_core p (Some k) name Idle b e = refl
rest_core p call name (Running frame) b e = absurd (let h : true ≡ false = e in cc)
rest_core p call name Stopped b e = refl

rest_in : (p : Program Activation) (call : Option CallKind) (name : ProcedureKind) (o : Option Thread) → is_running_if o ≡ false
    → lone_of (option_map kind_of_move (option_and_then (λ (u : CompactThread Activation). core_move p call u.core u.buffer) (option_map (thread_view name) o))) ≡ None
rest_in p call name None e = refl
rest_in p call name (Some t) e = rest_core p call name t.core (thread_view name t).buffer e

pub rests : (c : Client) (s : State) (i : ℕ) → is_running_if (slice_get s.threads i) ≡ false → lone_core c s i ≡ None
rests c s i e =
    let p = program_of c in
    let then : CompactThread Activation → Option (Move Activation) = λ u. core_move p (next_call p (state_of s) i) u.core u.buffer in
    ap (λ o. lone_of (option_map kind_of_move (option_and_then then o))) (slice_get-threads_view s.history s.threads i)
    ∙ rest_in p (next_call p (state_of s) i) (procedure_in s i) (slice_get s.threads i) e

pub rests_at : (c : Client) (p : Parts) (k : Key) (i own : ℕ) → IsKept c p k → length p.threads < 2 ^ 32 → slice_get k.threads i ≡ Some own → is_running_if (slice_get p.threads own) ≡ false → lone_core c (state_at p k) i ≡ None
rests_at c p k i own kept small at e =
    rests c (state_at p k) i (ap is_running_if (number_at p.threads k.threads (state_at p k).threads i own small kept.key.threads at) ∙ e)

pub no_own : (c : Client) (p : Parts) (k : Key) (i : ℕ) → IsKept c p k → length p.threads < 2 ^ 32 → slice_get k.threads i ≡ None → lone_core c (state_at p k) i ≡ None
no_own c p k i kept small e =
    rests c (state_at p k) i (ap is_running_if (none_at p.threads k.threads (state_at p k).threads i small kept.key.threads e))

-- ---- a step that is remembered

moves : (c : Client) (s : State) (i : ℕ) (t : Thread) (m : Motion) → slice_get s.threads i ≡ Some t → IsNextMotion c (procedure_in s i) t m
    → lone_core c s i ≡ lone_of (Some (kind_of_move (move_of (procedure_in s i) t m)))
moves c s i t m here next = ap (λ o. lone_of (option_map kind_of_move o)) (next_move c s i t m here next)

pub does_alone : (c : Client) (p : Parts) (k : Key) (i own : ℕ) (m : Motion) (r : Option StepKind) → IsKept c p k → length p.threads < 2 ^ 32 → slice_get k.threads i ≡ Some own
    → HasNext c (procedure_in (state_at p k) i) p.threads own m
    → ((name : ProcedureKind) (t : Thread) → r ≡ lone_of (Some (kind_of_move (move_of name t m))))
    → r ≡ lone_core c (state_at p k) i
does_alone c p k i own m r kept small at has is =
    let s : State = state_at p k in
    let here : slice_get s.threads i ≡ Some has.from = number_at p.threads k.threads s.threads i own small kept.key.threads at ∙ has.from_is in
    is (procedure_in s i) has.from ∙ sym (moves c s i has.from m here has.next)

pub runs_alone : (c : Client) (p : Parts) (k : Key) (i own n : ℕ) → IsKept c p k → length p.threads < 2 ^ 32 → slice_get k.threads i ≡ Some own
    → IsRun c (procedure_in (state_at p k) i) p.threads own n
    → Some kinds.Local ≡ lone_core c (state_at p k) i
runs_alone c p k i own n kept small at run =
    let s : State = state_at p k in
    let t = run.from in
    let m = run.runs.motion in
    let pure = run.runs.own in
    let here : slice_get s.threads i ≡ Some t = number_at p.threads k.threads s.threads i own small kept.key.threads at ∙ run.from_is in
    sym (moves c s i t m here pure.next ∙ ap (λ a. lone_of (Some (kind_by a (log_of m)))) pure.access ∙ ap (λ l. lone_of (Some (kind_by Nothing l))) pure.log)

-- ---- the lowest

there_by : (c : Client) (s : State) (i : ℕ) (kind : StepKind) (o : Option Thread) → slice_get s.threads i ≡ o → lone_core c s i ≡ Some kind → i < length s.threads
there_by c s i kind None at e = absurd (let n : lone_core c s i ≡ None = rests c s i (ap is_running_if at) in let h : None ≡ Some kind = sym n ∙ e in cc)
there_by c s i kind (Some t) at e = slice_get_within s.threads i t at

pub first_lone : (c : Client) (s : State) (l : Lone) → lone_core c s l.thread ≡ Some l.kind → HasNoLoneBelow c s l.thread → IsFirstLoneCore c s l
first_lone c s l e first = record { there = there_by c s l.thread l.kind (slice_get s.threads l.thread) refl e; kind = e; first = first }

few_values : {X : Type 0} (pool : List X) (ns : List ℕ) (xs : List X) → AreNumbersOf pool ns xs → length xs ≤ length ns
few_values pool [] [] are = omega arith
few_values pool [] (x ∷ xs) are = absurd are
few_values pool (n ∷ ns) [] are = omega arith
few_values pool (n ∷ ns) (x ∷ xs) are = let h = few_values pool ns xs are.1 in omega (arith, h)

pub no_lone : (c : Client) (p : Parts) (k : Key) → IsKept c p k → HasNoLoneBelow c (state_at p k) 5 → HasNoLoneCore c (state_at p k)
no_lone c p k kept none j lt =
    let few = few_values p.threads k.threads (state_at p k).threads kept.key.threads in
    none j (omega (arith, lt, few, kept.key.wide))

-- ---- of a state with a number

pub alone_at : (c : Client) (p : Parts) (ks : List Key) (n : ℕ) (k : Key) (r : Option Lone) → slice_get ks n ≡ Some k
    → MatchOption r (HasNoLoneCore c (state_at p k)) (IsFirstLoneCore c (state_at p k)) → IfSome r (λ (l : Lone). l.thread < 5)
    → MatchOption r (HasNoLoneAt c (states_at p ks) n) (IsLoneAt c (states_at p ks) n)
alone_at c p ks n k None at none few = λ s here.
    let both : Some (state_at p k) ≡ Some s = sym (state_got p ks n k at) ∙ here in
    let same : state_at p k ≡ s = cc in
    subst (HasNoLoneCore c) same none
alone_at c p ks n k (Some l) at first few = record { state = state_at p k; at = state_got p ks n k at; first = first; few = few }

pub nowhere_alone : (c : Client) (p : Parts) (ks : List Key) (n : ℕ) → slice_get ks n ≡ None → HasNoLoneAt c (states_at p ks) n
nowhere_alone c p ks n none = λ s here. absurd (let h : None ≡ Some s = sym (state_none p ks n none) ∙ here in cc)

-- ---- of one core

pub core_if : (c : Client) (s : State) (i : ℕ) (r : Option StepKind) → r ≡ lone_core c s i → IfSome r (IsLoneCore c s i)
core_if c s i None e = tt
core_if c s i (Some k) e = record { there = there_by c s i k (slice_get s.threads i) refl (sym e); kind = sym e }

pub core_at : (c : Client) (p : Parts) (ks : List Key) (n i : ℕ) (k : Key) (r : Option StepKind) → slice_get ks n ≡ Some k
    → IfSome r (IsLoneCore c (state_at p k) i) → IfSome r (IsLoneCoreAt c (states_at p ks) n i)
core_at c p ks n i k None at is = tt
core_at c p ks n i k (Some kind) at is = record { state = state_at p k; at = state_got p ks n k at; core = is }
