-- Steps of well-formed states whose running calls are on paths.
use Rattle.std.proofs.Common.{◌≡◌, ℕ, zero, suc, ◌<◌, Bool, true, ◌&&◌, nat_lt, nat_le, List, [], ◌∷◌, length, Option, Some, None, slice_get, slice_set, refl, sym, ◌∙◌, ap, subst}
use Rattle.std.proofs.lemmas.Bool.{and_parts, and_from, lt-ltb}
use Rattle.std.proofs.lemmas.Option.{none-some, same_Some, slice_get-map}
use Rattle.std.specs.Option.{option_and_then, option_map}
use Rattle.tso_compact.specs.Laws.{AreOnPaths, IsPlausible, initial_of}
use Rattle.tso_compact.specs.Plans.{IsStep}
use Rattle.tso_flow.specs.Faults.{HasNoFault}
use Rattle.tso_machine.proofs.Edges.{follow_paths, start_on_path}
use Rattle.tso_machine.proofs.Ranked.{ranked}
use Rattle.tso_machine.specs.Activations.{Activation}
use Rattle.tso_machine.specs.Control.{GoesOnWith, IsOnPath}
use Rattle.tso_machine.specs.Instructions.{instructions_of, next_action}
use Rattle.tso_machine.specs.Places.{first_memory}
use Rattle.tso_machine.specs.Programs.{program_of}
use Rattle.tso_machine.specs.Soundness.{are_within, bounds_in, is_sound, is_sound_or_past_end, rank, runs_procedure}
use Rattle.tso_model.proofs.Moves as moves
use Rattle.tso_model.proofs.Theorems as theorems
use Rattle.tso_model.specs.Prologue.{next_call}
use Rattle.tso_model.specs.Programs.{Action, Barrier, CallKind, Cut, Fail, Load, Locked, Ret, Silent, Store}
use Rattle.tso_model.specs.States.{Buffer, Called, CompactCore, CompactThread, Executing, Halted, Resting, State, calls_in}
use Rattle.tso_model.specs.Steps.{Actor, Drains, Exec, Move, action_move, call_move, core_move, drain_move, move, perform, step, thread_of, word_read}
use Rattle.tso_model.specs.WellFormed as model
use Rattle.tso_prog.specs.declared.client.Client.{Client}
use Rattle.tso_state.proofs.ModelLemmas.{may_be_past_end, well_formed_alike}
use Rattle.tso_state.specs.Actors.{actor_of}
use Rattle.tso_state.specs.Views.{state_of}
use Rattle.tso_state.specs.WellFormed.{IsWellFormed, word_count}
use Rattle.tso_state.specs.declared.actor.Actor.{Actor as Mover}
use Rattle.tso_state.specs.declared.state.State.{State as Kept}

-- ---- paths

-- a core that runs a call runs one that is on a path
abbrev Stays : Client → CompactCore Activation → Type 0
Stays c core = (a : Activation) → core ≡ Executing a → IsOnPath c a

-- so it is after the move, whatever word is read
abbrev MoveStays : Client → Move Activation → Type 0
MoveStays c m = (word : ℕ) → Stays c (m.after word).core

executing : (c : Client) (a : Activation) → IsOnPath c a → Stays c (Executing a)
executing c a on b e = let same : a ≡ b = cc in subst (IsOnPath c) same on

carry : (c : Client) (m n : Move Activation) → Some m ≡ Some n → MoveStays c m → MoveStays c n
carry c m n e stays = subst (MoveStays c) (same_Some m n e) stays

action_stays : (c : Client) (b : Buffer) (x : Action Activation) (m : Move Activation) → GoesOnWith (IsOnPath c) x → action_move b x ≡ Some m → MoveStays c m
action_stays c b (Silent g) m on e = carry c _ m e (λ w. executing c g on)
action_stays c b (Load p k) m on e = carry c _ m e (λ w. executing c _ (on _))
action_stays c b (Store p v g) m on e = carry c _ m e (λ w. executing c g on)
action_stays c [] (Barrier g) m on e = carry c _ m e (λ w. executing c g on)
action_stays c (y ∷ b) (Barrier g) m on e = absurd (none-some m e)
action_stays c [] (Locked p new k) m on e = carry c _ m e (λ w. executing c _ (on w))
action_stays c (y ∷ b) (Locked p new k) m on e = absurd (none-some m e)
action_stays c b (Ret a) m on e = carry c _ m e (λ w g r. cc)
action_stays c b (Fail n) m on e = carry c _ m e (λ w g r. cc)
action_stays c b Cut m on e = absurd (none-some m e)

call_stays : (c : Client) (b : Buffer) (call : Option CallKind) (m : Move Activation) → call_move (program_of c) b call ≡ Some m → MoveStays c m
call_stays c b None m e = absurd (none-some m e)
call_stays c b (Some k) m e = carry c _ m e (λ w. executing c _ (start_on_path c k))

core_stays : (c : Client) → HasNoFault c → (call : Option CallKind) (core : CompactCore Activation) (b : Buffer) (m : Move Activation)
    → Stays c core → core_move (program_of c) call core b ≡ Some m → MoveStays c m
core_stays c sound call Resting b m on e = call_stays c b call m e
core_stays c sound call (Executing a) b m on e = action_stays c b (next_action c a) m (follow_paths c sound a (on a refl)) e
core_stays c sound call Halted b m on e = absurd (none-some m e)

drain_stays : (c : Client) (core : CompactCore Activation) (b : Buffer) (m : Move Activation) → Stays c core → drain_move core b ≡ Some m → MoveStays c m
drain_stays c core [] m on e = absurd (none-some m e)
drain_stays c core (y ∷ b) m on e = carry c _ m e (λ w. on)

move_stays : (c : Client) → HasNoFault c → (s : State Activation) (a : Actor) (m : Move Activation) → AreOnPaths c s → move (program_of c) s a ≡ Some m → MoveStays c m
move_stays c sound s (Exec i) m on e = there (slice_get s.threads i) refl e
  where
    there : (o : Option (CompactThread Activation)) → slice_get s.threads i ≡ o
        → option_and_then (λ (t : CompactThread Activation). core_move (program_of c) (next_call (program_of c) s i) t.core t.buffer) o ≡ Some m → MoveStays c m
    there None at q = absurd (none-some m q)
    there (Some t) at q = core_stays c sound (next_call (program_of c) s i) t.core t.buffer m (λ b r. on i t b at r) q
move_stays c sound s (Drains i) m on e = there (slice_get s.threads i) refl e
  where
    there : (o : Option (CompactThread Activation)) → slice_get s.threads i ≡ o → option_and_then (λ (t : CompactThread Activation). drain_move t.core t.buffer) o ≡ Some m → MoveStays c m
    there None at q = absurd (none-some m q)
    there (Some t) at q = drain_stays c t.core t.buffer m (λ b r. on i t b at r) q

-- a thread of the list after a write is the one written, or one of before
after_write : (P : CompactThread Activation → Type 0) (ts : List (CompactThread Activation)) (i j : ℕ) (u t : CompactThread Activation)
    → P u → ((v : CompactThread Activation) → slice_get ts j ≡ Some v → P v) → slice_get (slice_set ts i u) j ≡ Some t → P t
after_write P [] i j u t new old e = old t e
after_write P (x ∷ xs) zero zero u t new old e = subst P (same_Some u t e) new
after_write P (x ∷ xs) zero (suc j) u t new old e = old t e
after_write P (x ∷ xs) (suc i) zero u t new old e = old t e
after_write P (x ∷ xs) (suc i) (suc j) u t new old e = after_write P xs i j u t new old e

pub paths_stay : (c : Client) → HasNoFault c → (s t : State Activation) (a : Actor) → AreOnPaths c s → step (program_of c) s a ≡ Some t → AreOnPaths c t
paths_stay c sound s t a on e =
    let (m, moved, is) = moves.move_of (program_of c) s t a e in
    let stays = move_stays c sound s a m on moved in
    let after : AreOnPaths c (perform s (thread_of a) m) = λ i u b at runs.
    let P : CompactThread Activation → Type 0 = λ v. Stays c v.core in
    after_write P s.threads (thread_of a) i (m.after (word_read s.memory m.access)) u (stays (word_read s.memory m.access)) (λ v there d r. on i v d there r) at b runs in
    subst (AreOnPaths c) (sym is) after

-- ---- well-formed states

strict : (c : Client) (k : CallKind) (a : Activation) → a.frame.pc < length (instructions_of c a.procedure) → is_sound_or_past_end c k a ≡ true → is_sound c k a ≡ true
strict c k a inside e =
    let counts = are_within a.frame.taken (bounds_in c a.procedure) in
    let first = and_parts (runs_procedure k a.procedure) (nat_le a.frame.pc (length (instructions_of c a.procedure)) && counts) e in
    let second = and_parts (nat_le a.frame.pc (length (instructions_of c a.procedure))) counts first.1 in
    and_from (runs_procedure k a.procedure) (nat_lt a.frame.pc (length (instructions_of c a.procedure)) && counts) first.0
    (and_from (nat_lt a.frame.pc (length (instructions_of c a.procedure))) counts (lt-ltb a.frame.pc (length (instructions_of c a.procedure)) inside) second.1)

strict_last : (f g : CallKind → Bool) → ((k : CallKind) → f k ≡ true → g k ≡ true) → (cs : List Called) → model.IsInLast f cs → model.IsInLast g cs
strict_last f g m [] x = absurd x
strict_last f g m (c ∷ []) (n, h) = (n, m c.kind h)
strict_last f g m (c ∷ d ∷ cs) (r, x) = (r, strict_last f g m (d ∷ cs) x)

strict_fit : (c : Client) (core : CompactCore Activation) (calls : List Called) → Stays c core
    → model.CallsFit (is_sound_or_past_end c) core calls → model.CallsFit (is_sound c) core calls
strict_fit c Resting calls on fit = fit
strict_fit c (Executing a) calls on fit = strict_last (λ k. is_sound_or_past_end c k a) (λ k. is_sound c k a) (λ k e. strict c k a (on a refl).inside e) calls fit
strict_fit c Halted calls on fit = fit

-- with each running call on a path, frames stand at instructions
pub strictly : (c : Client) (s : State Activation) → AreOnPaths c s → model.IsWellFormed (program_of c) (word_count c) (is_sound_or_past_end c) s
    → model.IsWellFormed (program_of c) (word_count c) (is_sound c) s
strictly c s on w = record {
  memory = w.memory;
  threads = w.threads;
  histories = w.histories;
  buffers = w.buffers;
  fit = λ i t at. strict_fit c t.core (calls_in s.history i) (λ a r. on i t a at r) (w.fit i t at);
  calls = w.calls;
  prologue = w.prologue;
}

pub steps_stay_sound : (c : Client) (s t : Kept) (a : Mover) → IsWellFormed c s → IsStep c s a t → model.IsWellFormed (program_of c) (word_count c) (is_sound_or_past_end c) (state_of t)
steps_stay_sound c s t a w e =
    theorems.steps_stay_well_formed Activation (program_of c) (word_count c) (is_sound_or_past_end c) (rank c) (ranked c) (state_of s) (state_of t) (actor_of a) (may_be_past_end c s w) e

pub steps_stay_plausible : (c : Client) → HasNoFault c → (s t : Kept) (a : Mover) → IsPlausible c s → IsStep c s a t → IsPlausible c t
steps_stay_plausible c sound s t a p e =
    let paths = paths_stay c sound (state_of s) (state_of t) (actor_of a) p.paths e in
    record {
      well_formed = (well_formed_alike c t).1 (strictly c (state_of t) paths (steps_stay_sound c s t a p.well_formed e));
      paths = paths;
    }

first_paths : (c : Client) → AreOnPaths c (initial_of c)
first_paths c i t a at runs =
    let rests : (k : List CallKind) → CompactThread Activation = λ k. record { core = Resting; buffer = [] } in
    let found = sym (slice_get-map rests (program_of c).calls i) ∙ at in
    absurd (nowhere (slice_get (program_of c).calls i) found)
  where
    nowhere : (o : Option (List CallKind)) → option_map (λ (k : List CallKind). record { core = Resting; buffer = [] }) o ≡ Some t → ⊥
    nowhere None e = none-some t e
    nowhere (Some k) e = let same : t.core ≡ Resting = ap (λ (u : CompactThread Activation). u.core) (sym (same_Some _ t e)) in let clash = sym runs ∙ same in cc

pub initial_is_plausible : (c : Client) (s : Kept) → state_of s ≡ initial_of c → IsPlausible c s
initial_is_plausible c s e =
    let paths : AreOnPaths c (state_of s) = subst (AreOnPaths c) (sym e) (first_paths c) in
    let first = theorems.first_is_well_formed Activation (program_of c) (is_sound_or_past_end c) (first_memory c.arrays) in
    let sound = let Q : State Activation → Type 0 = λ t. model.IsWellFormed (program_of c) (word_count c) (is_sound_or_past_end c) t in subst Q (sym e) first in
    record { well_formed = (well_formed_alike c s).1 (strictly c (state_of s) paths sound); paths = paths }
