-- The kinds of a move's parts.
use Rattle.std.proofs.Common.{◌≡◌, ◌∙◌, [], ◌∷◌, map, Option, None, Some, refl, ap}
use Rattle.std.specs.Option.{option_map}
use Rattle.tso_compact.specs.Plans.{kind_of_move}
use Rattle.tso_compact.specs.declared.sort.StepKind.{StepKind}
use Rattle.tso_compact.specs.declared.sort.StepKind.TheVariants as kinds
use Rattle.tso_crossing.specs.Moves.{call_parts, one_part, opening}
use Rattle.tso_foot.specs.declared.table.ArrayTable.{ArrayTable}
use Rattle.tso_indep.specs.Reasons.{kind_in}
use Rattle.tso_machine.specs.Activations.{Activation}
use Rattle.tso_machine.specs.Instructions.{next_action}
use Rattle.tso_machine.specs.Kinds.{kind_of_action}
use Rattle.tso_machine.specs.Programs.{program_of}
use Rattle.tso_model.specs.Programs.{Action, Barrier, CallKind, Cut, Fail, Load, Locked, Ret, Silent, Store}
use Rattle.tso_model.specs.States.{Buffer}
use Rattle.tso_model.specs.Steps as steps
use Rattle.tso_move.proofs.MoveLemmas.{begun_call_parts, step_parts}
use Rattle.tso_move.specs.Parts.{begun_in, begun_kinds, one_kind, opened_in, opened_kinds, own_buffer, part_kinds}
use Rattle.tso_prog.specs.declared.client.Client.{Client}
use Rattle.tso_state.specs.Actors.{actor_of, thread_of}
use Rattle.tso_state.specs.Views.{state_of}
use Rattle.tso_state.specs.declared.actor.Actor.{Actor}
use Rattle.tso_state.specs.declared.state.State.{State}

-- ---- a move that begins no call is its step

mapped_one : (o : Option (steps.Move Activation)) → option_map (map kind_of_move) (option_map one_part o) ≡ option_map one_kind (option_map kind_of_move o)
mapped_one None = refl
mapped_one (Some m) = refl

pub stepped_parts : (c : Client) (own : ArrayTable) (s : State) (a : Actor) → begun_in c s a ≡ None → part_kinds c own s a ≡ option_map one_kind (kind_in c s a)
stepped_parts c own s a none = ap (option_map (map kind_of_move)) (step_parts c own s a none) ∙ mapped_one (steps.move (program_of c) (state_of s) (actor_of a))

-- ---- one that begins a call

opened_when_empty : (b : Buffer) (m n : steps.Move Activation) (kind : StepKind) → kind_of_move m ≡ kinds.Call → kind_of_move n ≡ kind
    → option_map (map kind_of_move) (option_map (λ x. m ∷ x ∷ []) (steps.when_empty b n)) ≡ option_map (λ x. kinds.Call ∷ x ∷ []) (steps.when_empty b kind)
opened_when_empty [] m n kind first second = rw (first, second) refl
opened_when_empty (e ∷ rest) m n kind first second = refl

-- the parts of a call's move by the kind of the instruction that its opening stops before
pub opened_parts : (b : Buffer) (k : CallKind) (f : Activation) (action : Action Activation) → option_map (map kind_of_move) (call_parts b k f action) ≡ opened_kinds b (kind_of_action action)
opened_parts b k f (Silent g) = refl
opened_parts b k f (Load p r) = refl
opened_parts b k f (Store p v g) = refl
opened_parts b k f (Barrier g) = opened_when_empty b (opening b k f) _ kinds.Local refl refl
opened_parts b k f (Locked p new r) = opened_when_empty b (opening b k f) _ (kinds.Locked p) refl refl
opened_parts b k f (Ret a) = refl
opened_parts b k f (Fail n) = refl
opened_parts b k f Cut = refl

-- its parts, where the opening leads
pub begun_parts : (c : Client) (own : ArrayTable) (s : State) (a : Actor) (k : CallKind) → begun_in c s a ≡ Some k
    → part_kinds c own s a ≡ begun_kinds c own s (thread_of a) k
begun_parts c own s a k begun =
    let f = opened_in c own s (thread_of a) k in
    ap (option_map (map kind_of_move)) (begun_call_parts c own s a k begun) ∙ opened_parts (own_buffer s (thread_of a)) k f (next_action c f)
