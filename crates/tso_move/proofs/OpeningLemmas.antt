-- How a loop comes to where an opening leads.
use Rattle.std.proofs.Common.{◌≡◌, ℕ, suc, ◌-◌, ◌+◌, ◌<◌, ◌≤◌, List, map, Option, Some, None, refl, sym, ap, ◌∙◌, arith}
use Rattle.std.specs.Prelude.{Err, IfOk, Ok, Result}
use Rattle.tso_compact.specs.Plans.{thread_in}
use Rattle.tso_crossing.specs.Moves.{goes_on, opened, readable}
use Rattle.tso_flow.specs.Calls.{kind_of, step_limit}
use Rattle.tso_foot.specs.declared.table.ArrayTable.{ArrayTable}
use Rattle.tso_line.specs.declared.instruction.CallKind.{CallKind as Call}
use Rattle.tso_machine.specs.Activations.{Activation, activation}
use Rattle.tso_machine.specs.Machines.{entry_view}
use Rattle.tso_machine.specs.Programs.{program_of}
use Rattle.tso_machine.specs.declared.buffer.Entry.{Entry}
use Rattle.tso_machine.specs.declared.frame.Frame.{Frame}
use Rattle.tso_model.specs.States.{Buffer}
use Rattle.tso_model.specs.Programs.{CallKind, Program}
use Rattle.tso_move.specs.Openings.{IsOpening}
use Rattle.tso_move.specs.Own.{is_own, written_beside}
use Rattle.tso_move.specs.Parts.{opened_in}
use Rattle.tso_move.specs.declared.openings.Sight.{Sight}
use Rattle.tso_prog.specs.Views.{call_view}
use Rattle.tso_prog.specs.declared.client.Array.{Array}
use Rattle.tso_prog.specs.declared.client.Client.{Client}
use Rattle.tso_state.specs.declared.state.State.{State}

pub further : {F : Type 0} (p : Program F) (r : ℕ → Option ℕ) (most i : ℕ) (b : Buffer) (f g : F) (end : F) → i < most → goes_on r b (p.next f) ≡ Some g
    → opened p r (most - i) b f ≡ end → opened p r (most - (i + 1)) b g ≡ end
further p r most i b f g end lt on so_far =
    let k : most - i ≡ suc (most - (i + 1)) = omega arith in
    let one : opened p r (most - i) b f ≡ opened p r (most - (i + 1)) b g = rw (k, on) refl in
    sym one ∙ so_far

pub halts : {F : Type 0} (p : Program F) (r : ℕ → Option ℕ) (most i : ℕ) (b : Buffer) (f : F) (end : F) → i < most → goes_on r b (p.next f) ≡ None
    → opened p r (most - i) b f ≡ end → f ≡ end
halts p r most i b f end lt on so_far =
    let k : most - i ≡ suc (most - (i + 1)) = omega arith in
    let one : opened p r (most - i) b f ≡ f = rw (k, on) refl in
    sym one ∙ so_far

pub runs_out : {F : Type 0} (p : Program F) (r : ℕ → Option ℕ) (most i : ℕ) (b : Buffer) (f : F) (end : F) → most ≤ i → opened p r (most - i) b f ≡ end → f ≡ end
runs_out p r most i b f end le so_far =
    let k : most - i ≡ 0 = omega arith in
    let one : opened p r (most - i) b f ≡ f = rw k refl in
    sym one ∙ so_far

-- ---- what an opening of a thread of a state sees

module _ (c : Client) (own : ArrayTable) (s : State) (i : ℕ) (k : CallKind) where
  -- where the opening leads, by what is seen
  abbrev leads : List Array → ℕ → List Entry → List ℕ → Activation
  leads arrays written buffer memory = opened (program_of c) (readable (λ place. is_own arrays written place) (map entry_view buffer) memory) (step_limit c) (map entry_view buffer) ((program_of c).start k)

  pub sighted : (arrays : List Array) (written : ℕ) (buffer : List Entry) (memory : List ℕ) → arrays ≡ c.arrays → written ≡ written_beside c own i → buffer ≡ (thread_in s i).buffer → memory ≡ s.memory
      → leads arrays written buffer memory ≡ opened_in c own s i k
  sighted arrays written buffer memory a w b m =
      ap (λ x. leads x written buffer memory) a ∙ ap (λ x. leads c.arrays x buffer memory) w ∙ ap (λ x. leads c.arrays (written_beside c own i) x memory) b ∙ ap (leads c.arrays (written_beside c own i) (thread_in s i).buffer) m

pub ok_sighted : {E : Type 0} (c : Client) (own : ArrayTable) (s : State) (i : ℕ) (k : Call) (sight : Sight) → sight.own.arrays.now ≡ c.arrays → sight.own.written ≡ written_beside c own i → sight.buffer.now ≡ (thread_in s i).buffer
    → sight.memory.now ≡ s.memory → (r : Result Frame E) → IfOk r (IsOpening c sight k) → IfOk r (λ f. activation (kind_of k) f ≡ opened_in c own s i (call_view k))
ok_sighted c own s i k sight a w b m (Ok f) is = is ∙ sighted c own s i (call_view k) sight.own.arrays.now sight.own.written sight.buffer.now sight.memory.now a w b m
ok_sighted c own s i k sight a w b m (Err e) is = tt
