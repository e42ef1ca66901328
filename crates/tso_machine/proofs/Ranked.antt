-- A client's program with the frames that can occur in its calls, and the instructions left from each.
use Rattle.std.proofs.Common.{◌≡◌, ℕ, ◌-◌, ◌<◌, ◌≤◌, true, nat_le, ◌&&◌, length, Option, Some, None, slice_get, refl, sym, arith, subst}
use Rattle.std.specs.List.{sum}
use Rattle.std.proofs.lemmas.Bool.{and_parts, and_from, leb-true, le-leb}
use Rattle.std.proofs.lemmas.Option.{slice_get_within}
use Rattle.tso_line.specs.declared.instruction.Instruction.{Instruction}
use Rattle.tso_prog.specs.declared.client.Client.{Client}
use Rattle.tso_flow.specs.declared.location.ProcedureKind.{ProcedureKind}
use Rattle.tso_flow.specs.declared.location.ProcedureKind.TheVariants as procedures
use Rattle.tso_machine.proofs.Counts.{zeros_within}
use Rattle.tso_machine.proofs.Fine.{Goes, GoesOn, IsFine, instruction_fine}
use Rattle.tso_machine.specs.Activations.{Activation, activation}
use Rattle.tso_machine.specs.Instructions.{action_at, instructions_of, next_action}
use Rattle.tso_machine.specs.Places.{first_memory}
use Rattle.tso_machine.specs.Programs.{program_of, start_of}
use Rattle.tso_machine.specs.Soundness.{are_within, bounds_in, instructions_left, is_sound_or_past_end, rank, runs_procedure}
use Rattle.tso_machine.specs.declared.frame.Frame.{Frame}
use Rattle.tso_model.specs.Measure.{IsRanked}
use Rattle.tso_model.specs.Programs.{Action, CallKind, Silent, Load, Store, Barrier, Locked, Ret, Fail, Push, Pop}

-- ---- frames that can occur

record IsSoundIn (c : Client) (call : CallKind) (a : Activation) : Type 0 where
  runs : runs_procedure call a.procedure ≡ true
  inside : a.frame.pc ≤ length (instructions_of c a.procedure)
  within : are_within a.frame.taken (bounds_in c a.procedure) ≡ true

parts : (c : Client) (call : CallKind) (a : Activation) → is_sound_or_past_end c call a ≡ true → IsSoundIn c call a
parts c call a e =
    let counts = are_within a.frame.taken (bounds_in c a.procedure) in
    let position = nat_le a.frame.pc (length (instructions_of c a.procedure)) in
    let first = and_parts (runs_procedure call a.procedure) (position && counts) e in
    let second = and_parts position counts first.1 in
    record { runs = first.0; inside = leb-true a.frame.pc (length (instructions_of c a.procedure)) second.0; within = second.1 }

whole : (c : Client) (call : CallKind) (a : Activation) → IsSoundIn c call a → is_sound_or_past_end c call a ≡ true
whole c call a s =
    let counts = are_within a.frame.taken (bounds_in c a.procedure) in
    let position = nat_le a.frame.pc (length (instructions_of c a.procedure)) in
    and_from (runs_procedure call a.procedure) (position && counts) s.runs
    (and_from position counts (le-leb a.frame.pc (length (instructions_of c a.procedure)) s.inside) s.within)

-- ---- actions

at_fine : (c : Client) (name : ProcedureKind) (f : Frame) (o : Option (Instruction ℕ ℕ)) → slice_get (instructions_of c name) f.pc ≡ o
    → are_within f.taken (bounds_in c name) ≡ true
    → IsFine (length (instructions_of c name)) (bounds_in c name) (length (first_memory c.arrays)) name f (action_at c name f o)
at_fine c name f None e within = tt
at_fine c name f (Some i) e within = instruction_fine c name f i e (slice_get_within (instructions_of c name) f.pc i e) within

pub action_fine : (c : Client) (call : CallKind) (a : Activation) (action : Action Activation) → is_sound_or_past_end c call a ≡ true → next_action c a ≡ action
    → IsFine (length (instructions_of c a.procedure)) (bounds_in c a.procedure) (length (first_memory c.arrays)) a.procedure a.frame action
unfolding next_action
action_fine c call a action sound e =
    let Q : Action Activation → Type 0 = λ x. IsFine (length (instructions_of c a.procedure)) (bounds_in c a.procedure) (length (first_memory c.arrays)) a.procedure a.frame x in
    subst Q e (at_fine c a.procedure a.frame (slice_get (instructions_of c a.procedure) a.frame.pc) refl (parts c call a sound).within)

-- ---- what follows of it

abbrev Follows : Client → CallKind → Activation → Activation → Type 0
Follows c call a b = (is_sound_or_past_end c call b ≡ true) × (rank c b < rank c a)

same_procedure : (c : Client) (call : CallKind) (a : Activation) (name : ProcedureKind) (g : Frame) → runs_procedure call a.procedure ≡ true → name ≡ a.procedure
    → Goes (length (instructions_of c a.procedure)) (bounds_in c a.procedure) a.frame g → Follows c call a (activation name g)
same_procedure c call a name g runs same goes =
    let Q : ProcedureKind → Type 0 = λ n. Follows c call a (activation n g) in
    subst Q (sym same) (whole c call (activation a.procedure g) (record { runs = runs; inside = goes.inside; within = goes.within }), goes.lower)

on : (c : Client) (call : CallKind) (a b : Activation) → is_sound_or_past_end c call a ≡ true
    → GoesOn (length (instructions_of c a.procedure)) (bounds_in c a.procedure) a.procedure a.frame b → Follows c call a b
on c call a b sound goes = same_procedure c call a b.procedure b.frame (parts c call a sound).runs goes.procedure goes.goes

some_left : (len jumps pc : ℕ) → pc < len → 0 < instructions_left len jumps pc
some_left len jumps pc lt = omega arith

starts : (c : Client) (call : CallKind) → is_sound_or_past_end c call (start_of c call) ≡ true
starts c (Push v) = whole c (Push v) (start_of c (Push v)) (record { runs = refl; inside = omega arith; within = zeros_within 0 (instructions_of c procedures.Push) })
starts c Pop = whole c Pop (start_of c Pop) (record { runs = refl; inside = omega arith; within = zeros_within 0 (instructions_of c procedures.Pop) })

-- the measure of a client's program
pub ranked : (c : Client) → IsRanked (program_of c) (length (first_memory c.arrays)) (is_sound_or_past_end c) (rank c)
ranked c = record {
  starts = λ i n call e. starts c call;
  silent = λ call a b sound e. on c call a b sound (action_fine c call a (Silent b) sound e);
  load = λ call a p k v sound e. on c call a (k v) sound (action_fine c call a (Load p k) sound e v);
  store = λ call a p v b sound e.
      let fine = action_fine c call a (Store p v b) sound e in
      let next = on c call a b sound fine.on in (next.0, next.1, fine.within);
  barrier = λ call a b sound e. on c call a b sound (action_fine c call a (Barrier b) sound e);
  locked = λ call a p n k v sound e.
      let fine = action_fine c call a (Locked p n k) sound e in
      let next = on c call a (k v) sound (fine.on v) in (next.0, next.1, fine.within);
  ret = λ call a answer sound e.
      let fine = action_fine c call a (Ret answer) sound e in
      (fine.answers call (parts c call a sound).runs, some_left (length (instructions_of c a.procedure)) (sum (bounds_in c a.procedure) - sum a.frame.taken) a.frame.pc fine.inside);
  fail = λ call a kind sound e.
      some_left (length (instructions_of c a.procedure)) (sum (bounds_in c a.procedure) - sum a.frame.taken) a.frame.pc (action_fine c call a (Fail kind) sound e);
}
