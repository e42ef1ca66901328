-- What the model sees of a machine after a step.
use Rattle.std.proofs.Common.{◌≡◌, ℕ, suc, add-one, List, [], ◌∷◌, ◌++◌, map, drop, slice_set, refl, ap}
use Rattle.std.proofs.lemmas.List.{map-set}
use Rattle.tso_machine.specs.Machines.{entry_view, machine_of, thread_view}
use Rattle.tso_line.specs.declared.instruction.CallKind.{CallKind}
use Rattle.tso_line.specs.declared.instruction.CallKind.TheVariants as calls
use Rattle.tso_prog.specs.Views.{call_view}
use Rattle.tso_prog.specs.declared.client.Client.{Client}
use Rattle.tso_machine.specs.Activations.{Activation}
use Rattle.tso_machine.specs.Changes.{thread_after}
use Rattle.tso_machine.specs.Offers.{begin_of, next_of}
use Rattle.tso_machine.specs.Programs.{start_of}
use Rattle.tso_machine.specs.declared.label.LabelKind.TheVariants as kinds
use Rattle.tso_machine.specs.declared.machine.Machine.{Machine}
use Rattle.tso_model.specs.Labels as model
use Rattle.tso_model.specs.Offers.{Next}
use Rattle.tso_machine.specs.declared.buffer.Entry.{Entry}
use Rattle.tso_machine.specs.declared.machine.Thread.{Thread}

pub threads_view : (threads : List Thread) (i : ℕ) (t : Thread) → map thread_view (slice_set threads i t) ≡ slice_set (map thread_view threads) i (thread_view t)
threads_view threads i t = map-set thread_view threads i t

pub entries_view : (entries : List Entry) (e : Entry) → map entry_view (entries ++ e ∷ []) ≡ map entry_view entries ++ (e.place, e.word) ∷ []
entries_view [] e = refl
entries_view (x ∷ xs) e = ap (λ l. entry_view x ∷ l) (entries_view xs e)

-- the call's label and the machine after it
abbrev pub begun_next : Client → Machine → ℕ → Thread → CallKind → Next Activation
begun_next c m i t k = record {
  kind = model.Call (call_view k);
  machine = model.update (machine_of m) i (record (thread_view t) { begun = suc t.begun; core = model.Running (start_of c (call_view k)) model.Outside });
}

pub begun_view : (c : Client) (m : Machine) (i : ℕ) (t : Thread) (k : CallKind)
    → next_of m i t (record { kind = kinds.Call k; change = begin_of c k }) ≡ begun_next c m i t k
begun_view c m i t (calls.Push v) = rw (threads_view m.threads i (thread_after t (begin_of c (calls.Push v))), add-one) refl
begun_view c m i t calls.Pop = rw (threads_view m.threads i (thread_after t (begin_of c calls.Pop)), add-one) refl

pub drained_view : (entries : List Entry) → map entry_view (drop 1 entries) ≡ drop 1 (map entry_view entries)
drained_view [] = refl
drained_view (x ∷ xs) = refl
