-- Each well-formed state of the model is what the model sees of a state.
use Rattle.std.proofs.Common.{◌≡◌, ℕ, zero, suc, Bool, true, false, List, [], ◌∷◌, map, Option, Some, None, slice_get, refl}
use Rattle.std.specs.Option.{option_map}
use Rattle.std.proofs.lemmas.Bool.{and_parts}
use Rattle.tso_flow.specs.Calls.{kind_of}
use Rattle.tso_flow.specs.declared.location.ProcedureKind.{ProcedureKind}
use Rattle.tso_flow.specs.declared.location.ProcedureKind.TheVariants as procedures
use Rattle.tso_foot.specs.Within.{is_within, lies_in}
use Rattle.tso_foot.specs.declared.table.Table.{Table}
use Rattle.tso_hist.specs.Views.{called_view, history_view}
use Rattle.tso_hist.specs.declared.call.Call.{Call}
use Rattle.tso_line.specs.declared.instruction.CallKind.{CallKind}
use Rattle.tso_line.specs.declared.instruction.CallKind.TheVariants as calls
use Rattle.tso_machine.specs.Activations.{Activation, activation}
use Rattle.tso_machine.specs.Machines.{entry_view}
use Rattle.tso_machine.specs.Programs.{program_of}
use Rattle.tso_machine.specs.Soundness.{is_sound_or_past_end, runs_procedure}
use Rattle.tso_machine.specs.declared.buffer.Entry.{Entry}
use Rattle.tso_model.specs.Programs as model
use Rattle.tso_model.specs.States as states
use Rattle.tso_model.specs.States.{calls_in}
use Rattle.tso_model.specs.WellFormed.{CallsFit, IsInLast, IsWellFormed}
use Rattle.tso_prog.specs.Views.{answer_view, call_view}
use Rattle.tso_prog.specs.declared.answer.Answer.{Answer}
use Rattle.tso_prog.specs.declared.answer.Answer.TheVariants as answers
use Rattle.tso_prog.specs.declared.client.Client.{Client}
use Rattle.tso_state.specs.Views.{core_view, running_procedure, state_of, thread_view, threads_view}
use Rattle.tso_state.specs.WellFormed.{word_count}
use Rattle.tso_state.specs.declared.state.Core.{Core}
use Rattle.tso_state.specs.declared.state.Core.TheVariants.{Idle, Running, Stopped}
use Rattle.tso_state.specs.declared.state.State.{State}
use Rattle.tso_state.specs.declared.state.Thread.{Thread}

-- ---- calls

abbrev kind_back : model.CallKind → CallKind
kind_back (model.Push v) = calls.Push v
kind_back model.Pop = calls.Pop

kind_there : (k : model.CallKind) → call_view (kind_back k) ≡ k
kind_there (model.Push v) = refl
kind_there model.Pop = refl

abbrev answer_back : model.Answer → Answer
answer_back model.Refused = answers.Refused
answer_back model.Done = answers.Done
answer_back (model.Value w) = answers.Value w

answer_there : (o : Option model.Answer) → option_map answer_view (option_map answer_back o) ≡ o
answer_there None = refl
answer_there (Some model.Refused) = refl
answer_there (Some model.Done) = refl
answer_there (Some (model.Value w)) = refl

abbrev call_back : states.Called → Call
call_back c = record { kind = kind_back c.kind; seen = c.seen; answer = option_map answer_back c.answer }

call_there : (c : states.Called) → called_view (call_back c) ≡ c
call_there c =
    let kind = kind_there c.kind in
    let answer = answer_there c.answer in
    λ i. record { kind = kind i; seen = c.seen; answer = answer i }

items_there : {A B : Type 0} (f : A → B) (g : B → A) → ((a : A) → g (f a) ≡ a) → (xs : List A) → map g (map f xs) ≡ xs
items_there f g one [] = refl
items_there f g one (x ∷ xs) = let head = one x in let tail = items_there f g one xs in λ i. head i ∷ tail i

abbrev history_back : List (List states.Called) → List (List Call)
history_back h = map (map call_back) h

history_there : (h : List (List states.Called)) → history_view (history_back h) ≡ h
history_there h = items_there (map call_back) (map called_view) (items_there call_back called_view call_there) h

-- ---- threads

abbrev core_back : states.CompactCore Activation → Core
core_back states.Resting = Idle
core_back (states.Executing f) = Running f.frame
core_back states.Halted = Stopped

abbrev entry_back : ℕ × ℕ → Entry
entry_back e = record { place = e.0; word = e.1 }

entry_there : (e : ℕ × ℕ) → entry_view (entry_back e) ≡ e
entry_there e = refl

abbrev thread_back : states.CompactThread Activation → Thread
thread_back t = record { core = core_back t.core; buffer = map entry_back t.buffer }

-- a call's frame runs the procedure of its kind
kind_runs : (k : model.CallKind) (name : ProcedureKind) → runs_procedure k name ≡ true → kind_of (kind_back k) ≡ name
kind_runs (model.Push v) procedures.Push h = refl
kind_runs (model.Push v) procedures.Pop h = absurd (let clash : false ≡ true = h in cc)
kind_runs model.Pop procedures.Push h = absurd (let clash : false ≡ true = h in cc)
kind_runs model.Pop procedures.Pop h = refl

last_runs : (test : model.CallKind → Bool) (name : ProcedureKind) → ((k : model.CallKind) → test k ≡ true → runs_procedure k name ≡ true) → (cs : List states.Called) → IsInLast test cs
    → running_procedure (map call_back cs) ≡ name
last_runs test name runs [] h = absurd h
last_runs test name runs (x ∷ []) h = kind_runs x.kind name (runs x.kind h.1)
last_runs test name runs (x ∷ y ∷ cs) h = last_runs test name runs (y ∷ cs) h.1

sound_runs : (c : Client) (t : Table) (f : Activation) (k : model.CallKind) → is_within c t k f ≡ true → runs_procedure k f.procedure ≡ true
sound_runs c t f k h = (and_parts (runs_procedure k f.procedure) _ (and_parts (is_sound_or_past_end c k f) (lies_in t f) h).0).0

core_there : (c : Client) (t : Table) (core : states.CompactCore Activation) (cs : List states.Called) → CallsFit (is_within c t) core cs → core_view (running_procedure (map call_back cs)) (core_back core) ≡ core
core_there c t states.Resting cs fit = refl
core_there c t (states.Executing f) cs fit =
    let name : running_procedure (map call_back cs) ≡ f.procedure = last_runs (λ k. is_within c t k f) f.procedure (sound_runs c t f) cs fit in
    λ i. states.Executing (activation (name i) f.frame)
core_there c t states.Halted cs fit = refl

thread_there : (c : Client) (t : Table) (th : states.CompactThread Activation) (cs : List states.Called) → CallsFit (is_within c t) th.core cs → thread_view (running_procedure (map call_back cs)) (thread_back th) ≡ th
thread_there c t th cs fit =
    let core = core_there c t th.core cs fit in
    let buffer = items_there entry_back entry_view entry_there th.buffer in
    λ i. record { core = core i; buffer = buffer i }

threads_there : (c : Client) (t : Table) (h : List (List states.Called)) (ts : List (states.CompactThread Activation))
    → ((i : ℕ) (th : states.CompactThread Activation) → slice_get ts i ≡ Some th → CallsFit (is_within c t) th.core (calls_in h i)) → threads_view (history_back h) (map thread_back ts) ≡ ts
threads_there c t h [] fit = refl
threads_there c t [] (th ∷ ts) fit =
    let head = thread_there c t th [] (fit zero th refl) in
    let tail = threads_there c t [] ts (λ i u at. fit (suc i) u at) in
    λ i. head i ∷ tail i
threads_there c t (cs ∷ h) (th ∷ ts) fit =
    let head = thread_there c t th cs (fit zero th refl) in
    let tail = threads_there c t h ts (λ i u at. fit (suc i) u at) in
    λ i. head i ∷ tail i

-- ---- states

abbrev pub state_back : states.State Activation → State
state_back m = record { memory = m.memory; threads = map thread_back m.threads; history = history_back m.history }

pub state_there : (c : Client) (t : Table) (m : states.State Activation) → IsWellFormed (program_of c) (word_count c) (is_within c t) m → state_of (state_back m) ≡ m
state_there c t m w =
    let history = history_there m.history in
    let threads = threads_there c t m.history m.threads w.fit in
    λ i. record { memory = m.memory; threads = threads i; history = history i }
