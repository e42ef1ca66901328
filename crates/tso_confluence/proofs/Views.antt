-- States that the model sees alike are the same.
use Rattle.std.proofs.Common.{◌≡◌, ◌∙◌, List, [], ◌∷◌, map, Option, Some, None, refl, sym, ap}
use Rattle.std.specs.Option.{option_map}
use Rattle.tso_flow.specs.declared.location.ProcedureKind.{ProcedureKind}
use Rattle.tso_hist.specs.declared.call.Call.{Call}
use Rattle.tso_hist.specs.Views.{called_view, history_view}
use Rattle.tso_line.specs.declared.instruction.CallKind.{CallKind}
use Rattle.tso_line.specs.declared.instruction.CallKind.TheVariants as calls
use Rattle.tso_machine.specs.Activations.{Activation, activation}
use Rattle.tso_machine.specs.Machines.{entry_view}
use Rattle.tso_machine.specs.declared.buffer.Entry.{Entry}
use Rattle.tso_model.specs.Programs as model
use Rattle.tso_model.specs.States as states
use Rattle.tso_prog.specs.Views.{answer_view, call_view}
use Rattle.tso_prog.specs.declared.answer.Answer.{Answer}
use Rattle.tso_prog.specs.declared.answer.Answer.TheVariants as answers
use Rattle.tso_state.specs.Views.{core_view, running_procedure, state_of, thread_view, threads_view}
use Rattle.tso_state.specs.declared.state.Core.{Core}
use Rattle.tso_state.specs.declared.state.Core.TheVariants.{Idle, Running, Stopped}
use Rattle.tso_state.specs.declared.state.State.{State}
use Rattle.tso_state.specs.declared.state.Thread.{Thread}

same_items : {A B : Type 0} (f : A → B) → ((a b : A) → f a ≡ f b → a ≡ b) → (xs ys : List A) → map f xs ≡ map f ys → xs ≡ ys
same_items f one [] [] e = refl
same_items f one [] (y ∷ ys) e = absurd (let h : [] ≡ f y ∷ map f ys = e in cc)
same_items f one (x ∷ xs) [] e = absurd (let h : f x ∷ map f xs ≡ [] = e in cc)
same_items f one (x ∷ xs) (y ∷ ys) e =
    let h : f x ∷ map f xs ≡ f y ∷ map f ys = e in
    let head : f x ≡ f y = cc in
    let tail : map f xs ≡ map f ys = cc in
    let first : x ≡ y = one x y head in
    let rest : xs ≡ ys = same_items f one xs ys tail in
    cc

same_kind : (a b : CallKind) → call_view a ≡ call_view b → a ≡ b
same_kind (calls.Push v) (calls.Push w) e = let h : model.Push v ≡ model.Push w = e in let k : v ≡ w = cc in ap calls.Push k
same_kind (calls.Push v) calls.Pop e = absurd (let h : model.Push v ≡ model.Pop = e in cc)
same_kind calls.Pop (calls.Push w) e = absurd (let h : model.Pop ≡ model.Push w = e in cc)
same_kind calls.Pop calls.Pop e = refl

same_answer : (a b : Answer) → answer_view a ≡ answer_view b → a ≡ b
same_answer answers.Refused answers.Refused e = refl
same_answer answers.Refused answers.Done e = absurd (let h : model.Refused ≡ model.Done = e in cc)
same_answer answers.Refused (answers.Value w) e = absurd (let h : model.Refused ≡ model.Value w = e in cc)
same_answer answers.Done answers.Refused e = absurd (let h : model.Done ≡ model.Refused = e in cc)
same_answer answers.Done answers.Done e = refl
same_answer answers.Done (answers.Value w) e = absurd (let h : model.Done ≡ model.Value w = e in cc)
same_answer (answers.Value v) answers.Refused e = absurd (let h : model.Value v ≡ model.Refused = e in cc)
same_answer (answers.Value v) answers.Done e = absurd (let h : model.Value v ≡ model.Done = e in cc)
same_answer (answers.Value v) (answers.Value w) e = let h : model.Value v ≡ model.Value w = e in let k : v ≡ w = cc in ap answers.Value k

same_option : (a b : Option Answer) → option_map answer_view a ≡ option_map answer_view b → a ≡ b
same_option None None e = refl
same_option None (Some y) e = absurd (let h : None ≡ Some (answer_view y) = e in cc)
same_option (Some x) None e = absurd (let h : Some (answer_view x) ≡ None = e in cc)
same_option (Some x) (Some y) e =
    let h : Some (answer_view x) ≡ Some (answer_view y) = e in
    let k : answer_view x ≡ answer_view y = cc in
    ap Some (same_answer x y k)

same_call : (c d : Call) → called_view c ≡ called_view d → c ≡ d
same_call c d e =
    let kind = same_kind c.kind d.kind (λ i. (e i).kind) in
    let answer = same_option c.answer d.answer (λ i. (e i).answer) in
    λ i. record { kind = kind i; seen = (e i).seen; answer = answer i }

pub same_history : (h g : List (List Call)) → history_view h ≡ history_view g → h ≡ g
same_history h g e = same_items (map called_view) (same_items called_view same_call) h g e

same_entry : (a b : Entry) → entry_view a ≡ entry_view b → a ≡ b
same_entry a b e = λ i. record { place = (e i).0; word = (e i).1 }

same_core : (name : ProcedureKind) (a b : Core) → core_view name a ≡ core_view name b → a ≡ b
same_core name Idle Idle e = refl
same_core name Idle (Running g) e = absurd (let h : states.Resting ≡ states.Executing (activation name g) = e in cc)
same_core name Idle Stopped e = absurd (let h : states.Resting ≡ states.Halted = e in cc)
same_core name (Running f) Idle e = absurd (let h : states.Executing (activation name f) ≡ states.Resting = e in cc)
same_core name (Running f) (Running g) e =
    let h : states.Executing (activation name f) ≡ states.Executing (activation name g) = e in
    let k : activation name f ≡ activation name g = cc in
    ap Running (λ i. (k i).frame)
same_core name (Running f) Stopped e = absurd (let h : states.Executing (activation name f) ≡ states.Halted = e in cc)
same_core name Stopped Idle e = absurd (let h : states.Halted ≡ states.Resting = e in cc)
same_core name Stopped (Running g) e = absurd (let h : states.Halted ≡ states.Executing (activation name g) = e in cc)
same_core name Stopped Stopped e = refl

same_thread : (name : ProcedureKind) (a b : Thread) → thread_view name a ≡ thread_view name b → a ≡ b
same_thread name a b e =
    let core = same_core name a.core b.core (λ i. (e i).core) in
    let buffer = same_items entry_view same_entry a.buffer b.buffer (λ i. (e i).buffer) in
    λ i. record { core = core i; buffer = buffer i }

both_same : (name : ProcedureKind) (t u : Thread) (ts us : List Thread) (x y : List (states.CompactThread Activation)) → thread_view name t ∷ x ≡ thread_view name u ∷ y → (x ≡ y → ts ≡ us) → t ∷ ts ≡ u ∷ us
both_same name t u ts us x y e rest =
    let head : thread_view name t ≡ thread_view name u = cc in
    let tail : x ≡ y = cc in
    let a : t ≡ u = same_thread name t u head in
    let b : ts ≡ us = rest tail in
    cc

no_view : (name : ProcedureKind) (u : Thread) (y : List (states.CompactThread Activation)) → [] ≡ thread_view name u ∷ y → ⊥
no_view name u y e = absurd cc

same_threads : (h : List (List Call)) (ts us : List Thread) → threads_view h ts ≡ threads_view h us → ts ≡ us
same_threads h [] [] e = refl
same_threads [] [] (u ∷ us) e = absurd (no_view _ u _ e)
same_threads (cs ∷ h) [] (u ∷ us) e = absurd (no_view _ u _ e)
same_threads [] (t ∷ ts) [] e = absurd (no_view _ t _ (sym e))
same_threads (cs ∷ h) (t ∷ ts) [] e = absurd (no_view _ t _ (sym e))
same_threads [] (t ∷ ts) (u ∷ us) e = both_same (running_procedure []) t u ts us (threads_view [] ts) (threads_view [] us) e (same_threads [] ts us)
same_threads (cs ∷ h) (t ∷ ts) (u ∷ us) e = both_same (running_procedure cs) t u ts us (threads_view h ts) (threads_view h us) e (same_threads h ts us)

-- a state is known by what the model sees of it
pub same_state : (s t : State) → state_of s ≡ state_of t → s ≡ t
same_state s t e =
    let history = same_history s.history t.history (λ i. (e i).history) in
    let threads = same_threads s.history s.threads t.threads ((λ i. (e i).threads) ∙ ap (λ h. threads_view h t.threads) (sym history)) in
    λ i. record { memory = (e i).memory; threads = threads i; history = history i }
