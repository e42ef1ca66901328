-- The model's laws for the runs of a client's machine.
use Rattle.std.proofs.Common.{◌≡◌, ◌∙◌, ℕ, List, [], ◌∷◌, ◌++◌, length, map, subst, arith}
use Rattle.std.proofs.lemmas.List.{length-map}
use Rattle.tso_line.specs.declared.instruction.CallKind.{CallKind}
use Rattle.tso_prog.specs.Views.{call_view}
use Rattle.tso_prog.specs.declared.client.Client.{Client}
use Rattle.tso_flow.specs.Calls.{as_thread}
use Rattle.tso_flow.specs.Faults.{HasNoFault}
use Rattle.tso_machine.proofs.PathRuns.{frames_stay_on_paths, sound_inside}
use Rattle.tso_machine.proofs.Ranked.{ranked}
use Rattle.tso_machine.proofs.StepLimits.{limit_below}
use Rattle.tso_machine.specs.Activations.{Activation}
use Rattle.tso_machine.specs.Initial.{idle_thread}
use Rattle.tso_machine.specs.Laws.{BuffersStayWithin, EndsAreDecided, FramesStaySound, IsRunOf, LabelsAreFew, RunsAreShort, RunsEnd, SectionsAreGuarded, SizesStay, StopsAreFaults, StopsAreFinal}
use Rattle.tso_machine.specs.Places.{first_memory}
use Rattle.tso_machine.specs.Programs.{program_of}
use Rattle.tso_machine.specs.Soundness.{is_sound_or_past_end, rank}
use Rattle.tso_model.proofs.Falls as falls
use Rattle.tso_model.proofs.Faults as faults
use Rattle.tso_model.proofs.Few as few
use Rattle.tso_model.proofs.Guards as guards
use Rattle.tso_model.specs.Invariants.{AllWithin}
use Rattle.tso_model.specs.Labels.{Label, Machine, first_machine}
use Rattle.tso_model.specs.Measure.{AllSound}
use Rattle.tso_model.specs.Programs as model

as_many : (threads : List (List CallKind)) (prologue : List CallKind)
    → length (map (λ (calls : List model.CallKind). idle_thread) (map (map call_view) (threads ++ as_thread prologue))) ≡ length (threads ++ as_thread prologue)
as_many threads [] = simp length-map
as_many threads (k ∷ ks) = simp length-map

pub sizes_stay : (c : Client) → SizesStay c
sizes_stay c ls m run =
    let s = guards.sizes_stay (program_of c) (first_machine (program_of c) (first_memory c.arrays)) m ls run in
    record { memory = s.memory; threads = s.threads ∙ as_many c.threads c.prologue }

pub sections_are_guarded : (c : Client) → SectionsAreGuarded c
sections_are_guarded c ls m run = guards.sections_are_guarded (program_of c) (first_memory c.arrays) ls m run

pub labels_are_few : (c : Client) → LabelsAreFew c
labels_are_few c m = few.labels_are_few (program_of c) m

pub ends_are_decided : (c : Client) → EndsAreDecided c
ends_are_decided c m = few.ends_are_decided (program_of c) m

pub stops_are_final : (c : Client) → StopsAreFinal c
stops_are_final c m m' ls i run stopped = faults.stops_are_final (program_of c) m m' ls i run stopped

pub stops_are_faults : (c : Client) → StopsAreFaults c
stops_are_faults c ls m i run = record {
  stops = λ f. faults.faults_stop (program_of c) (first_machine (program_of c) (first_memory c.arrays)) m ls i run f;
  faults = λ s. faults.stops_are_faults (program_of c) (first_memory c.arrays) ls m i s.0 run s.1 s.2;
}

pub buffers_stay_within : (c : Client) → BuffersStayWithin c
buffers_stay_within c ls m run =
    let Q : ℕ → Type 0 = λ size. AllWithin size m in
    subst Q (sizes_stay c ls m run).memory (guards.buffers_stay_within (program_of c) (first_memory c.arrays) (is_sound_or_past_end c) (rank c) (ranked c) ls m run)

pub runs_are_short : (c : Client) → RunsAreShort c
runs_are_short c ls m run =
    let le = falls.runs_are_short (program_of c) (length (first_memory c.arrays)) (is_sound_or_past_end c) (rank c) (ranked c) (first_memory c.arrays) ls m run in
    omega (arith, le, limit_below c)

stays_sound_or_past_end : (c : Client) (ls : List Label) (m : Machine Activation) → IsRunOf c ls m → AllSound (is_sound_or_past_end c) m
stays_sound_or_past_end c ls m run =
    let first = first_machine (program_of c) (first_memory c.arrays) in
    let at_first = falls.first_sound (program_of c) (is_sound_or_past_end c) (first_memory c.arrays) in
    falls.sound_run (program_of c) (length (first_memory c.arrays)) (is_sound_or_past_end c) (rank c) (ranked c) first m ls at_first run

pub frames_stay_sound : (c : Client) → HasNoFault c → FramesStaySound c
frames_stay_sound c sound ls m run i t a st here running =
    let s = stays_sound_or_past_end c ls m run i t a st here running in
    let on = frames_stay_on_paths c sound ls m run i t a st here running in
    (s.0, sound_inside c s.0 a s.1 on.inside)

pub runs_end : (c : Client) → RunsEnd c
runs_end c ls m run = falls.runs_end (program_of c) (length (first_memory c.arrays)) (is_sound_or_past_end c) (rank c) (ranked c) m (stays_sound_or_past_end c ls m run)
