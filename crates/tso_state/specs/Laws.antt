-- What the list of a well-formed state means for the model.
use Rattle.std.specs.Prelude.{◌↔◌}
use Rattle.tso_machine.specs.Programs.{program_of}
use Rattle.tso_machine.specs.Soundness.{is_sound, is_sound_or_past_end}
use Rattle.tso_model.specs.WellFormed as model
use Rattle.tso_prog.specs.declared.client.Client.{Client}
use Rattle.tso_state.specs.declared.state.State.{State}
use Rattle.tso_state.specs.Views.{state_of}
use Rattle.tso_state.specs.WellFormed.{IsWellFormed, word_count}

-- the list holds exactly of the states that the model calls well-formed, with frames at an instruction
abbrev pub WellFormedIsTheModels : Client → Type 0
WellFormedIsTheModels c = (s : State) → IsWellFormed c s ↔ model.IsWellFormed (program_of c) (word_count c) (is_sound c) (state_of s)

-- such a state is also one of those with frames at an instruction or just behind the last, of which the model's theorems speak
abbrev pub WellFormedIsSound : Client → Type 0
WellFormedIsSound c = (s : State) → IsWellFormed c s → model.IsWellFormed (program_of c) (word_count c) (is_sound_or_past_end c) (state_of s)
