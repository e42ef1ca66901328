-- Modes, calls and answers as those of the model.
use Rattle.tso_line.specs.declared.instruction.CallKind.{CallKind}
use Rattle.tso_line.specs.declared.instruction.CallKind.TheVariants as calls
use Rattle.tso_line.specs.declared.instruction.Mode.{Mode}
use Rattle.tso_line.specs.declared.instruction.Mode.TheVariants as modes
use Rattle.tso_prog.specs.declared.answer.Answer.{Answer}
use Rattle.tso_prog.specs.declared.answer.Answer.TheVariants as answers
use Rattle.tso_model.specs.Programs as model
use Rattle.tso_model.specs.Objects as objects

abbrev pub call_view : CallKind → model.CallKind
call_view (calls.Push v) = model.Push v
call_view calls.Pop = model.Pop

abbrev pub answer_view : Answer → model.Answer
answer_view answers.Refused = model.Refused
answer_view answers.Done = model.Done
answer_view (answers.Value w) = model.Value w

abbrev pub mode_view : Mode → objects.Mode
mode_view modes.Strict = objects.Strict
mode_view modes.Weak = objects.Weak
