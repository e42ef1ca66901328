-- A program as far as its lines were read, without where it lies in memory.
use Rattle.std.specs.Prelude.{map}
use Rattle.tso_line.specs.Instructions.{renamed}
use Rattle.tso_prog.specs.declared.client.Array.{Array}
use Rattle.tso_prog.specs.declared.draft.Declared.{Declared}
use Rattle.tso_prog.specs.declared.named.Target.{Target}
use Rattle.tso_prog.specs.declared.draft.Unresolved.{Unresolved}
use Rattle.tso_prog.specs.declared.draft.Body.{Body}
use Rattle.tso_prog.specs.declared.draft.Draft.{Draft}
use Rattle.tso_prog.specs.Contents.{TargetOf, StepOf, BodyOf, Content}

abbrev pub array_view : Declared → Array
array_view d = record { name = d.name.now; words = d.words }

abbrev pub target_view : Target → TargetOf
target_view l = record { name = l.name.now; at = l.at }

abbrev pub step_view : Unresolved → StepOf
step_view s = record { instruction = renamed (λ a. a) (λ l. l.now) s.instruction; line = s.line }

abbrev pub body_view : Body → BodyOf
body_view b = record { labels = map target_view b.labels; steps = map step_view b.steps.items }

-- what a draft has so far
abbrev pub content : Draft → Content
content d = record {
  part = d.part;
  capacity = d.capacity;
  mode = d.mode;
  arrays = map array_view d.arrays.items;
  words = d.word_count;
  push = body_view d.push;
  pop = body_view d.pop;
  prologue = d.prologue;
  threads = d.threads;
  calls = d.call_count;
}
