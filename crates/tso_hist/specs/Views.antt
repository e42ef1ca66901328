-- Histories as those of the model.
use Rattle.std.specs.Prelude.{List, map, option_map}
use Rattle.tso_hist.specs.declared.call.Call.{Call}
use Rattle.tso_model.specs.States.{Called}
use Rattle.tso_prog.specs.Views.{answer_view, call_view}

-- a begun call
abbrev pub called_view : Call → Called
called_view c = record { kind = call_view c.kind; seen = c.seen; answer = option_map answer_view c.answer }

-- thread by thread
abbrev pub history_view : List (List Call) → List (List Called)
history_view h = map (map called_view) h
