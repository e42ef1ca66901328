-- Runs and histories with other numbers for the threads.
use Rattle.std.specs.Prelude.{◌≡◌, ℕ, ◌<◌, ◌↔◌, List, length, map, Some, slice_get}
use Rattle.std.specs.Option.{option_map}
use Rattle.tso_model.specs.Events.{CallOf, Event, ReturnOf, events_of}
use Rattle.tso_model.specs.Faults.{HasFaultOf}
use Rattle.tso_model.specs.Labels.{By, Label, Machine, Run, Thread, first_machine}
use Rattle.tso_model.specs.Linear.{IsLinearizable}
use Rattle.tso_model.specs.Objects.{Object}
use Rattle.tso_model.specs.Programs.{Program}
use Rattle.tso_client.specs.Covering.{CoversBy}

-- the same label, of thread e i in the place of i
abbrev pub renamed_label : (ℕ → ℕ) → Label → Label
renamed_label e (By i k) = By (e i) k

abbrev pub renamed : (ℕ → ℕ) → List Label → List Label
renamed e ls = map (renamed_label e) ls

-- the same call or return, of thread e i
abbrev pub renamed_event : (ℕ → ℕ) → Event → Event
renamed_event e (CallOf i k) = CallOf (e i) k
renamed_event e (ReturnOf i a) = ReturnOf (e i) a

abbrev pub renamed_events : (ℕ → ℕ) → List Event → List Event
renamed_events e es = map (renamed_event e) es

-- the second machine has the first's memory, its lock and its threads, each as it is, under other numbers; it may have more threads
pub record IsRenamed {F : Type 0} (e : ℕ → ℕ) (m m' : Machine F) : Type 0 where
  pub memory : m'.memory ≡ m.memory
  pub lock : m'.lock ≡ option_map e m.lock
  pub threads : (i : ℕ) (t : Thread F) → slice_get m.threads i ≡ Some t → slice_get m'.threads (e i) ≡ Some t

-- each run of a program is, with other numbers, one of a program that covers it
abbrev pub RunsAreCovered : Type 0 → Type 0
RunsAreCovered F =
    (e : ℕ → ℕ) (P Q : Program F) → CoversBy e P Q → (memory : List ℕ) (ls : List Label) (m : Machine F) → Run P (first_machine P memory) ls m
    → (m' : Machine F) × Run Q (first_machine Q memory) (renamed e ls) m' × IsRenamed e m m'

-- its calls and returns are the run's, with other numbers
abbrev pub EventsAreRenamed : Type 0
EventsAreRenamed = (e : ℕ → ℕ) (ls : List Label) → events_of (renamed e ls) ≡ renamed_events e (events_of ls)

-- and so are its faults
abbrev pub FaultsAreRenamed : Type 0
FaultsAreRenamed =
    (e : ℕ → ℕ) (ls : List Label)
    → ((i : ℕ) → HasFaultOf ls i → HasFaultOf (renamed e ls) (e i))
    × ((j : ℕ) → HasFaultOf (renamed e ls) j → (i : ℕ) × (e i ≡ j) × HasFaultOf ls i)

-- a run is linearizable exactly where it is so with other numbers
abbrev pub LinearizationsAreRenamed : Type 0 → Type 0
LinearizationsAreRenamed F =
    (e : ℕ → ℕ) (P : Program F) → ((i j : ℕ) → i < length P.calls → j < length P.calls → e i ≡ e j → i ≡ j)
    → (memory : List ℕ) (ls : List Label) (m : Machine F) → Run P (first_machine P memory) ls m
    → (object : Object) → IsLinearizable object (events_of (renamed e ls)) ↔ IsLinearizable object (events_of ls)
