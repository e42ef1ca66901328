-- Remembered steps of threads.
use Rattle.std.specs.Prelude.{◌≡◌, ℕ, IfSome, List, Option, Some, drop, map, slice_get}
use Rattle.tso_compact.specs.Motions.{Fits, access_of, log_of, move_of, thread_after}
use Rattle.tso_compact.specs.declared.motion.Motion.{Motion}
use Rattle.tso_compact.specs.declared.motion.Motion.TheVariants as the
use Rattle.tso_flow.specs.declared.location.ProcedureKind.{ProcedureKind}
use Rattle.tso_flow.specs.declared.location.ProcedureKind.TheVariants as procedures
use Rattle.tso_machine.specs.Machines.{entry_view}
use Rattle.tso_machine.specs.Programs.{program_of}
use Rattle.tso_model.specs.Programs.{CallKind as ModelCall}
use Rattle.tso_model.specs.States.{Same}
use Rattle.tso_model.specs.Steps.{Nothing, core_move}
use Rattle.tso_prog.specs.declared.client.Client.{Client}
use Rattle.tso_state.specs.Views.{core_view}
use Rattle.tso_state.specs.declared.state.Thread.{Thread}
use Rattle.tso_store.specs.declared.known.Known.{Known}
use Rattle.tso_store.specs.declared.known.Run.{Run}
use Rattle.tso_store.specs.declared.known.Run.TheVariants as runs

-- a step that changes nothing but its thread, in a way that its thread alone decides
abbrev pub IsOwn : Motion → Type 0
IsOwn (the.Run patch) = Unit {0}
IsOwn (the.Pass next) = Unit {0}
IsOwn (the.Store entry next) = Unit {0}
IsOwn (the.Stop fault) = Unit {0}
IsOwn _ = ⊥

-- the next step of a call of this procedure is this one, whichever call may begin
pub record IsNextMotion (c : Client) (name : ProcedureKind) (t : Thread) (m : Motion) : Type 0 where
  pub moves : (call : Option ModelCall) → core_move (program_of c) call (core_view name t.core) (map entry_view t.buffer) ≡ Some (move_of name t m)
  pub fits : Fits t m

-- and it changes only the thread
pub record IsOwnMotion (c : Client) (name : ProcedureKind) (t : Thread) (m : Motion) : Type 0 where
  pub next : IsNextMotion c name t m
  pub access : access_of t m ≡ Nothing
  pub log : log_of m ≡ Same

-- such a step leaves this thread
pub record RunsTo (c : Client) (name : ProcedureKind) (t u : Thread) : Type 0 where
  pub motion : Motion
  pub own : IsOwnMotion c name t motion
  pub leaves : thread_after t motion 0 ≡ u

-- this is the next step of thread number n
pub record HasNext (c : Client) (name : ProcedureKind) (ts : List Thread) (n : ℕ) (m : Motion) : Type 0 where
  pub from : Thread
  pub from_is : slice_get ts n ≡ Some from
  pub next : IsNextMotion c name from m

abbrev pub CanRun : Client → ProcedureKind → List Thread → ℕ → Type 0
CanRun c name ts n = (m : Motion) × HasNext c name ts n m

-- such a step of thread number n leaves thread number k
pub record IsRun (c : Client) (name : ProcedureKind) (ts : List Thread) (n k : ℕ) : Type 0 where
  pub from : Thread
  pub to : Thread
  pub from_is : slice_get ts n ≡ Some from
  pub to_is : slice_get ts k ≡ Some to
  pub runs : RunsTo c name from to

-- the thread without its oldest store
abbrev pub without_oldest : Thread → Thread
without_oldest t = record { core = t.core; buffer = drop 1 t.buffer }

-- a drain of thread number n leaves thread number k
pub record IsDrained (ts : List Thread) (n k : ℕ) : Type 0 where
  pub from : Thread
  pub from_is : slice_get ts n ≡ Some from
  pub to_is : slice_get ts k ≡ Some (without_oldest from)

-- the step of thread number n that has read this word leaves thread number k
abbrev pub IsLeft : List Thread → List Thread → ℕ → Motion → ℕ → ℕ → Type 0
IsLeft old new n m word k = (t : Thread) → slice_get old n ≡ Some t → slice_get new k ≡ Some (thread_after t m word)

-- it is one that thread number n can take
abbrev pub FitsAt : List Thread → ℕ → Motion → Type 0
FitsAt ts n m = (t : Thread) → slice_get ts n ≡ Some t → Fits t m

-- what is known of the next step of thread number n in a call of this procedure
abbrev pub IsRunKnown : Client → ProcedureKind → List Thread → ℕ → Run → Type 0
IsRunKnown c name ts n runs.Unknown = Unit {0}
IsRunKnown c name ts n (runs.Leaves k) = IsRun c name ts n k
IsRunKnown c name ts n (runs.Does m) = HasNext c name ts n m

-- what is known where this is known too of a step of a call of this procedure
abbrev pub with_run : Known → ProcedureKind → Run → Known
with_run d procedures.Push r = record { push = r; pop = d.pop; drained = d.drained }
with_run d procedures.Pop r = record { push = d.push; pop = r; drained = d.drained }

-- what is known of thread number n
pub record IsKnown (c : Client) (ts : List Thread) (n : ℕ) (d : Known) : Type 0 where
  pub push : IsRunKnown c procedures.Push ts n d.push
  pub pop : IsRunKnown c procedures.Pop ts n d.pop
  pub drained : IfSome d.drained (IsDrained ts n)

abbrev pub AreKnown : Client → List Thread → List Known → Type 0
AreKnown c ts ds = (n : ℕ) (d : Known) → slice_get ds n ≡ Some d → IsKnown c ts n d
