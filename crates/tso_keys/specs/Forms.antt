-- Which states have parts as the client lets them be, told by what is asked once of each part. Nothing here need be believed: it serves the code.
use Rattle.std.specs.Prelude.{◌≡◌, ◌↔◌, ◌==◌, ◌&&◌, ◌||◌, ℕ, Bool, true, false, IsTrue, List, [], ◌∷◌, length, map, None, Option, Some, slice_get, slice_index_or}
use Rattle.tso_flow.specs.declared.location.ProcedureKind.TheVariants as procedures
use Rattle.tso_hist.specs.declared.call.Call.{Call}
use Rattle.tso_prog.specs.declared.client.Client.{Client}
use Rattle.tso_state.specs.Fitting.{HistoryFits, PartsFit}
use Rattle.tso_state.specs.Stages.{ThreadAtStage, stage_of}
use Rattle.tso_state.specs.WellFormed.{word_count}
use Rattle.tso_state.specs.declared.stage.Stage.{Stage}
use Rattle.tso_state.specs.declared.stage.Stage.TheVariants.{Over, Pending, Misanswered}
use Rattle.tso_state.specs.declared.state.State.{State}
use Rattle.tso_state.specs.declared.state.Thread.{Thread}
use Rattle.tso_keys.specs.declared.forms.HistoryForm.{HistoryForm}
use Rattle.tso_keys.specs.declared.forms.ThreadForm.{ThreadForm}
use Rattle.tso_keys.specs.declared.key.Key.{Key}

-- ---- answers for parts

-- an answer for each of these
pub record AreAnswers {X Y : Type 0} (Is : X → Y → Type 0) (xs : List X) (ys : List Y) : Type 0 where
  pub count : length ys ≡ length xs
  pub each : (n : ℕ) (x : X) (y : Y) → slice_get xs n ≡ Some x → slice_get ys n ≡ Some y → Is x y

abbrev pub IsMemoryForm : Client → List ℕ → Bool → Type 0
IsMemoryForm c memory fits = IsTrue fits ↔ (length memory ≡ word_count c)

-- how far the last call of thread i has come
abbrev pub stage_at : List (List Call) → ℕ → Stage
stage_at h i = stage_of (slice_index_or h i [])

pub record IsHistoryForm (c : Client) (h : List (List Call)) (form : HistoryForm) : Type 0 where
  pub fits : IsTrue form.fits ↔ HistoryFits c h
  pub stages : form.stages ≡ stage_at h 0 ∷ stage_at h 1 ∷ stage_at h 2 ∷ stage_at h 3 ∷ stage_at h 4 ∷ []

-- whether a thread may be at this stage of its last call
abbrev pub allows : ThreadForm → Stage → Bool
allows form Over = form.over
allows form (Pending procedures.Push) = form.push
allows form (Pending procedures.Pop) = form.pop
allows form Misanswered = false

abbrev pub IsThreadForm : Client → Thread → ThreadForm → Type 0
IsThreadForm c t form = (stage : Stage) → IsTrue (allows form stage) ↔ ThreadAtStage c t stage

-- ---- answers for states

abbrev pub allows_if : Option ThreadForm → Stage → Bool
allows_if None stage = false
allows_if (Some form) stage = allows form stage

-- each thread of a row may be at the stage of its last call; there is none where a number is that of nothing
abbrev pub row_at_stages : List ThreadForm → List ℕ → List Stage → Bool
row_at_stages forms [] stages = true
row_at_stages forms (n ∷ ns) [] = false
row_at_stages forms (n ∷ ns) (s ∷ ss) = (n == 4294967295 || allows_if (slice_get forms n) s) && row_at_stages forms ns ss

abbrev pub history_at_stages : List ThreadForm → List ℕ → Option HistoryForm → Bool
history_at_stages forms row None = false
history_at_stages forms row (Some h) = h.fits && row_at_stages forms row h.stages

-- the answer for a key
abbrev pub form_of : List Bool → List HistoryForm → List ThreadForm → Key → Bool
form_of memories histories threads k = slice_index_or memories k.memory false && history_at_stages threads k.threads (slice_get histories k.history)

abbrev pub forms_by : List Bool → List HistoryForm → List ThreadForm → List Key → List Bool
forms_by memories histories threads keys = map (form_of memories histories threads) keys

-- an answer for each state
abbrev pub AreForms : Client → List State → List Bool → Type 0
AreForms c states forms = (n : ℕ) (s : State) → slice_get states n ≡ Some s → IsTrue (slice_index_or forms n false) ↔ PartsFit c s
