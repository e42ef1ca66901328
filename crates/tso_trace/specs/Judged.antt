-- Each list of labels, and each text, has one judgement: an error trace, or one refusal with one number.
use Rattle.std.specs.Prelude.{◌≡◌, ◌≢◌, ◌⊎◌, ℕ, List}
use Rattle.tso_prog.specs.declared.client.Client.{Client}
use Rattle.tso_machine.specs.declared.label.Label.{Label}
use Rattle.tso_trace.specs.declared.fault.TraceFault.{TraceFault}
use Rattle.tso_trace.specs.declared.fault.TraceFault.TheVariants.{Memory}
use Rattle.tso_trace.specs.Grammar.{IsReadFault, IsTextOf}
use Rattle.tso_trace.specs.Runs.{IsErrorTrace, IsTraceFault}

-- some refusal other than for want of memory
abbrev pub IsRefused : Client → List Label → Type 0
IsRefused c labels = (fault : TraceFault) × (fault ≢ Memory) × IsTraceFault c labels fault

-- labels are an error trace; or refused as no step, with one number; or refused as good
pub record ListsAreJudgedOnce (c : Client) : Type 0 where
  -- they are the one or the other
  pub some : (labels : List Label) → IsErrorTrace c labels ⊎ IsRefused c labels
  -- an error trace is refused for want of memory alone
  pub errs : (labels : List Label) (fault : TraceFault) → IsErrorTrace c labels → IsTraceFault c labels fault → fault ≡ Memory
  -- there are no two other refusals
  pub once : (labels : List Label) (fault other : TraceFault) → IsTraceFault c labels fault → IsTraceFault c labels other → fault ≢ Memory → other ≢ Memory → fault ≡ other

-- the text spells an error trace
pub record SpellsErrorTrace (c : Client) (text : List ℕ) : Type 0 where
  pub labels : List Label
  pub spells : IsTextOf c.arrays text labels
  pub errs : IsErrorTrace c labels

-- some refusal of the text other than for want of memory
abbrev pub IsUnread : Client → List ℕ → Type 0
IsUnread c text = (fault : TraceFault) × (fault ≢ Memory) × IsReadFault c text fault

-- a text spells an error trace; or is refused at its earliest bad line; or its labels as no step, with one number; or they
-- as good
pub record TextsAreJudgedOnce (c : Client) : Type 0 where
  -- a text of the grammar is the one or the other
  pub spelled : (text : List ℕ) (labels : List Label) → IsTextOf c.arrays text labels → SpellsErrorTrace c text ⊎ IsUnread c text
  -- and no text is neither; which are of the grammar is what bad_line decides
  pub some : (text : List ℕ) → (SpellsErrorTrace c text → ⊥) → (IsUnread c text → ⊥) → ⊥
  pub errs : (text : List ℕ) (fault : TraceFault) → SpellsErrorTrace c text → IsReadFault c text fault → fault ≡ Memory
  pub once : (text : List ℕ) (fault other : TraceFault) → IsReadFault c text fault → IsReadFault c text other → fault ≢ Memory → other ≢ Memory → fault ≡ other
