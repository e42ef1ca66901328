-- Worked states as the records of a tree.
use Rattle.std.specs.Prelude.{◌≡◌, ◌+◌, ◌<◌, ◌≤◌, ◌*◌, ◌/◌, ◌^◌, ◌==◌, ◌++◌, ℕ, zero, suc, List, [], ◌∷◌, if◌then◌else◌, length, Some, slice_get}
use Rattle.tso_cert.specs.Lookup.{ForksSplit, tree_states}
use Rattle.tso_state.specs.Rising.{IsBelow}
use Rattle.tso_cert.specs.Trees.{IsWithin, Tree, fork, leaf, record_count, records_of}
use Rattle.tso_choose.specs.Choices.{AreChosen}
use Rattle.tso_choose.specs.declared.choice.Choice.{Choice}
use Rattle.tso_compact.specs.declared.sort.StepKind.{StepKind}
use Rattle.tso_compact.specs.declared.sort.StepKind.TheVariants as kinds
use Rattle.tso_fifo.specs.Orders.{HasOrder}
use Rattle.tso_foot.specs.declared.table.Table.{Table}
use Rattle.tso_search.specs.Grounds.{basis_of, grain_of}
use Rattle.tso_search.specs.declared.ground.Ground.{Ground}
use Rattle.tso_search.specs.declared.ground.Ground.TheVariants.{Steps, Crossings}
use Rattle.tso_indep.specs.declared.reason.Reason.{Reason}
use Rattle.tso_indep.specs.declared.reason.Reason.TheVariants as reasons
use Rattle.tso_rec.specs.Conditions.{IsExplained, IsOver}
use Rattle.tso_judge.specs.Certified.{IsBare}
use Rattle.tso_judge.specs.Valid.{IsValidRecord}
use Rattle.tso_prog.specs.declared.client.Client.{Client}
use Rattle.tso_rec.specs.declared.record.End.{End}
use Rattle.tso_rec.specs.declared.record.End.TheVariants.{Choices, Order}
use Rattle.tso_rec.specs.declared.record.Record.{Record}
use Rattle.tso_state.specs.declared.state.State.{State}
use Rattle.tso_store.specs.Lone.{IsFirstLoneCore}
use Rattle.tso_store.specs.declared.lone.Lone.{Lone}

-- by steps the chosen actors, of which there are some; by crossings no choices, where some actor has a step
abbrev pub AreChoicesOf : Client → Ground → State → List Choice → Type 0
AreChoicesOf c (Steps t) s choices = AreChosen c t s choices × (0 < length choices)
AreChoicesOf c (Crossings own t) s choices = (choices ≡ []) × (IsOver c s → ⊥)

-- such choices; or no actor has a step, and an order explains the calls
abbrev pub IsEndOf : Client → Ground → State → End → Type 0
IsEndOf c g s (Choices choices) = AreChoicesOf c g s choices
IsEndOf c g s (Order order) = IsOver c s × IsExplained c s (Order order)

-- the same of the state with this number
abbrev pub IsEndAt : Client → Ground → List State → ℕ → End → Type 0
IsEndAt c g states n e = (s : State) → slice_get states n ≡ Some s → IsEndOf c g s e

-- against each other thread a return has the reason that it is one, and a local step that it is its own
abbrev pub lone_reason : StepKind → Reason
lone_reason kinds.Return = reasons.Return
lone_reason _ = reasons.Own

-- a reason once for each thread below n but thread i
abbrev pub reasons_but : Reason → ℕ → ℕ → List Reason
reasons_but r i zero = []
reasons_but r i (suc j) = if j == i then reasons_but r i j else reasons_but r i j ++ r ∷ []

-- the end of each state of n threads whose lowest core with a step that goes first alone this is
abbrev pub IsLoneEnd : Lone → ℕ → End → Type 0
IsLoneEnd l n e = (c : Client) (t : Table) (s : State) → IsFirstLoneCore c s l → length s.threads ≡ n → IsEndOf c (Steps t) s e

-- where no actor has a step, an order explains the calls
abbrev pub IsExplainedAtEnd : Client → State → Type 0
IsExplainedAtEnd c s = IsOver c s → HasOrder c.mode c.capacity s.history

-- a valid record, of state number n; at a crossing without choices
pub record IsRecordOf (c : Client) (g : Ground) (states : List State) (n : ℕ) (r : Record) : Type 0 where
  pub at : slice_get states n ≡ Some r.state
  pub valid : IsValidRecord c (basis_of g) states r
  pub bare : IsBare (grain_of g) r.end

-- one for each of these numbers, in order
pub record AreRecordsOf (c : Client) (g : Ground) (states : List State) (ns : List ℕ) (records : List Record) : Type 0 where
  pub count : length records ≡ length ns
  pub each : (k n : ℕ) (r : Record) → slice_get ns k ≡ Some n → slice_get records k ≡ Some r → IsRecordOf c g states n r

-- each is the number of a state
abbrev pub AreNumbers : List State → List ℕ → Type 0
AreNumbers states ns = (k n : ℕ) → slice_get ns k ≡ Some n → n < length states

-- the states with these numbers rise strictly
abbrev pub AreRising : List State → List ℕ → Type 0
AreRising states ns = (i j n m : ℕ) (s u : State) → i < j → slice_get ns i ≡ Some n → slice_get ns j ≡ Some m
    → slice_get states n ≡ Some s → slice_get states m ≡ Some u → IsBelow s u

-- more than 64 records: the left half has half of them, rounded down, and the state is the first of the right half
pub record IsFork (left : Tree) (s : State) (right : Tree) : Type 0 where
  pub many : 64 < record_count left + record_count right
  pub half : record_count left ≡ (record_count left + record_count right) / 2
  pub first : slice_get (tree_states right) 0 ≡ Some s

-- up to 64 records are one leaf, more are cut in halves, and both halves are cut alike
abbrev pub IsHalved : Tree → Type 0
IsHalved (leaf records) = length records ≤ 64
IsHalved (fork left s right) = IsFork left s right × IsHalved left × IsHalved right

-- a tree of the records of these states: each fork's state is above those of its left half and at most those of its right half,
-- leaves have at most 64 records, and forks are inside one another as often as the records can be halved
pub record IsCut (c : Client) (g : Ground) (states : List State) (ns : List ℕ) (tree : Tree) : Type 0 where
  pub records : AreRecordsOf c g states ns (records_of tree)
  pub forks : ForksSplit tree
  pub halved : IsHalved tree
  pub within : (depth : ℕ) → length ns ≤ 64 * 2 ^ depth → IsWithin depth tree
