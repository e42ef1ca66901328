-- What is counted once records have been gone over, and what lies between them.
use Rattle.std.specs.Prelude.{◌≡◌, ◌++◌, List, []}
use Rattle.std.specs.List.{fold}
use Rattle.tso_cert.specs.Lookup.{tree_states}
use Rattle.tso_cert.specs.Trees.{Tree, records_of}
use Rattle.tso_foot.specs.declared.table.ArrayTable.{ArrayTable}
use Rattle.tso_foot.specs.declared.table.Table.{Table}
use Rattle.tso_verdict.specs.Between.{AreBetween}
use Rattle.tso_verdict.specs.Calls.{refused_in, refused_noted}
use Rattle.tso_verdict.specs.Levels.{most_in, most_noted}
use Rattle.tso_verdict.specs.Marks.{marks_of, states_noted}
use Rattle.tso_verdict.specs.declared.coverage.Coverage.{Coverage}
use Rattle.tso_verdict.specs.declared.fact.Facts.{Facts}
use Rattle.tso_flow.specs.declared.location.ProcedureKind.TheVariants as procedures
use Rattle.tso_prog.specs.declared.client.Client.{Client}
use Rattle.tso_rec.specs.Conditions.{IsLeast}
use Rattle.tso_rec.specs.Records.{ends_of}
use Rattle.tso_rec.specs.declared.basis.Grain.{Grain}
use Rattle.tso_rec.specs.declared.basis.Grain.TheVariants.{Steps, Crossings}
use Rattle.tso_rec.specs.declared.record.End.{End}
use Rattle.tso_state.specs.declared.state.State.{State}

-- records of these states and ends lie between the two
pub record AreCounted (c : Client) (before : Coverage) (states : List State) (ends : List End) (after : Coverage) : Type 0 where
  pub of_push : after.push.marks ≡ states_noted c procedures.Push before.push.marks states
  pub of_pop : after.pop.marks ≡ states_noted c procedures.Pop before.pop.marks states
  pub push_refused : after.refused.push ≡ fold (refused_noted procedures.Push) before.refused.push states
  pub pop_refused : after.refused.pop ≡ fold (refused_noted procedures.Pop) before.refused.pop states
  pub of_most : after.most_items ≡ fold most_noted before.most_items ends

-- states without records that are such lie between the two
pub record ArePassed (c : Client) (are : List State → Type 0) (before after : Coverage) : Type 0 where
  pub passed : List State
  pub such : are passed
  pub counted : AreCounted c before passed [] after

-- what records of these states and ends show, counted
pub record IsCountedOf (c : Client) (states : List State) (ends : List End) (coverage : Coverage) : Type 0 where
  pub of_push : coverage.push.marks ≡ marks_of c procedures.Push states
  pub of_pop : coverage.pop.marks ≡ marks_of c procedures.Pop states
  pub push_refused : coverage.refused.push ≡ refused_in procedures.Push states
  pub pop_refused : coverage.refused.pop ≡ refused_in procedures.Pop states
  pub of_most : coverage.most_items ≡ most_in ends

-- the same of a certificate of crossings: of its records and of what lies between them
pub record IsCountedBetween (c : Client) (t : Table) (tree : Tree) (coverage : Coverage) : Type 0 where
  pub own : ArrayTable
  pub least : IsLeast c own
  pub passed : List State
  pub between : AreBetween c own t (tree_states tree) passed
  pub counted : IsCountedOf c (tree_states tree ++ passed) (ends_of (records_of tree)) coverage

-- of a certificate of this grain
abbrev pub IsCountedIn : Client → Grain → Table → Tree → Coverage → Type 0
IsCountedIn c Steps t tree coverage = IsCountedOf c (tree_states tree) (ends_of (records_of tree)) coverage
IsCountedIn c Crossings t tree coverage = IsCountedBetween c t tree coverage

-- what is said is what was counted
pub record IsToldIn (c : Client) (grain : Grain) (t : Table) (tree : Tree) (facts : Facts) : Type 0 where
  pub coverage : Coverage
  pub counted : IsCountedIn c grain t tree coverage
  pub of_grain : facts.grain ≡ grain
  pub refused : facts.refused ≡ coverage.refused
  pub most : facts.most_items ≡ coverage.most_items

-- what is passed from the second state of things on is the end of what is passed from the first on
abbrev pub LeadsOn : Client → (List State → Type 0) → Coverage → (List State → Type 0) → Coverage → Type 0
LeadsOn c first before rest now = (after : Coverage) → ArePassed c rest now after → ArePassed c first before after
