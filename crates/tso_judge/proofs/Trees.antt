-- Numbers of certificates are in the ranges of their spelling.
use Rattle.std.proofs.Common.{◌≡◌, ℕ, zero, suc, List, [], ◌∷◌, ◌++◌, map, Some, slice_get, refl, subst, arith}
use Rattle.std.proofs.lemmas.Option.{same_Some}
use Rattle.tso_cert.specs.Certificates.{FrontFits}
use Rattle.tso_cert.specs.Trees.{IsWithin, Tree, TreeFits, fork, leaf, records_of}
use Rattle.tso_code.specs.States.{StateFits}
use Rattle.tso_choose.specs.declared.choice.Choice.{Choice}
use Rattle.tso_foot.specs.Closed.{IsClosed}
use Rattle.tso_foot.specs.declared.table.Table.{Table}
use Rattle.tso_foot.specs.declared.table.Table.TheVariants.{Arrays, Intervals}
use Rattle.tso_rec.specs.Conditions.{EndFits as HasEnd, HaveReasons, IsExplained}
use Rattle.tso_prog.specs.Views.{mode_view}
use Rattle.tso_prog.specs.declared.client.Client.{Client}
use Rattle.tso_judge.proofs.EndNumbers.{choices_fit, order_fits}
use Rattle.tso_judge.proofs.Fitting.{fits}
use Rattle.tso_judge.proofs.Lists.{Each, each_rest}
use Rattle.tso_judge.proofs.Stepping.{words_stay}
use Rattle.tso_judge.proofs.Tables.{table_fits}
use Rattle.tso_judge.specs.Certified.{CertificatesFit, ForksAreFirsts, HasTable, IsBare, IsReachedRecord}
use Rattle.tso_judge.specs.Fitting.{StatesFit}
use Rattle.tso_judge.specs.Words.{HasWords}
use Rattle.tso_rec.specs.Bases.{basis}
use Rattle.tso_rec.specs.Spelling.{EndFits, RecordFits}
use Rattle.tso_rec.specs.declared.basis.Basis.{Basis}
use Rattle.tso_rec.specs.declared.basis.Grain.{Grain}
use Rattle.tso_rec.specs.declared.basis.Grain.TheVariants.{Steps, Crossings}
use Rattle.tso_rec.specs.declared.record.End.{End}
use Rattle.tso_rec.specs.declared.record.End.TheVariants.{Choices, Order}
use Rattle.tso_rec.specs.declared.record.Record.{Record}
use Rattle.tso_state.specs.Views.{state_of}
use Rattle.tso_state.specs.WellFormed.{IsWellFormed}
use Rattle.tso_state.specs.declared.state.State.{State}

-- ---- records

chosen_fit : (c : Client) (g : Grain) (t : Table) (s : State) (choices : List Choice) → IsWellFormed c s → HasEnd c (basis g t) s (Choices choices) → HaveReasons c (basis g t) s (Choices choices)
    → IsBare g (Choices choices) → EndFits g (Choices choices)
chosen_fit c Steps t s choices w has reasons bare = choices_fit c t s choices w has reasons
chosen_fit c Crossings t s choices w has reasons bare = bare

end_fits : (c : Client) (b : Basis) (s : State) (e : End) → IsWellFormed c s → HasWords (state_of s) → HasEnd c b s e → HaveReasons c b s e → IsExplained c s e → IsBare b.grain e → EndFits b.grain e
end_fits c b s (Choices choices) w words has reasons explained bare = chosen_fit c b.grain b.table s choices w has reasons bare
end_fits c b s (Order order) w words has reasons explained bare = order_fits c s (mode_view c.mode) c.capacity order w words explained

record_fits : (c : Client) (b : Basis) (states : List State) (r : Record) → StatesFit c → IsReachedRecord c b states r → RecordFits b.grain r
record_fits c b states r all known =
    let w = known.valid.well_formed in (
      all known.actors r.state known.steps w,
      end_fits c b r.state r.end w (words_stay c known.actors (state_of r.state) known.steps) known.valid.fits known.valid.reasons known.valid.explained known.bare,
    )

-- ---- trees

first_part : {X : Type 0} (P : X → Type 0) (xs ys : List X) → Each P (xs ++ ys) → Each P xs
first_part P [] ys h n x e = absurd cc
first_part P (y ∷ xs) ys h zero x e = h zero x e
first_part P (y ∷ xs) ys h (suc n) x e = first_part P xs ys (each_rest P y (xs ++ ys) h) n x e

last_part : {X : Type 0} (P : X → Type 0) (xs ys : List X) → Each P (xs ++ ys) → Each P ys
last_part P [] ys h = h
last_part P (x ∷ xs) ys h = last_part P xs ys (each_rest P x (xs ++ ys) h)

first_state : (g : Grain) (records : List Record) (s : State) → Each (RecordFits g) records → slice_get (map (λ (r : Record). r.state) records) 0 ≡ Some s → StateFits s
first_state g [] s h e = absurd cc
first_state g (r ∷ rs) s h e = subst StateFits (same_Some r.state s e) (h zero r refl).0

tree_fits : (g : Grain) (depth : ℕ) (tree : Tree) → IsWithin depth tree → ForksAreFirsts tree → Each (RecordFits g) (records_of tree) → TreeFits g tree
tree_fits g depth (leaf records) within firsts h = fits (RecordFits g) records 64 within (omega arith) h
tree_fits g zero (fork left s right) within firsts h = absurd within
tree_fits g (suc depth) (fork left s right) within firsts h =
    let low = first_part (RecordFits g) (records_of left) (records_of right) h in
    let high = last_part (RecordFits g) (records_of left) (records_of right) h in
    (tree_fits g depth left within.0 firsts.1 low, first_state g (records_of right) s high firsts.0, tree_fits g depth right within.1 firsts.2 high)

front_fits : (c : Client) (g : Grain) (t : Table) → IsClosed c t → HasTable g t → FrontFits (basis g t)
front_fits c Steps t closed has = table_fits c t closed
front_fits c Crossings (Arrays t) closed has = absurd has
front_fits c Crossings (Intervals t) closed has = table_fits c (Intervals t) closed

pub certificates_fit : (c : Client) → StatesFit c → CertificatesFit c
certificates_fit c all b tree states closed has within firsts records =
    (front_fits c b.grain b.table closed has, tree_fits b.grain 64 tree within firsts (λ k r at. record_fits c b states r all (records k r at)))
