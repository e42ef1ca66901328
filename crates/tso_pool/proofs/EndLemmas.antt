-- Ends of states that are worked.
use Rattle.std.proofs.Common.{◌≡◌, ◌∙◌, ℕ, ◌<◌, Bool, true, false, List, [], length, get_or, Option, None, Some, slice_get, refl, sym, ap, subst, arith}
use Rattle.std.specs.Prelude.{All, IfSome, IsTrue, is_some}
use Rattle.std.specs.Option.{option_map}
use Rattle.std.proofs.lemmas.Option.{none-some, slice_get-get_or}
use Rattle.tso_choose.proofs.ChoiceLemmas.{chosen_are_valid}
use Rattle.tso_choose.specs.Choices.{AreChosen, AreReasons, actors_of}
use Rattle.tso_choose.specs.Needs.{is_enabled}
use Rattle.tso_choose.specs.declared.choice.Choice.{Choice}
use Rattle.tso_compact.specs.Plans.{HasStep, kind_of_move}
use Rattle.tso_foot.specs.declared.table.Table.{Table}
use Rattle.tso_rec.specs.Bases.{by_steps}
use Rattle.tso_rec.specs.Conditions.{AreMet, HasNoStopped, IsExplained, IsOver}
use Rattle.tso_machine.specs.Programs.{program_of}
use Rattle.tso_model.specs.Steps as model
use Rattle.tso_pool.proofs.NumberLemmas.{all_named}
use Rattle.tso_pool.specs.Numbering.{AreNumbered, IsFinished}
use Rattle.tso_pool.specs.declared.finished.Finished.{Finished}
use Rattle.tso_pool.specs.declared.finished.Moves.{Moves}
use Rattle.tso_prog.specs.declared.client.Client.{Client}
use Rattle.tso_rec.specs.declared.record.End.TheVariants.{Choices, Order}
use Rattle.tso_state.specs.Actors.{actor_of}
use Rattle.tso_state.specs.Views.{state_of}
use Rattle.tso_state.specs.WellFormed.{IsWellFormed}
use Rattle.tso_state.specs.declared.actor.Actor.{Actor}
use Rattle.tso_state.specs.declared.state.State.{State}
use Rattle.tso_table.specs.Ends.{AreNear, IsEnd}
use Rattle.tso_table.specs.declared.slot.Filed.{Filed}
use Rattle.tso_table.specs.declared.slot.Near.{Near}
use Rattle.tso_fifo.specs.declared.order.Placed.{Placed}

enabled_by : {X Y Z : Type 0} (f : X → Y) (k : X → Z) (o : Option X) → is_some (option_map k o) ≡ true → is_some (option_map f o) ≡ true
enabled_by f k None e = e
enabled_by f k (Some m) e = refl

pub enabled_has : (c : Client) (s : State) (a : Actor) → IsTrue (is_enabled c s a) → HasStep c s a
enabled_has c s a e = enabled_by (model.perform (state_of s) (model.thread_of (actor_of a))) kind_of_move (model.move (program_of c) (state_of s) (actor_of a)) e

pub item_at : {X : Type 0} (xs : List X) (i : ℕ) (x : X) → i < length xs → x ≡ get_or xs i x → slice_get xs i ≡ Some x
item_at xs i x lt is = slice_get-get_or xs i x lt ∙ ap Some (sym is)

-- a chosen actor has a step
pub chosen_has : (c : Client) (t : Table) (s : State) (choices : List Choice) (i : ℕ) (x : Choice) → IsWellFormed c s → AreChosen c t s choices → i < length choices → x ≡ get_or choices i x → HasStep c s x.actor
chosen_has c t s choices i x w chosen lt is = enabled_has c s x.actor ((chosen_are_valid c t s choices w chosen).enabled i x (item_at choices i x lt is))

-- what holds anyway
pub both_some : {X A : Type 0} (Q : X → Type 0) (o : Option X) → A → IfSome o Q → IfSome o (λ x. A × Q x)
both_some Q None a q = tt
both_some Q (Some x) a q = (a, q)

-- where nothing is chosen no actor has a step
pub none_over : (c : Client) (t : Table) (s : State) (choices : List Choice) → IsWellFormed c s → AreChosen c t s choices → length choices ≡ 0 → IsOver c s
none_over c t s choices w chosen none a = by_case (is_enabled c s a) refl
  where
    by_case : (b : Bool) → is_enabled c s a ≡ b → b ≡ false
    by_case false e = refl
    by_case true e = absurd (let some = (chosen_are_valid c t s choices w chosen).some a e in omega (arith, none, some))

all_of : {X : Type 0} (P : X → Type 0) (xs : List X) → ((k : ℕ) (x : X) → slice_get xs k ≡ Some x → P x) → All P xs
all_of P xs each k d lt = each k (get_or xs k d) (slice_get-get_or xs k d lt)

chosen_met : (c : Client) (t : Table) (s : State) (choices : List Choice) → IsWellFormed c s → AreChosen c t s choices → 0 < length choices → AreMet c (by_steps t) (Unit {0}) (Unit {0}) s (Choices choices)
chosen_met c t s choices w chosen some =
    let valid = chosen_are_valid c t s choices w chosen in
    record {
      well_formed = w;
      fits = record { some = some; rising = valid.rising; enabled = all_of (λ (x : Choice). IsTrue (is_enabled c s x.actor)) choices valid.enabled };
      reasons = all_of (λ (x : Choice). AreReasons c t s (actors_of choices) x.actor x.reasons) choices valid.reasons;
      successors = tt;
      unstopped = tt;
      explained = tt;
      within = tt;
    }

-- chosen actors with the numbers of the states after their steps are an end
chosen_end : (c : Client) (t : Table) (own : ℕ) (s : State) (choices : List Choice) (m : Moves) → IsWellFormed c s → AreChosen c t s choices → 0 < length choices
    → AreNumbered c own s choices m → length m.numbers ≡ length choices → IsEnd c t s (record { end = Choices choices; numbers = m.numbers })
chosen_end c t own s choices m w chosen some are all = record {
  met = chosen_met c t s choices w chosen some;
  named = all_named c s choices m.numbers all are.named;
}

pub chosen_finished : (c : Client) (t : Table) (own : ℕ) (s : State) (choices : List Choice) (m : Moves) → IsWellFormed c s → AreChosen c t s choices → 0 < length choices
    → AreNumbered c own s choices m → length m.numbers ≡ length choices → IsFinished c t own s (record { filed = record { end = Choices choices; numbers = m.numbers }; near = m.near })
chosen_finished c t own s choices m w chosen some are all = record { end = chosen_end c t own s choices m w chosen some are all; near = are.near }

-- so is an order, where no actor has a step
order_end : (c : Client) (t : Table) (s : State) (order : List Placed) (f : Filed) → IsWellFormed c s → IsOver c s → HasNoStopped s × IsExplained c s (Order order)
    → f ≡ record { end = Order order; numbers = [] } → IsEnd c t s f
order_end c t s order f w over (unstopped, explained) is =
    let P : Filed → Type 0 = λ g. IsEnd c t s g in
    subst P (sym is) (record {
      met = record { well_formed = w; fits = over; reasons = tt; successors = tt; unstopped = unstopped; explained = explained; within = tt };
      named = tt;
    })

-- which has no successors
order_near : (c : Client) (own : ℕ) (s : State) (order : List Placed) (f : Filed) → f ≡ record { end = Order order; numbers = [] } → AreNear c own s f []
order_near c own s order f is =
    let P : Filed → Type 0 = λ g. AreNear c own s g [] in
    subst P (sym is) (record { only = λ i d lt. absurd (omega (arith, lt)); every = λ i x n move. absurd (none-some x move.choice) })

pub order_finished : (c : Client) (t : Table) (own : ℕ) (s : State) (order : List Placed) (f : Finished) → IsWellFormed c s → IsOver c s → HasNoStopped s × IsExplained c s (Order order)
    → f.filed ≡ record { end = Order order; numbers = [] } → f.near.items ≡ [] → IsFinished c t own s f
order_finished c t own s order f w over good filed near = record {
  end = order_end c t s order f.filed w over good filed;
  near = subst (λ (ms : List Near). AreNear c own s f.filed ms) (sym near) (order_near c own s order f.filed filed);
}
