-- What the first states of a search tell.
use Rattle.std.proofs.Common.{◌≡◌, ◌∙◌, ℕ, ◌<◌, ◌≤◌, ◌⊎◌, inl, inr, Bool, true, false, List, [], length, get_or, Some, slice_get, sym, subst, arith}
use Rattle.std.specs.Prelude.{Err, IfOk, MatchBool, Ok, Result}
use Rattle.std.proofs.lemmas.Option.{same_Some, slice_get-get_or, slice_get_within}
use Rattle.tso_search.proofs.SearchLemmas.{all_searched, begun_first, has_begun, longer, searched_stays}
use Rattle.tso_explore.specs.Firsts.{IsBegunAlone, IsFirstAlone, IsFirstOf, IsFound, IsPaused}
use Rattle.tso_search.specs.Goodness.{AllGood}
use Rattle.tso_search.specs.Searched.{AreSearched, IsBegun, IsHunting, IsSearched, IsStarted, IsWorked}
use Rattle.tso_search.specs.Shortening.{IsShorter, IsTraceOf}
use Rattle.tso_explore.specs.declared.first.First.{First}
use Rattle.tso_explore.specs.declared.first.First.TheVariants as firsts
use Rattle.tso_search.specs.declared.origin.Origin.{Origin}
use Rattle.tso_flow.specs.Faults.{HasNoFault}
use Rattle.tso_search.specs.Grounds.{HasRoom}
use Rattle.tso_search.specs.Reached.{IsBadAt}
use Rattle.tso_search.specs.Ways.{IsBadEnd}
use Rattle.tso_search.specs.declared.ground.Ground.{Ground}
use Rattle.tso_parts.specs.Numbers.{Extends}
use Rattle.tso_prog.specs.declared.client.Client.{Client}
use Rattle.tso_state.specs.declared.state.State.{State}
use Rattle.tso_store.specs.Sheets.{Sheet}
use Rattle.tso_trace.specs.declared.trace.Trace.{Trace}

-- a search that is paused goes on by a hunt
pub hunting_on : (c : Client) (g : Ground) (limit : ℕ) (store : Sheet) (origins : List Origin) (marks : List Bool) (number : ℕ) → IsPaused c limit g store origins marks number
    → IsHunting c g limit store.states origins marks
hunting_on c g limit store origins marks number paused = record { begun = paused.searched.begun; good = paused.good; few = paused.few; done = paused.done }

-- and is paused behind it
pub paused_on : (c : Client) (g : Ground) (limit : ℕ) (old new : Sheet) (origins origins' : List Origin) (marks marks' : List Bool) (number : ℕ) → IsPaused c limit g old origins marks number
    → new.client ≡ old.client → IsHunting c g limit new.states origins' marks' → Extends old.states new.states → HasRoom g new.kept 4000000000 → IsPaused c limit g new origins' marks' number
paused_on c g limit old new origins origins' marks marks' number paused same hunting stays room = record {
  client = same ∙ paused.client;
  searched = searched_stays c g old.states new.states origins origins' number paused.searched paused.low hunting.begun stays;
  good = hunting.good;
  done = hunting.done;
  low = (let a = paused.low in let b = longer old.states new.states stays in omega (arith, a, b));
  few = hunting.few;
  room = room;
}

-- what is found is what the first states tell
pub first_found_as : {E : Type 0} (c : Client) (limit : ℕ) (g : Ground) (store : Sheet) (origins : List Origin) (marks : List Bool) (r : Result First E) → IfOk r (IsFound c limit)
    → IfOk r (IsFirstOf c limit g store origins marks)
first_found_as c limit g store origins marks (Ok (firsts.Stopped why)) is = is
first_found_as c limit g store origins marks (Ok (firsts.GoesOn number)) is = absurd is
first_found_as c limit g store origins marks (Err e) is = tt

pub begun_none : (c : Client) (g : Ground) → HasNoFault c → (states : List State) (origins : List Origin) → IsStarted c g states → origins ≡ [] → IsBegun c g states origins
begun_none c g sound states origins started none = subst (IsBegun c g states) (sym none) (begun_first c g sound states started)

pub trace_of_shorter : {E : Type 0} (c : Client) (long : Trace) (r : Result Trace E) → IfOk r (IsShorter c long) → IfOk r (IsTraceOf c)
trace_of_shorter c long (Ok t) is = is.trace
trace_of_shorter c long (Err e) is = tt

-- where a search has come to the last state, all are worked
pub worked_to_end : (c : Client) (g : Ground) (limit : ℕ) (states : List State) (origins : List Origin) (number : ℕ) → IsSearched c g states origins number → number ≤ length states → length states ≤ number → length states ≤ limit
    → AreSearched c g states × (length states ≤ limit)
worked_to_end c g limit states origins number searched low high few =
    let same : number ≡ length states = omega (arith, low, high) in
    (all_searched c g states origins (subst (IsSearched c g states origins) same searched), few)

-- so they are where no pause ends it
pub worked_without_pause : (c : Client) (g : Ground) (limit : ℕ) (states : List State) (origins : List Origin) (number : ℕ) → IsSearched c g states origins number → number ≤ length states
    → (length states ≤ number) ⊎ (4294967295 < length states) → length states ≤ limit → limit ≤ 4194304 → AreSearched c g states × (length states ≤ limit)
worked_without_pause c g limit states origins number searched low over few small = elim over [
  | inl high ↦ worked_to_end c g limit states origins number searched low high few
  | inr more ↦ absurd (omega (arith, more, few, small))
]

-- states that are searched so far, from which several workers go on
pub begun_alone : (c : Client) (limit : ℕ) (g : Ground) (store : Sheet) (origins : List Origin) (number : ℕ) → store.client ≡ c → IsSearched c g store.states origins number → AllGood c store.states → number ≤ length store.states
    → length store.states ≤ limit → IsBegunAlone c limit g store number
begun_alone c limit g store origins number client searched good low few = record {
  client = client;
  begun = has_begun c g store.states origins searched.begun;
  few = few;
  sound = record { met = searched.begun.met; good = good };
  worked = λ n lt.
      let s : State = get_or store.states n searched.begun.initial in
      let at : slice_get store.states n ≡ Some s = slice_get-get_or store.states n searched.begun.initial (omega (arith, lt, low)) in
      record { state = s; at = at; worked = searched.worked n s lt at };
}

-- where they are all that there are, all are worked
pub all_alone : (c : Client) (limit : ℕ) (g : Ground) (store : Sheet) (number : ℕ) → IsBegunAlone c limit g store number → length store.states ≤ number → AreSearched c g store.states
all_alone c limit g store number begun all = record {
  begun = begun.begun;
  worked = λ n s at.
      let inside = slice_get_within store.states n s at in
      let done = begun.worked n (omega (arith, inside, all)) in
      let same : done.state ≡ s = same_Some done.state s (sym done.at ∙ at) in
      subst (IsWorked c g store.states) same done.worked;
}

-- where it stopped
pub first_alone_as : {E : Type 0} (c : Client) (limit : ℕ) (g : Ground) (store : Sheet) (r : Result First E) → IfOk r (IsFound c limit) → IfOk r (IsFirstAlone c limit g store)
first_alone_as c limit g store (Ok (firsts.Stopped why)) found = found
first_alone_as c limit g store (Ok (firsts.GoesOn number)) found = absurd found
first_alone_as c limit g store (Err e) found = tt

-- where the state with which a search begins is bad
pub bad_first : (c : Client) (g : Ground) → HasNoFault c → (states : List State) (origins : List Origin) (b : Bool) → IsStarted c g states → origins ≡ [] → MatchBool b (AllGood c states) (IsBadAt c states 0) → b ≡ false
    → IsBadEnd c g origins 0
bad_first c g sound states origins true started none judged is = absurd (let clash : true ≡ false = is in cc)
bad_first c g sound states origins false started none judged is = record { states = states; begun = begun_none c g sound states origins started none; bad = judged }
