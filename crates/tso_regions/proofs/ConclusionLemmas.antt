-- What a search by regions comes to.
use Rattle.std.proofs.Common.{◌≡◌, ℕ, List, length, Option, None, Some, slice_get, sym, subst}
use Rattle.std.specs.Prelude.{Err, IfOk, IfSome, Ok, Result}
use Rattle.tso_foot.specs.declared.table.Table.{Table}
use Rattle.tso_prog.specs.declared.client.Client.{Client}
use Rattle.tso_regions.proofs.GatheringLemmas.{all_searched}
use Rattle.tso_regions.proofs.SettlingLemmas.{all_settled}
use Rattle.tso_regions.specs.Gathering.{AreGathered, AreSettledBetween, IsBegunAt, owned_below}
use Rattle.tso_regions.specs.Regions.{Domain}
use Rattle.tso_search.specs.BySteps.{AreSearched}
use Rattle.tso_state.specs.declared.state.State.{State}
use Rattle.tso_store.specs.Sheets.{Sheet}

pub listed : (realm : Option Client) (tables : Option Table) (c : Client) (t : Table) (count : ℕ) (domains : List Domain) → realm ≡ Some c → tables ≡ Some t → AreSettledBetween realm tables count domains 0 (length domains)
    → (i : ℕ) (d : Domain) → slice_get domains i ≡ Some d → d.own ≡ owned_below count i d.states (length d.states)
listed realm tables c t count domains is also all i d at = (all_settled realm tables c t count domains is also all i d at).0.own

-- what is gathered is searched
pub gathered_searched : (realm : Option Client) (tables : Option Table) (c : Client) (t : Table) (count : ℕ) (domains : List Domain) (states : List State) → realm ≡ Some c → tables ≡ Some t → length domains ≡ count
    → AreSettledBetween realm tables count domains 0 (length domains) → IsBegunAt c domains → AreGathered c count domains (length domains) states
    → ((d : Domain) (s : State) → slice_get domains 0 ≡ Some d → slice_get d.own 0 ≡ Some 0 → slice_get d.states 0 ≡ Some s → slice_get states 0 ≡ Some s) → AreSearched c t states
gathered_searched realm tables c t count domains states is also same all begun gathered first =
    all_searched c t count domains states begun.initial same (all_settled realm tables c t count domains is also all) (subst (λ k. AreGathered c count domains k states) same gathered)
    (first begun.domain begun.initial begun.domain_at begun.own begun.at) begun.initial_is

pub searched_as : {E : Type 0} (c : Client) (t : Table) (states : List State) (r : Result (Option Sheet) E) → IfOk r (λ found. IfSome found (λ (store : Sheet). store.states ≡ states)) → AreSearched c t states
    → IfOk r (λ found. IfSome found (λ (store : Sheet). AreSearched c t store.states))
searched_as c t states (Ok (Some store)) same searched = subst (AreSearched c t) (sym same) searched
searched_as c t states (Ok None) same searched = tt
searched_as c t states (Err e) same searched = tt
