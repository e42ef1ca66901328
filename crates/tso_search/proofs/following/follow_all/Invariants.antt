use Rattle.tso_search.proofs.SearchLemmas.{IsFollowing}
use Rattle.tso_search.specs.Goodness.{AllGood}
use Rattle.tso_search.proofs.following.follow_all.Given as goal

abbrev pub invariant-loop-k : goal.invariant-loop-k
invariant-loop-k l = record {
  following : IsFollowing l.checked.client l.ground l.limit l.initial.store l.store l.origins.items l.number l.set l.k;
  good : AllGood l.checked.client l.store.states;
}
