use Rattle.tso_search.proofs.SearchLemmas.{on_ok}
use Rattle.tso_write.proofs.SpellerLemmas.{ended_behind}
use Rattle.tso_write.proofs.speller.Speller.put_record.Goals as goal

pub returns : goal.returns
returns c = on_ok c.put_end.result c.put_end.ensures (λ put. ended_behind c.args.grain _ c.args.number c.args.end.now _ _ _ c.in_ok-put_state.ensures put)
