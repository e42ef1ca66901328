use Rattle.tso_trace.proofs.LineLemmas.{outcome}
use Rattle.tso_trace.proofs.grammar.behind_header.Goals as goal

pub returns : goal.returns
returns c = outcome c.behind.result c.behind.ensures (λ none h. none h.rest h.begins) (λ rest e. e)
