use Rattle.tso_write.proofs.SpellingLemmas.{state_alone}
use Rattle.tso_write.proofs.spelling.state_bytes.Goals as goal

pub returns : goal.returns
returns c = state_alone c.args.speller.now c.args.number _ _ c.new-bytes.ensures.items c.in_ok-put_state.ensures
