use Rattle.std.proofs.Common.{get_or}
use Rattle.std.proofs.lemmas.Option.{slice_get-get_or}
use Rattle.tso_write.proofs.SpellingLemmas.{number_of_same, state_of_same}
use Rattle.tso_write.proofs.spelling.Unspelled.first.Goals as goal

pub state_bytes-requires : goal.state_bytes-requires
state_bytes-requires c =
    let p = c.args.self.now in
    let ns = p.numbers.now in
    number_of_same p.store.now.states p.speller.now (get_or ns 0 0) c.requires.ready.same (c.requires.ready.cut.numbers 0 (get_or ns 0 0) (slice_get-get_or ns 0 0 c.requires.some))

pub returns : goal.returns
returns c = let p = c.args.self.now in state_of_same p.store.now.states p.speller.now _ _ _ c.requires.ready.same c.in_ok-bytes.ensures
