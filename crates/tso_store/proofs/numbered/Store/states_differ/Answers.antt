use Rattle.tso_keys.proofs.StateLemmas.{states_numbered}
use Rattle.tso_store.proofs.numbered.Store.states_differ.Goals as goal

pub returns : goal.returns
returns c = rw (← c.self.view_is) (states_numbered c.self.inside.checked.now.client c.self.inside.parts c.self.inside.keys c.is_numbered-2.ensures.numbered c.is_numbered-3.ensures.numbered c.is_numbered.ensures.numbered c.is_numbered-4.ensures.numbered c.self.invariant.kept)
