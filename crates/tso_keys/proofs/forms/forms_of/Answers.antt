use Rattle.tso_keys.proofs.Formed.{formed}
use Rattle.tso_keys.proofs.forms.forms_of.Goals as goal

pub returns : goal.returns
returns c =
    formed c.args.checked.now.client c.args.parts.now c.in_ok-memories.memories c.in_ok-histories.histories c.in_ok-threads.threads c.is_numbered.ensures.small c.in_ok-memories.ensures c.in_ok-histories.ensures c.in_ok-threads.ensures c.args.keys.now c.requires
