use Rattle.tso_cert.specs.Trees.{tree_of}
use Rattle.tso_check.proofs.RisingLemmas.{look_split, split_look}
use Rattle.tso_check.proofs.rising.is_ordered.Goals as goal

pub returns : goal.returns
returns c =
    let tree = tree_of c.args.cert.now in
    let rising = c.in_ok-is_rising.ensures.0 c.if-not-branch.false in (
      λ e. (rising, look_split tree rising (c.forks_look.ensures.0 e)),
      λ ordered. c.forks_look.ensures.1 (split_look tree ordered.1),
    )
