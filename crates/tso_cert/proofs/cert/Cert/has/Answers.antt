use Rattle.tso_cert.specs.Trees.{tree_of}
use Rattle.tso_cert.proofs.LookupLemmas.{searchable}
use Rattle.tso_cert.proofs.cert.Cert.has.Goals as goal

pub finds-requires : goal.finds-requires
finds-requires c = searchable (tree_of c.args.self.now) c.requires
