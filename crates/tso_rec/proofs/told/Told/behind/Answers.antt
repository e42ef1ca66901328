use Rattle.std.proofs.Common.{ap, ◌∙◌}
use Rattle.tso_rec.specs.Fronts.{fronts}
use Rattle.tso_rec.proofs.FrontLemmas.{reads_behind}
use Rattle.tso_rec.proofs.told.Told.behind.Goals as goal

pub returns-in-Some : goal.returns-in-Some
returns-in-Some g c =
    reads_behind (fronts g.met.T.Readable.one_spelling) c.spelled.result.now c.args.bytes.now c.in-Some.rest.now c.args.self.now.part (ap g.T.Code.read_at c.spelled.ensures ∙ c.args.self.now.reads) c.in-Some.ensures.cases.0 c.in-Some.ensures.cases.1
