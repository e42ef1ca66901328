use Rattle.std.proofs.Common.{◌∙◌, length, subst}
use Rattle.tso_prog.specs.declared.client.Client.{Client}
use Rattle.tso_regions.specs.Gathering.{AreGathered}
use Rattle.tso_regions.proofs.gathering.gathered_of.Goals as goal

pub returns-in-Ok-true : goal.returns-in-Ok-true
returns-in-Ok-true g c =
    let regions = c.args.regions.items in
    let states = c.take_all.new.gathered.states in
    record {
      client = c.take_all.ensures.client ∙ c.new-gathered.ensures.client;
      gathered = λ listed. subst (λ (x : Client). AreGathered x c.args.count regions (length regions) states) c.new-gathered.ensures.client (c.in-Ok-true.ensures.gathered c.in-Ok-true.field-0-test listed);
      first = c.in-Ok-true.ensures.first c.in-Ok-true.field-0-test;
    }
