use Rattle.tso_client.proofs.Doing.{cmp_compares, test_tests}
use Rattle.tso_client.proofs.instructions.comparisons_compare.Goals as goal

pub returns : goal.returns
returns c = let client = c.args.client.now in record { cmp = cmp_compares client; test = test_tests client }
