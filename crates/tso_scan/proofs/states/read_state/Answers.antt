use Rattle.tso_scan.proofs.ScanLemmas.{state_scanned}
use Rattle.tso_scan.proofs.states.read_state.Goals as goal

pub returns : goal.returns
returns c =
    state_scanned c.args.client.now c.args.scan.now c.read_key.new.sources c.push.new.self c.in-Some.key c.args.bytes.now c.in-Some.rest.now c.requires (rw c.in-Some.is at c.in_ok-key.ensures) c.in_ok-push.ensures.ok
