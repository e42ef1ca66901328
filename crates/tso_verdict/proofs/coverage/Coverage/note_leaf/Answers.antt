use Rattle.tso_verdict.proofs.Counting.{one_record_more}
use Rattle.tso_rec.specs.Records.{ends_of, states_of}
use Rattle.tso_verdict.proofs.coverage.Coverage.note_leaf.Goals as goal

pub loop-number-preserved : goal.loop-number-preserved
loop-number-preserved c =
    one_record_more c.args.client.now c.args.self.now (states_of c.args.records.now) (ends_of c.args.records.now) c.loop-number.number _ _ c.loop-number.self c.note_state.new.self c.note_end.new.self
    c.loop-number.invariant c.in_ok-state.ensures c.end.ensures c.note_state.ensures.push c.note_state.ensures.pop c.note_state.ensures.push_refused c.note_state.ensures.pop_refused c.note_state.ensures.most
    c.note_end.ensures.push c.note_end.ensures.pop c.note_end.ensures.refused c.note_end.ensures.most
