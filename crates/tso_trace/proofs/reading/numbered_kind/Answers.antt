use Rattle.tso_trace.proofs.KindLemmas.{no_number}
use Rattle.tso_trace.proofs.reading.numbered_kind.Goals as goal

pub returns-in_default-access_behind-3 : goal.returns-in_default-access_behind-3
returns-in_default-access_behind-3 c k bare proper is =
    no_number c.args.client.now.arrays c.args.text.now (record {
      call = c.in_default.ensures;
      answer = c.in_default-number_behind.ensures;
      read = c.in_default-access_behind.ensures;
      write = c.in_default-access_behind-2.ensures;
      drain = c.in_default-access_behind-3.ensures;
    }) k bare proper is
