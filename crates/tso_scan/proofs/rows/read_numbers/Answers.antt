use Rattle.std.proofs.Common.{refl}
use Rattle.tso_scan.proofs.RowLemmas.{read_all, read_more, read_none}
use Rattle.tso_scan.proofs.rows.read_numbers.Goals as goal

pub loop-place-init : goal.loop-place-init
loop-place-init g c = read_none g.T.Code.read_at c.args.scroll.now c.args.count _ c.args.bytes.now refl

pub loop-place-preserved : goal.loop-place-preserved
loop-place-preserved g c =
    let one = rw c.in-Some.is at c.in_ok-number.ensures in
    read_more c.args.scroll.now c.loop-place.scroll c.read.new.self c.args.count c.loop-place.place c.in-Some.number c.loop-place.numbers c.args.bytes.now c.loop-place.rest.now c.in-Some.after.now c.requires c.loop-place-test.true c.loop-place.invariant one.0 one.1

pub returns : goal.returns
returns g c =
    read_all c.args.scroll.now c.loop-place.scroll c.args.count c.loop-place.place (record { numbers = c.loop-place.numbers }) c.args.bytes.now c.loop-place.rest.now c.loop-place-test.false c.loop-place.auto.place-end c.loop-place.invariant
