use Rattle.std.proofs.Common.{[], arith, get_or}
use Rattle.std.proofs.lemmas.Option.{slice_get-get_or}
use Rattle.tso_cells.specs.declared.table.Item.{Item}
use Rattle.tso_cells.proofs.Items.{pushed_items}
use Rattle.tso_cells.proofs.assembling.assembled.Goals as goal

pub loop-i-preserved : goal.loop-i-preserved
loop-i-preserved c =
    let known = c.loop-i.invariant in
    let rows = c.args.rows.now in
    let item : Item = record { registers = get_or rows c.loop-i.i []; reads = c.in_ok-reads.reads; writes = c.in_ok-writes.writes } in
    rw c.in_ok-push.ensures.items (pushed_items rows c.args.reads.now c.args.writes.now c.loop-i.items.items c.loop-i.i item known.count known.each
    (slice_get-get_or rows c.loop-i.i [] c.loop-i-test.true, c.in_ok-reads.ensures, c.in_ok-writes.ensures))

pub returns : goal.returns
returns c = rw c.from_vec.ensures (record { count = omega arith; each = c.loop-i.invariant.each })
