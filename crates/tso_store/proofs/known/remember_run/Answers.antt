use Rattle.std.proofs.Common.{None, arith}
use Rattle.std.proofs.lemmas.Option.{slice_get-get_or}
use Rattle.tso_store.specs.declared.known.Run.TheVariants as runs
use Rattle.tso_store.proofs.Recalls.{set_run}
use Rattle.tso_store.proofs.known.remember_run.Goals as goal

pub returns-then-place-len : goal.returns-then-place-len
returns-then-place-len c =
    let there = slice_get-get_or c.make_room.new.known c.args.number (record { push = runs.Unknown; pop = runs.Unknown; drained = None }) (omega (arith, c.if-place-len.true, c.len.ensures)) in
    set_run c.args.client.now c.args.procedure c.args.threads.now c.make_room.new.known c.args.number c.args.run _ c.with_run.result c.in_ok-make_room.ensures there (rw c.as_slice.ensures at c.with_run.ensures) c.requires.run
