use Rattle.std.proofs.Common.{subst}
use Rattle.tso_rec.specs.declared.basis.Grain.{Grain}
use Rattle.tso_write.specs.Spelling.{IsEndedBehind}
use Rattle.tso_write.proofs.SpellingLemmas.{number_of_same, record_behind}
use Rattle.tso_write.proofs.spelling.put_record.Goals as goal

pub put_record-requires : goal.put_record-requires
put_record-requires c = number_of_same c.args.store.now.states c.args.speller.now c.args.number c.requires.same c.requires.there

pub returns : goal.returns
returns c =
    record_behind c.args.checked.now.client c.args.ground.now c.args.store.now.states c.args.speller.now c.args.number c.in_ok-end.end c.args.out.now.items _ c.requires.searched c.requires.closed c.requires.same c.in_ok-end.ensures
    (subst (λ (x : Grain). IsEndedBehind x c.args.speller.now c.args.number c.in_ok-end.end c.args.out.now.items c.put_record.new.out.items) c.grain.ensures c.in_ok-put_record.ensures)
