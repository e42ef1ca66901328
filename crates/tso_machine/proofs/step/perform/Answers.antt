use Rattle.std.proofs.Common.{◌≡◌, slice_get, slice_set, Some, subst, sym}
use Rattle.std.proofs.lemmas.List.{length-set}
use Rattle.tso_machine.specs.Changes.{FitsBack}
use Rattle.tso_machine.specs.declared.machine.Thread.{Thread}
use Rattle.tso_machine.proofs.UndoLemmas.{changed_back, get_changed}
use Rattle.tso_machine.proofs.step.perform.Goals as goal

pub returns-clause-back : goal.returns-clause-back
returns-clause-back c =
    let threads = c.args.machine.now.threads in
    let new = c.change.new.self in
    let back = c.in_ok-back.back in
    let fits : (t : Thread) → slice_get (slice_set threads c.args.number new) c.args.number ≡ Some t → FitsBack t back =
    λ t e. let Q : Thread → Type 0 = λ u. FitsBack u back in subst Q (sym (get_changed threads c.args.number new t e)) c.in_ok-back.ensures.fits in
    let same = changed_back threads c.args.number c.at_mut.result.now new back c.requires.there (sym c.at_mut.ensures.value) c.in_ok-back.ensures.back in
    record {
      fits = record {
        word = c.write_memory-memory.ensures.fits;
        thread = rw (length-set threads c.args.number new) c.requires.there;
        back = fits;
      };
      gives = λ i. record { memory = c.write_memory-memory.ensures.back i; lock = c.args.machine.now.lock; threads = same i };
    }
