use Rattle.std.proofs.Common.{◌∙◌, ◌++◌, Bor, List, ℕ, take, ap, sym}
use Rattle.std.proofs.KnownBytes.{Appends-kept, Appends-trans}
use Rattle.tso_list.proofs.BeginningLemmas.{moves_front}
use Rattle.tso_list.proofs.writing.write_bytes.Goals as goal
use Rattle.tso_list.proofs.writing.write_bytes.Goals.{in-Ok, in-Err}

abbrev shown : Bor (List ℕ) → List ℕ
shown r = r.now

pub loop-preserved : goal.loop-preserved
loop-preserved g c =
    let (done, split, appended) = c.loop.invariant in
    elim c.match-write.branch [
      | in-Ok w ↦ (done ++ take w.in-Ok.count c.loop.rest.now, moves_front _ done c.loop.rest.now _ w.in-Ok.count split (ap shown w.rest-is), Appends-trans _ _ _ _ _ appended w.in-Ok.ensures.bytes)
      | in-Err w ↦ (done, split ∙ ap (λ (l : List ℕ). done ++ l) (sym (ap shown w.rest-is)), Appends-kept _ _ _ done appended w.in-Err.ensures.bytes)
    ]
