use Rattle.std.proofs.Common.{ℕ, List, ◌∙◌, ◌++◌, ap}
use Rattle.tso_cert.specs.Certificates.{certificate}
use Rattle.tso_rec.specs.Bases.{basis}
use Rattle.tso_search.specs.Grounds.{grain_of}
use Rattle.tsoq.proofs.filing.put_worked_bytes.Goals as goal

pub returns-in-Ok : goal.returns-in-Ok
returns-in-Ok g c =
    let put = c.in_ok-write.ensures.ok in
    record {
      tree = put.tree;
      made = put.made;
      spelled = c.in-Ok.ensures ∙ put.appended ∙ ap (λ (l : List ℕ). l ++ certificate (basis (grain_of c.args.worked.now.ground) c.args.table.now) put.tree) c.new-out.ensures;
    }
