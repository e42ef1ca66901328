use Rattle.std.proofs.Common.{◌∙◌, ◌++◌, List, ℕ, Ok, ap, sym}
use Rattle.tso_machine.specs.declared.machine.Machine.{Machine}
use Rattle.tso_prog.specs.declared.client.Client.{Client}
use Rattle.tso_show.specs.Sites.{taker}
use Rattle.tso_show.specs.States.{shown_text}
use Rattle.tso_show.proofs.moment.next_moment.Goals as goal

pub returns-clause-moment : goal.returns-clause-moment
returns-clause-moment c =
    let label = c.in-Some.label in
    let show = c.args.show in
    let client = c.args.walk.now.client in
    record {
      next = sym c.in-Some.ensures.is;
      moved = (c.in_ok-moved.ensures.moved (ap Ok c.if-not-moved.false)).1;
      site = c.taker-site.ensures ∙ ap (λ (x : Client). taker x c.machine.result.now label) c.checked.ensures ∙ ap (λ (m : Machine). taker client m label) c.machine.ensures.is;
      shown =
          c.in_ok-push_shown.ensures ∙ ap (λ (t : List ℕ). t ++ shown_text show c.checked-2.result.now.client c.machine-2.result.now label) c.new-shown.ensures.bytes
          ∙ ap (λ (x : Client). shown_text show x c.machine-2.result.now label) (c.checked-2.ensures ∙ c.forward.ensures.same.0) ∙ ap (λ (m : Machine). shown_text show client m label) c.machine-2.ensures.is;
    }
