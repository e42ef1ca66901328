use Rattle.std.proofs.Common.{◌≡◌, subst}
use Rattle.tso_client.proofs.OneText.{same_client}
use Rattle.tso_client.proofs.Reordered.{clients_cover_themselves}
use Rattle.tso_client.specs.Clients.{ClientCovers}
use Rattle.tso_prog.specs.declared.client.Client.{Client}
use Rattle.tso_table.proofs.same.is_same_client.Goals as goal

pub returns : goal.returns
returns c =
    let a = c.args.a.now in
    let b = c.args.b.now in
    let lines : (a.mode ≡ b.mode) × (a.push.lines ≡ b.push.lines) × (a.pop.lines ≡ b.pop.lines) = c.have_same_lines.ensures.0 c.if-not-have_same_lines.false in
    let threads : a.threads ≡ b.threads = c.are_same_threads.ensures.0 c.if-not-are_same_threads.false in (
      λ h.
          let alike = (c.covers.ensures.0 h).0 in
          same_client a b (λ i. record { capacity = alike.capacity i; mode = lines.0 i; arrays = alike.arrays i; push = alike.push i; pop = alike.pop i; prologue = alike.prologue i; threads = threads i }) lines.1 lines.2,
      λ e. c.covers.ensures.1 (subst (λ (d : Client). ClientCovers d a) e (clients_cover_themselves a)),
    )
