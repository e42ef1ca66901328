use Rattle.std.proofs.Common.{List, Ok, sym, ap, ◌∙◌}
use Rattle.tso_text.specs.declared.token.Token.{Token}
use Rattle.tso_prog.specs.declared.client.Client.{Client}
use Rattle.tso_prog.specs.Content.{content}
use Rattle.tso_prog.proofs.Contents.{lines_of_text}
use Rattle.tso_prog.proofs.text.read_all.Goals as goal

pub returns-clause-lines : goal.returns-clause-lines
returns-clause-lines c =
    lines_of_text (λ (x : Client). x.push.lines) (λ (x : Client). x.pop.lines) c.args.source.now c.deref.result.now (content c.in_ok-draft.draft) c.finish.result (c.in_ok-tokens.ensures.exact ∙ ap (λ (ts : List Token). Ok ts) (sym c.deref.ensures.value)) c.in_ok-draft.ensures.first c.finish.ensures.lines
