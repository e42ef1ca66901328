use Rattle.tso_page.proofs.EscapeLemmas.{no_markup}
use Rattle.tso_page.proofs.laws.escaped_text_is_no_markup.Goals as goal

pub returns : goal.returns
returns c = no_markup
