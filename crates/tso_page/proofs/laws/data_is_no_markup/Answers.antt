use Rattle.tso_page.proofs.EscapeLemmas.{all_data}
use Rattle.tso_page.proofs.laws.data_is_no_markup.Goals as goal

pub returns : goal.returns
returns c = all_data
