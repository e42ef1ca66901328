use Rattle.tso_fences.proofs.LineLemmas.{text_of-lines_of}
use Rattle.tso_fences.proofs.lines.texts_are_of_their_lines.Goals as goal

pub returns : goal.returns
returns c = text_of-lines_of
