use Rattle.wire.proofs.TextLemmas.{text_same}
use Rattle.wire.proofs.laws.lines_spell_one_text.Goals as goal

pub returns : goal.returns
returns c = text_same
