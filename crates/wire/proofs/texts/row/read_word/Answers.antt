use Rattle.std.proofs.Common.{sym, ◌∙◌}
use Rattle.std.proofs.lemmas.Bool.{false≢true}
use Rattle.wire.proofs.RowLemmas.{word_no_row}
use Rattle.wire.proofs.texts.row.read_word.Goals as goal

pub returns-else-is_end : goal.returns-else-is_end
returns-else-is_end c = word_no_row c.args.word.now c.requires (λ is. false≢true (sym c.if-is_end.false ∙ c.is_end.ensures.1 is))
