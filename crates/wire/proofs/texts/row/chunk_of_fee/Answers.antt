use Rattle.wire.specs.Forms.{names_text}
use Rattle.wire.proofs.ChunkLemmas.{chunk_rest_no_row}
use Rattle.wire.proofs.texts.row.chunk_of_fee.Goals as goal

pub returns-in-None : goal.returns-in-None
returns-in-None c =
    chunk_rest_no_row c.args.fee c.args.rest.now c.requires (λ rate ids fits is. c.in-None.ensures.none rate.size (names_text ids) fits.1 is)
