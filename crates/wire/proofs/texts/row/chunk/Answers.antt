use Rattle.std.proofs.Common.{◌++◌, ◌∷◌, decimal}
use Rattle.wire.specs.Forms.{names_text}
use Rattle.wire.proofs.ChunkLemmas.{chunk_no_row}
use Rattle.wire.proofs.texts.row.chunk.Goals as goal

pub returns-in-None : goal.returns-in-None
returns-in-None c =
    chunk_no_row c.args.rest.now (λ rate ids fits is. c.in-None.ensures.none rate.fee (decimal rate.size ++ 32 ∷ names_text ids) fits.0 is)
