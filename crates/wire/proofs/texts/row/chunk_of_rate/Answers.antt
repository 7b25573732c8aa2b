use Rattle.std.proofs.lemmas.Result.{err_from_is_err_and}
use Rattle.wire.proofs.ChunkLemmas.{names_fault, names_found}
use Rattle.wire.proofs.texts.row.chunk_of_rate.Goals as goal

pub returns-in_err-ids : goal.returns-in_err-ids
returns-in_err-ids c =
    let p = err_from_is_err_and c.from_residual.result c.from_residual.ensures.1 in
    rw (p.1, p.2) (names_fault c.args.rate c.args.rest.now c.in_err-ids.field-0.0 c.requires.fee c.requires.size c.in_err-ids.ensures)

pub returns : goal.returns
returns c = names_found c.args.rate c.args.rest.now c.in_ok-ids.ids c.requires.fee c.requires.size c.in_ok-ids.ensures
