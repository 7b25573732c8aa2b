use Rattle.std.proofs.Common.{◌≡◌, sym, ap, ◌∙◌, map}
use Rattle.certificate.specs.Parts.{part_of}
use Rattle.wire.specs.Drafts.{open_part}
use Rattle.wire.proofs.StageLemmas.{AtGraph, AtParts, AtEnd}
use Rattle.wire.proofs.DraftLemmas.{stage_of, unfinished}
use Rattle.wire.proofs.texts.draft.Draft.finished.Goals as goal

pub returns-in-Graph : goal.returns-in-Graph
returns-in-Graph c = unfinished c.args.self (λ text is.
    let e : AtGraph c.in-Graph.field-0.items c.in-Graph.field-1.items ≡ AtEnd text = sym (ap stage_of c.in-Graph.is) ∙ is in cc)

pub returns-in-Parts : goal.returns-in-Parts
returns-in-Parts c = unfinished c.args.self (λ text is.
    let graph = c.in-Parts.field-0 in
    let e : AtParts graph.txs graph.edges (map part_of c.in-Parts.field-1.items) (open_part c.in-Parts.field-2) ≡ AtEnd text =
    sym (ap stage_of c.in-Parts.is) ∙ is in cc)
