-- Drafts as stages of a text.
use Rattle.std.proofs.Common.{◌≡◌, List, ◌∷◌, ◌++◌, sym, ap, map, None, ◌∙◌, refl}
use Rattle.graph_model.specs.Texts.{Text}
use Rattle.wire.specs.declared.texts.draft.Draft.{Draft}
use Rattle.wire.specs.declared.texts.draft.Draft.TheVariants as drafts
use Rattle.wire.specs.declared.texts.row.Row.{Row}
use Rattle.wire.specs.Rows.{rows_of}
use Rattle.certificate.specs.Parts.{part_of}
use Rattle.wire.specs.Drafts.{text_of, open_part, written}
use Rattle.wire.proofs.StageLemmas.{Stage, AtGraph, AtParts, AtEnd, rows_at, put, put_refuses, stage_same}

abbrev pub stage_of : Draft → Stage
stage_of (drafts.Graph txs edges) = AtGraph txs.items edges.items
stage_of (drafts.Parts graph parts last) = AtParts graph.txs graph.edges (map part_of parts.items) (open_part last)
stage_of (drafts.Ended text) = AtEnd (text_of text)

written_is : (draft : Draft) → rows_at (stage_of draft) ≡ written draft
written_is (drafts.Graph txs edges) = refl
written_is (drafts.Parts graph parts last) = refl
written_is (drafts.Ended text) = refl

pub draft_refuses : (draft : Draft) (row : Row) → put (stage_of draft) row ≡ None
    → (text : Text) (more : List Row) → rows_of text ≡ written draft ++ row ∷ more → ⊥
draft_refuses draft row none text more is =
    put_refuses (stage_of draft) row none text more (is ∙ ap (λ (xs : List Row). xs ++ row ∷ more) (sym (written_is draft)))

-- a text whose lines were all read was ended
pub unfinished : (draft : Draft) → ((text : Text) → stage_of draft ≡ AtEnd text → ⊥) → (text : Text) → rows_of text ≡ written draft → ⊥
unfinished draft none text is = none text (stage_same (stage_of draft) (AtEnd text) (written_is draft ∙ sym is))
