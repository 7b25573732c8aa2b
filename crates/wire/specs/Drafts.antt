-- A certificate text that was read so far, and how lines take it on.
use Rattle.std.specs.Prelude.{◌≡◌, ℕ, ◌≤◌, ◌==◌, List, [], ◌∷◌, ◌++◌, map, flat_map, length, sum_by, All, Result, Ok, Err}
use Rattle.std.specs.List.{slice_split}
use Rattle.graphs.specs.Certificates.{Part}
use Rattle.graph_model.specs.Lines.{max_line}
use Rattle.graph_model.specs.Texts.{Text, HasTextTypes, IsText, told, text_lines}
use Rattle.wire.specs.declared.texts.draft.CertText.{CertText}
use Rattle.wire.specs.declared.texts.draft.OpenPart.{OpenPart}
use Rattle.wire.specs.declared.texts.draft.Draft.{Draft}
use Rattle.wire.specs.declared.texts.draft.Draft.TheVariants as drafts
use Rattle.wire.specs.declared.texts.fault.TextFault.{TextFault}
use Rattle.wire.specs.declared.texts.fault.TextFault.TheVariants as faults
use Rattle.wire.specs.declared.texts.row.Row.{Row}
use Rattle.certificate.specs.Parts.{part_of}
use Rattle.wire.specs.Rows.{row_line, HasRowTypes, tx_row, edge_row, part_rows, rows_of}

-- a text as certificates have it
abbrev pub text_of : CertText → Text
text_of text = record { txs = text.graph.txs; edges = text.graph.edges; parts = map part_of text.parts }

-- the amounts of all flows together
abbrev pub amount_of : Text → ℕ
amount_of text = sum_by (λ part. sum_by (λ flow. flow.amount) part.flows) text.parts

abbrev pub open_part : OpenPart → Part
open_part part = record { rate = part.rate; ids = part.ids; flows = part.flows.items }

-- the lines that were read
abbrev pub written : Draft → List Row
written (drafts.Graph txs edges) = map tx_row txs.items ++ map edge_row edges.items
written (drafts.Parts graph parts last) =
    map tx_row graph.txs ++ (map edge_row graph.edges ++ (flat_map part_rows (map part_of parts.items) ++ part_rows (open_part last)))
written (drafts.Ended text) = rows_of (text_of text)

-- one more line came, unless no text has it after these lines or there was no memory
abbrev pub Continues : List Row → Row → Result Draft TextFault → Type 0
Continues old row (Ok draft) = written draft ≡ old ++ row ∷ []
Continues old row (Err faults.Syntax) = (text : Text) (more : List Row) → rows_of text ≡ old ++ row ∷ more → ⊥
Continues old row (Err faults.Memory) = Unit {0}

-- the lines are those of this text, and where the syntax is at fault those of none
abbrev pub Finishes : List Row → Result CertText TextFault → Type 0
Finishes old (Ok text) = old ≡ rows_of (text_of text)
Finishes old (Err faults.Syntax) = (text : Text) → rows_of text ≡ old → ⊥
Finishes old (Err faults.Memory) = Unit {0}

-- the same for a line as text
abbrev pub TakesText : List Row → List ℕ → Result Draft TextFault → Type 0
TakesText old line (Ok draft) = (row : Row) × HasRowTypes row × (line ≡ row_line row) × (written draft ≡ old ++ row ∷ [])
TakesText old line (Err faults.Syntax) =
    (text : Text) (more : List (List ℕ)) → HasTextTypes text → text_lines text ≡ map row_line old ++ line ∷ more → ⊥
TakesText old line (Err faults.Memory) = Unit {0}

-- the same for a line that may be too long or say nothing
abbrev pub TakesLine : List Row → List ℕ → Result Draft TextFault → Type 0
TakesLine old line (Ok draft) =
    (length line ≤ max_line) × (rows : List Row) × All HasRowTypes rows × (told (line ∷ []) ≡ map row_line rows) × (written draft ≡ old ++ rows)
TakesLine old line (Err faults.Syntax) =
    (text : Text) (more : List (List ℕ)) → HasTextTypes text → length line ≤ max_line → text_lines text ≡ map row_line old ++ (told (line ∷ []) ++ more) → ⊥
TakesLine old line (Err faults.Memory) = Unit {0}

-- the parts between line feeds, the last one too where it is empty
abbrev pub lines_of : List ℕ → List (List ℕ)
lines_of bytes = slice_split (λ byte. byte == 10) bytes

-- the lines are a spelling of this text, and where the syntax is at fault of none
abbrev pub ReadsLines : List (List ℕ) → Result CertText TextFault → Type 0
ReadsLines lines (Ok text) = IsText lines (text_of text)
ReadsLines lines (Err faults.Syntax) = (text : Text) → IsText lines text → ⊥
ReadsLines lines (Err faults.Memory) = Unit {0}
