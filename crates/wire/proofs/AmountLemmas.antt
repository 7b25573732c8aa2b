-- A text of few bytes has few flows, so its amounts are bounded together.
use Rattle.std.proofs.Common.{◌≡◌, ℕ, suc, ◌+◌, ◌*◌, ◌^◌, ◌<◌, ◌≤◌, List, [], ◌∷◌, ◌++◌, refl, sym, ap, ◌∙◌, arith, map, length, true, false, not, cond, nat_eq, decimal}
use Rattle.std.specs.Prelude.{flat_map, All, sum_by}
use Rattle.std.specs.List.{onto_first}
use Rattle.std.proofs.lemmas.List.Elements.{All-head, All-tail}
use Rattle.std.proofs.lemmas.List.Sums.{sum_by-cons}
use Rattle.graphs.specs.declared.names.Flow.{Flow}
use Rattle.graphs.specs.Certificates.{Part, Txs}
use Rattle.graph_model.specs.Words.{spaced}
use Rattle.graph_model.specs.Lines.{without_return, is_quiet, max_input}
use Rattle.graph_model.specs.Texts.{Text, IsText, told}
use Rattle.wire.specs.declared.texts.row.Row.{Row}
use Rattle.wire.specs.declared.texts.row.Row.TheVariants as rows
use Rattle.wire.specs.Rows.{row_line, HasRowTypes, tx_row, edge_row, part_rows, rows_of}
use Rattle.wire.specs.Drafts.{amount_of, lines_of}
use Rattle.wire.proofs.ReadLemmas.{without_return_le}
use Rattle.wire.proofs.TextLemmas.{rows_text, rows_typed}

-- the bytes of lines
abbrev total : List (List ℕ) → ℕ
total [] = 0
total (line ∷ lines) = length line + total lines

total_onto : (byte : ℕ) (lines : List (List ℕ)) → total (onto_first byte lines) ≤ suc (total lines)
total_onto byte [] = omega arith
total_onto byte (line ∷ lines) = omega arith

total_lines : (bytes : List ℕ) → total (lines_of bytes) ≤ length bytes
total_lines [] = omega arith
total_lines (byte ∷ bytes) =
    elim (nat_eq byte 10) as (λ b. total (cond b ([] ∷ lines_of bytes) (onto_first byte (lines_of bytes))) ≤ suc (length bytes)) [
      | true ↦ omega (arith, total_lines bytes)
      | false ↦ omega (arith, total_lines bytes, total_onto byte (lines_of bytes))
    ]

total_told : (lines : List (List ℕ)) → total (told lines) ≤ total lines
total_told [] = omega arith
total_told (line ∷ lines) =
    elim (not (is_quiet (without_return line))) as (λ b. total (cond b (without_return line ∷ told lines) (told lines)) ≤ length line + total lines) [
      | true ↦ omega (arith, total_told lines, without_return_le line)
      | false ↦ omega (arith, total_told lines)
    ]

abbrev row_amount : Row → ℕ
row_amount (rows.Flow flow) = flow.amount
row_amount _ = 0

abbrev amounts : List Row → ℕ
amounts [] = 0
amounts (row ∷ more) = row_amount row + amounts more

-- a flow's line has more than five bytes
five_more : (amount bytes : ℕ) → amount ≤ 10 ^ 30 → 5 * amount ≤ 10 ^ 30 * (5 + bytes)
five_more amount bytes small = omega (arith, small)

row_bound : (row : Row) → HasRowTypes row → 5 * row_amount row ≤ 10 ^ 30 * length (row_line row)
row_bound (rows.Flow flow) fits =
    omega (arith, five_more flow.amount (length (spaced (decimal flow.child ∷ decimal flow.parent ∷ decimal flow.amount ∷ []))) fits.2.1)
row_bound (rows.Tx id fee size) fits = omega arith
row_bound (rows.Edge parent child) fits = omega arith
row_bound (rows.Chunk rate ids) fits = omega arith
row_bound rows.End fits = omega arith

rows_bound : (all : List Row) → All HasRowTypes all → 5 * amounts all ≤ 10 ^ 30 * total (map row_line all)
rows_bound [] fits = omega arith
rows_bound (row ∷ more) fits = omega (arith, row_bound row (All-head HasRowTypes row more fits), rows_bound more (All-tail HasRowTypes row more fits))

amounts_append : (xs ys : List Row) → amounts (xs ++ ys) ≡ amounts xs + amounts ys
amounts_append [] ys = omega arith
amounts_append (x ∷ xs) ys = omega (arith, amounts_append xs ys)

amounts_txs : (txs : Txs) → amounts (map tx_row txs) ≡ 0
amounts_txs [] = refl
amounts_txs (tx ∷ txs) = omega (arith, amounts_txs txs)

amounts_edges : (edges : List (ℕ × ℕ)) → amounts (map edge_row edges) ≡ 0
amounts_edges [] = refl
amounts_edges (edge ∷ edges) = omega (arith, amounts_edges edges)

amounts_flows : (flows : List Flow) → amounts (map (λ flow. rows.Flow flow) flows) ≡ sum_by (λ flow. flow.amount) flows
amounts_flows [] = refl
amounts_flows (flow ∷ flows) = ap (λ n. flow.amount + n) (amounts_flows flows) ∙ sym (sum_by-cons (λ (f : Flow). f.amount) flow flows)

abbrev part_amount : Part → ℕ
part_amount part = sum_by (λ flow. flow.amount) part.flows

amounts_parts : (parts : List Part) → amounts (flat_map part_rows parts) ≡ sum_by part_amount parts
amounts_parts [] = refl
amounts_parts (part ∷ parts) =
    omega (arith, amounts_append (part_rows part) (flat_map part_rows parts), amounts_flows part.flows, amounts_parts parts, sum_by-cons part_amount part parts)

amounts_of : (text : Text) → amounts (rows_of text) ≡ amount_of text
amounts_of text =
    let parts = flat_map part_rows text.parts in
    omega (
      arith,
      amounts_append (map tx_row text.txs) (map edge_row text.edges ++ (parts ++ rows.End ∷ [])),
      amounts_append (map edge_row text.edges) (parts ++ rows.End ∷ []),
      amounts_append parts (rows.End ∷ []),
      amounts_txs text.txs,
      amounts_edges text.edges,
      amounts_parts text.parts,
    )

pub few_amounts : (bytes : List ℕ) (text : Text) → IsText (lines_of bytes) text → length bytes ≤ max_input → amount_of text < 2 ^ 127
few_amounts bytes text is small =
    let same : total (told (lines_of bytes)) ≡ total (map row_line (rows_of text)) = ap total (is.spelled ∙ rows_text text) in
    omega (arith, same, total_told (lines_of bytes), total_lines bytes, rows_bound (rows_of text) (rows_typed text is.types), amounts_of text)
