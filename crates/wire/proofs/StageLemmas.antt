-- The order of lines in certificate texts, as stages that each line leads on from or not.
use Rattle.std.proofs.Common.{◌≡◌, ℕ, ℤ, List, [], ◌∷◌, ◌++◌, refl, sym, ap, ◌∙◌, map, Option, None, Some, append_assoc, append-nil, ◌⊎◌, inl, inr}
use Rattle.std.proofs.lemmas.Grind.{flat_map-append}
use Rattle.std.proofs.lemmas.List.{map-append}
use Rattle.std.specs.Prelude.{flat_map}
use Rattle.graphs.specs.declared.names.Flow.{Flow}
use Rattle.graphs.specs.Certificates.{Part, Txs}
use Rattle.graph_model.specs.Texts.{Text}
use Rattle.wire.specs.declared.texts.row.Row.{Row}
use Rattle.wire.specs.declared.texts.row.Row.TheVariants as rows
use Rattle.wire.specs.Rows.{tx_row, edge_row, part_rows, rows_of}

abbrev Edges : Type 0
Edges = List (ℕ × ℕ)

-- how far a text has come
pub data Stage : Type 0 where
  AtGraph : (txs : Txs) (edges : Edges) → Stage
  AtParts : (txs : Txs) (edges : Edges) (parts : List Part) (last : Part) → Stage
  AtEnd : (text : Text) → Stage

-- the lines up to there
abbrev pub rows_at : Stage → List Row
rows_at (AtGraph txs edges) = map tx_row txs ++ map edge_row edges
rows_at (AtParts txs edges parts last) = map tx_row txs ++ (map edge_row edges ++ (flat_map part_rows parts ++ part_rows last))
rows_at (AtEnd text) = rows_of text

abbrev pub with_flow : Part → Flow → Part
with_flow part flow = record { rate = part.rate; ids = part.ids; flows = part.flows ++ flow ∷ [] }

abbrev pub put_tx : Txs → Edges → ℕ × ℤ × ℕ → Option Stage
put_tx txs [] tx = Some (AtGraph (txs ++ tx ∷ []) [])
put_tx txs (edge ∷ edges) tx = None

-- where a line leads
abbrev pub put : Stage → Row → Option Stage
put (AtGraph txs edges) (rows.Tx id fee size) = put_tx txs edges (id, fee, size)
put (AtGraph txs edges) (rows.Edge parent child) = Some (AtGraph txs (edges ++ (parent, child) ∷ []))
put (AtGraph txs edges) (rows.Chunk rate ids) = Some (AtParts txs edges [] (record { rate = rate; ids = ids; flows = [] }))
put (AtGraph txs edges) (rows.Flow flow) = None
put (AtGraph txs edges) rows.End = Some (AtEnd (record { txs = txs; edges = edges; parts = [] }))
put (AtParts txs edges parts last) (rows.Tx id fee size) = None
put (AtParts txs edges parts last) (rows.Edge parent child) = None
put (AtParts txs edges parts last) (rows.Chunk rate ids) = Some (AtParts txs edges (parts ++ last ∷ []) (record { rate = rate; ids = ids; flows = [] }))
put (AtParts txs edges parts last) (rows.Flow flow) = Some (AtParts txs edges parts (with_flow last flow))
put (AtParts txs edges parts last) rows.End = Some (AtEnd (record { txs = txs; edges = edges; parts = parts ++ last ∷ [] }))
put (AtEnd text) row = None

abbrev then_put : Option Stage → (Stage → Option Stage) → Option Stage
then_put None more = None
then_put (Some stage) more = more stage

-- where lines lead
abbrev run : List Row → Stage → Option Stage
run [] stage = Some stage
run (row ∷ more) stage = then_put (put stage row) (λ next. run more next)

run_append : (xs ys : List Row) (stage next : Stage) → run xs stage ≡ Some next → run (xs ++ ys) stage ≡ run ys next
run_append [] ys stage next is = let e : stage ≡ next = cc in ap (run ys) e
run_append (x ∷ xs) ys stage next is =
    elim (put stage x) as (λ o. then_put o (λ s. run xs s) ≡ Some next → then_put o (λ s. run (xs ++ ys) s) ≡ run ys next) [
      | None ↦ λ e. absurd (let f : None ≡ Some next = e in cc)
      | Some s ↦ λ e. run_append xs ys s next e
    ] is

run_txs : (xs ys : Txs) (rest : List Row) → run (map tx_row ys ++ rest) (AtGraph xs []) ≡ run rest (AtGraph (xs ++ ys) [])
run_txs xs [] rest = ap (λ (zs : Txs). run rest (AtGraph zs [])) (sym (append-nil xs))
run_txs xs (y ∷ ys) rest = run_txs (xs ++ y ∷ []) ys rest ∙ ap (λ (zs : Txs). run rest (AtGraph zs [])) (append_assoc xs (y ∷ []) ys)

run_edges : (txs : Txs) (xs ys : Edges) (rest : List Row) → run (map edge_row ys ++ rest) (AtGraph txs xs) ≡ run rest (AtGraph txs (xs ++ ys))
run_edges txs xs [] rest = ap (λ (zs : Edges). run rest (AtGraph txs zs)) (sym (append-nil xs))
run_edges txs xs (y ∷ ys) rest = run_edges txs (xs ++ y ∷ []) ys rest ∙ ap (λ (zs : Edges). run rest (AtGraph txs zs)) (append_assoc xs (y ∷ []) ys)

run_graph : (txs : Txs) (edges : Edges) (rest : List Row) → run (map tx_row txs ++ (map edge_row edges ++ rest)) (AtGraph [] []) ≡ run rest (AtGraph txs edges)
run_graph txs edges rest = run_txs [] txs (map edge_row edges ++ rest) ∙ run_edges txs [] edges rest

abbrev with_flows : Part → List Flow → Part
with_flows part flows = record { rate = part.rate; ids = part.ids; flows = part.flows ++ flows }

run_flows : (txs : Txs) (edges : Edges) (parts : List Part) (last : Part) (flows : List Flow) (rest : List Row)
    → run (map (λ flow. rows.Flow flow) flows ++ rest) (AtParts txs edges parts last) ≡ run rest (AtParts txs edges parts (with_flows last flows))
run_flows txs edges parts last [] rest =
    ap (λ (zs : List Flow). run rest (AtParts txs edges parts (record { rate = last.rate; ids = last.ids; flows = zs }))) (sym (append-nil last.flows))
run_flows txs edges parts last (flow ∷ flows) rest =
    run_flows txs edges parts (with_flow last flow) flows rest
    ∙ ap (λ (zs : List Flow). run rest (AtParts txs edges parts (record { rate = last.rate; ids = last.ids; flows = zs })))
    (append_assoc last.flows (flow ∷ []) flows)

-- a part after transactions and edges, and after another part
run_first : (txs : Txs) (edges : Edges) (part : Part) (rest : List Row)
    → run (part_rows part ++ rest) (AtGraph txs edges) ≡ run rest (AtParts txs edges [] part)
run_first txs edges part rest = run_flows txs edges [] (record { rate = part.rate; ids = part.ids; flows = [] }) part.flows rest

run_next : (txs : Txs) (edges : Edges) (parts : List Part) (last part : Part) (rest : List Row)
    → run (part_rows part ++ rest) (AtParts txs edges parts last) ≡ run rest (AtParts txs edges (parts ++ last ∷ []) part)
run_next txs edges parts last part rest = run_flows txs edges (parts ++ last ∷ []) (record { rate = part.rate; ids = part.ids; flows = [] }) part.flows rest

run_to_end : (txs : Txs) (edges : Edges) (parts : List Part) (last : Part) (more : List Part)
    → run (flat_map part_rows more ++ rows.End ∷ []) (AtParts txs edges parts last)
    ≡ Some (AtEnd (record { txs = txs; edges = edges; parts = parts ++ last ∷ more }))
run_to_end txs edges parts last [] = refl
run_to_end txs edges parts last (part ∷ more) =
    ap (λ (xs : List Row). run xs (AtParts txs edges parts last)) (append_assoc (part_rows part) (flat_map part_rows more) (rows.End ∷ []))
    ∙ run_next txs edges parts last part (flat_map part_rows more ++ rows.End ∷ []) ∙ run_to_end txs edges (parts ++ last ∷ []) part more
    ∙ ap (λ (zs : List Part). Some (AtEnd (record { txs = txs; edges = edges; parts = zs }))) (append_assoc parts (last ∷ []) (part ∷ more))

run_to_part : (txs : Txs) (edges : Edges) (parts : List Part) (last : Part) (more : List Part) (part : Part)
    → run (flat_map part_rows more ++ part_rows part) (AtParts txs edges parts last) ≡ Some (AtParts txs edges (parts ++ last ∷ more) part)
run_to_part txs edges parts last [] part =
    ap (λ (xs : List Row). run xs (AtParts txs edges parts last)) (sym (append-nil (part_rows part))) ∙ run_next txs edges parts last part []
run_to_part txs edges parts last (next ∷ more) part =
    ap (λ (xs : List Row). run xs (AtParts txs edges parts last)) (append_assoc (part_rows next) (flat_map part_rows more) (part_rows part))
    ∙ run_next txs edges parts last next (flat_map part_rows more ++ part_rows part) ∙ run_to_part txs edges (parts ++ last ∷ []) next more part
    ∙ ap (λ (zs : List Part). Some (AtParts txs edges zs part)) (append_assoc parts (last ∷ []) (next ∷ more))

run_parts : (txs : Txs) (edges : Edges) (parts : List Part)
    → run (flat_map part_rows parts ++ rows.End ∷ []) (AtGraph txs edges) ≡ Some (AtEnd (record { txs = txs; edges = edges; parts = parts }))
run_parts txs edges [] = refl
run_parts txs edges (part ∷ more) =
    ap (λ (xs : List Row). run xs (AtGraph txs edges)) (append_assoc (part_rows part) (flat_map part_rows more) (rows.End ∷ []))
    ∙ run_first txs edges part (flat_map part_rows more ++ rows.End ∷ []) ∙ run_to_end txs edges [] part more

run_open : (txs : Txs) (edges : Edges) (parts : List Part) (last : Part)
    → run (flat_map part_rows parts ++ part_rows last) (AtGraph txs edges) ≡ Some (AtParts txs edges parts last)
run_open txs edges [] last =
    ap (λ (xs : List Row). run xs (AtGraph txs edges)) (sym (append-nil (part_rows last))) ∙ run_first txs edges last []
run_open txs edges (part ∷ more) last =
    ap (λ (xs : List Row). run xs (AtGraph txs edges)) (append_assoc (part_rows part) (flat_map part_rows more) (part_rows last))
    ∙ run_first txs edges part (flat_map part_rows more ++ part_rows last) ∙ run_to_part txs edges [] part more last

-- the lines up to a stage lead to it
run_rows : (stage : Stage) → run (rows_at stage) (AtGraph [] []) ≡ Some stage
run_rows (AtGraph txs edges) =
    ap (λ (xs : List Row). run (map tx_row txs ++ xs) (AtGraph [] [])) (sym (append-nil (map edge_row edges))) ∙ run_graph txs edges []
run_rows (AtParts txs edges parts last) = run_graph txs edges (flat_map part_rows parts ++ part_rows last) ∙ run_open txs edges parts last
run_rows (AtEnd text) = run_graph text.txs text.edges (flat_map part_rows text.parts ++ rows.End ∷ []) ∙ run_parts text.txs text.edges text.parts

-- one list of lines leads to one stage
pub stage_same : (a b : Stage) → rows_at a ≡ rows_at b → a ≡ b
stage_same a b is = let e : Some a ≡ Some b = sym (run_rows a) ∙ ap (λ (xs : List Row). run xs (AtGraph [] [])) is ∙ run_rows b in cc

-- where a line leads nowhere, no text goes on with it
pub put_refuses : (stage : Stage) (row : Row) → put stage row ≡ None → (text : Text) (more : List Row) → rows_of text ≡ rows_at stage ++ row ∷ more → ⊥
put_refuses stage row none text more is =
    let gone : run (row ∷ more) stage ≡ None = ap (λ (o : Option Stage). then_put o (λ next. run more next)) none in
    let e : Some (AtEnd text) ≡ None =
    sym (run_rows (AtEnd text)) ∙ ap (λ (xs : List Row). run xs (AtGraph [] [])) is
    ∙ run_append (rows_at stage) (row ∷ more) (AtGraph [] []) stage (run_rows stage) ∙ gone in
    cc

-- a transaction after edges leads nowhere
pub tx_after_edges : (txs : Txs) (edges : Edges) (tx : ℕ × ℤ × ℕ) → (edges ≡ [] → ⊥) → put_tx txs edges tx ≡ None
tx_after_edges txs [] tx some = absurd (some refl)
tx_after_edges txs (edge ∷ edges) tx some = refl

-- after a chunk a line of the graph leads nowhere
pub part_refuses : (txs : Txs) (edges : Edges) (parts : List Part) (last : Part) (row : Row)
    → ((id : ℕ) × (fee : ℤ) × (size : ℕ) × (row ≡ rows.Tx id fee size)) ⊎ ((parent : ℕ) × (child : ℕ) × (row ≡ rows.Edge parent child))
    → put (AtParts txs edges parts last) row ≡ None
part_refuses txs edges parts last row (inl tx) = ap (put (AtParts txs edges parts last)) tx.3
part_refuses txs edges parts last row (inr edge) = ap (put (AtParts txs edges parts last)) edge.2

spread : (a b c d : List Row) → a ++ (b ++ (c ++ d)) ≡ (a ++ (b ++ c)) ++ d
spread a b c d = ap (λ (xs : List Row). a ++ xs) (sym (append_assoc b c d)) ∙ sym (append_assoc a (b ++ c) d)

-- the lines with one more: behind the last part, and of it
pub next_rows : (txs : Txs) (edges : Edges) (parts more : List Part) (last : Part) (old row : Row) → more ≡ parts ++ last ∷ [] → old ≡ row
    → map tx_row txs ++ (map edge_row edges ++ (flat_map part_rows more ++ row ∷ [])) ≡ rows_at (AtParts txs edges parts last) ++ old ∷ []
next_rows txs edges parts more last old row one same =
    let rest : flat_map part_rows (parts ++ last ∷ []) ≡ flat_map part_rows parts ++ part_rows last =
    flat_map-append part_rows parts (last ∷ []) ∙ ap (λ (xs : List Row). flat_map part_rows parts ++ xs) (append-nil (part_rows last)) in
    ap (λ (xs : List Row). map tx_row txs ++ (map edge_row edges ++ (xs ++ row ∷ []))) (ap (flat_map part_rows) one ∙ rest)
    ∙ spread (map tx_row txs) (map edge_row edges) (flat_map part_rows parts ++ part_rows last) (row ∷ [])
    ∙ ap (λ (r : Row). rows_at (AtParts txs edges parts last) ++ r ∷ []) (sym same)

pub flow_rows : (txs : Txs) (edges : Edges) (parts : List Part) (last more : Part) (flow : Flow) (old : Row) → more ≡ with_flow last flow → old ≡ rows.Flow flow
    → rows_at (AtParts txs edges parts more) ≡ rows_at (AtParts txs edges parts last) ++ old ∷ []
flow_rows txs edges parts last more flow old one same =
    let ahead = flat_map part_rows parts in
    ap (λ (part : Part). rows_at (AtParts txs edges parts part)) one
    ∙ ap (λ (xs : List Row). map tx_row txs ++ (map edge_row edges ++ (ahead ++ rows.Chunk last.rate last.ids ∷ xs)))
    (map-append (λ (f : Flow). rows.Flow f) last.flows (flow ∷ []))
    ∙ ap (λ (xs : List Row). map tx_row txs ++ (map edge_row edges ++ xs)) (sym (append_assoc ahead (part_rows last) (rows.Flow flow ∷ [])))
    ∙ spread (map tx_row txs) (map edge_row edges) (ahead ++ part_rows last) (rows.Flow flow ∷ [])
    ∙ ap (λ (r : Row). rows_at (AtParts txs edges parts last) ++ r ∷ []) (sym same)
