-- The lines of a certificate text, one by one, and what reading one gives.
use Rattle.std.specs.Prelude.{◌≡◌, ℕ, ℤ, List, [], ◌∷◌, ◌++◌, map, flat_map, codes, decimal, FitsSigned, Result, Ok, Err}
use Rattle.std.specs.Int.{w64}
use Rattle.graphs.specs.Certificates.{Part}
use Rattle.graph_model.specs.Texts.{Text, tx_line, edge_line, chunk_line, flow_line}
use Rattle.wire.specs.declared.texts.fault.TextFault.{TextFault}
use Rattle.wire.specs.declared.texts.fault.TextFault.TheVariants as faults
use Rattle.wire.specs.declared.texts.row.Row.{Row}
use Rattle.wire.specs.declared.texts.row.Row.TheVariants as rows
use Rattle.wire.specs.declared.texts.row.Kind.{Kind}
use Rattle.wire.specs.declared.texts.row.Kind.TheVariants as kinds
use Rattle.wire.specs.Fields.{IsWide, IsAmount, IsBigFee}
use Rattle.wire.specs.Forms.{AreNames}

-- the first word of each line but `end`
abbrev pub kind_word : Kind → List ℕ
kind_word kinds.Tx = codes "tx"
kind_word kinds.Edge = codes "edge"
kind_word kinds.Chunk = codes "chunk"
kind_word kinds.Flow = codes "flow"

-- the one spelling of a line
abbrev pub row_line : Row → List ℕ
row_line (rows.Tx id fee size) = tx_line id fee size
row_line (rows.Edge parent child) = edge_line parent child
row_line (rows.Chunk rate ids) = chunk_line (record { rate = rate; ids = ids; flows = [] })
row_line (rows.Flow flow) = flow_line flow
row_line rows.End = codes "end"

-- a line's numbers are of their types
abbrev pub HasRowTypes : Row → Type 0
HasRowTypes (rows.Tx id fee size) = IsWide id × FitsSigned w64 fee × IsWide size
HasRowTypes (rows.Edge parent child) = IsWide parent × IsWide child
HasRowTypes (rows.Chunk rate ids) = IsBigFee rate.fee × IsWide rate.size × AreNames ids
HasRowTypes (rows.Flow flow) = IsWide flow.child × IsWide flow.parent × IsAmount flow.amount
HasRowTypes rows.End = Unit {0}

abbrev pub tx_row : ℕ × ℤ × ℕ → Row
tx_row tx = rows.Tx tx.0 tx.1 tx.2

abbrev pub edge_row : ℕ × ℕ → Row
edge_row edge = rows.Edge edge.0 edge.1

abbrev pub part_rows : Part → List Row
part_rows part = rows.Chunk part.rate part.ids ∷ map (λ flow. rows.Flow flow) part.flows

-- the lines of a whole text
abbrev pub rows_of : Text → List Row
rows_of text = map tx_row text.txs ++ (map edge_row text.edges ++ (flat_map part_rows text.parts ++ rows.End ∷ []))

-- Reading a text, which takes memory: what is found is spelled so, and it is no value's spelling where the syntax is at fault.
abbrev pub Gives : {V : Type 0} → (V → List ℕ) → (V → Type 0) → List ℕ → Result V TextFault → Type 0
Gives spelling Fits text (Ok value) = Fits value × (text ≡ spelling value)
Gives spelling Fits text (Err faults.Syntax) = (value : _) → Fits value → text ≡ spelling value → ⊥
Gives spelling Fits text (Err faults.Memory) = Unit {0}

-- the name that a word is was added, unless it is none or there was no memory
abbrev pub AddsName : List ℕ → List ℕ → List ℕ → Result (Unit {0}) TextFault → Type 0
AddsName old word new (Ok done) = (id : ℕ) × IsWide id × (word ≡ decimal id) × (new ≡ old ++ id ∷ [])
AddsName old word new (Err faults.Syntax) = (id : ℕ) → IsWide id → word ≡ decimal id → ⊥
AddsName old word new (Err faults.Memory) = Unit {0}
