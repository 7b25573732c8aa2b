-- Certificate texts, and what is said of one.
use Rattle.std.specs.Prelude.{◌≡◌, ◌≢◌, ℕ, ℤ, ◌^◌, ◌<◌, ◌≤◌, not, unsigned_abs, FitsSigned, List, [], ◌∷◌, ◌++◌, map, filter, flat_map, length, codes, decimal, All}
use Rattle.std.specs.Fmt.{signed_decimal}
use Rattle.std.specs.Int.{w64}
use Rattle.graphs.specs.declared.names.Flow.{Flow}
use Rattle.graph_model.specs.Words.{spaced, line_text}
use Rattle.graph_model.specs.Lines.{max_line, without_return, is_quiet}
use Rattle.graphs.specs.Certificates.{Part, Txs, Finding, Certified, NoGraph, NoOrder, NoFalling, NoFlow, Finds}

-- transactions, edges (parent, child), and parts with flows
pub record Text : Type 0 where
  pub txs : Txs
  pub edges : List (ℕ × ℕ)
  pub parts : List Part

abbrev pub tx_line : ℕ → ℤ → ℕ → List ℕ
tx_line id fee size = spaced (codes "tx" ∷ decimal id ∷ signed_decimal fee ∷ decimal size ∷ [])

abbrev pub edge_line : ℕ → ℕ → List ℕ
edge_line parent child = spaced (codes "edge" ∷ decimal parent ∷ decimal child ∷ [])

abbrev pub flow_line : Flow → List ℕ
flow_line flow = spaced (codes "flow" ∷ decimal flow.child ∷ decimal flow.parent ∷ decimal flow.amount ∷ [])

abbrev pub chunk_line : Part → List ℕ
chunk_line part = spaced (codes "chunk" ∷ signed_decimal part.rate.fee ∷ decimal part.rate.size ∷ map decimal part.ids)

-- a part is its `chunk` line and then its `flow` lines
abbrev pub part_lines : Part → List (List ℕ)
part_lines part = chunk_line part ∷ map flow_line part.flows

-- the lines of a text: transactions, edges, parts, and `end`
abbrev pub text_lines : Text → List (List ℕ)
text_lines text =
    map (λ tx. tx_line tx.0 tx.1 tx.2) text.txs ++ map (λ edge. edge_line edge.0 edge.1) text.edges ++ flat_map part_lines text.parts ++ codes "end" ∷ []

-- a part has names, and its fee and its amounts are at most 10^30 either way
pub record HasPartTypes (part : Part) : Type 0 where
  pub fee : unsigned_abs part.rate.fee ≤ 10 ^ 30
  pub size : part.rate.size < 2 ^ 64
  pub filled : part.ids ≢ []
  pub ids : All (λ id. id < 2 ^ 64) part.ids
  pub ends : All (λ flow. (flow.child < 2 ^ 64) × (flow.parent < 2 ^ 64)) part.flows
  pub amounts : All (λ flow. (1 ≤ flow.amount) × (flow.amount ≤ 10 ^ 30)) part.flows

-- a text's numbers are of their types
pub record HasTextTypes (text : Text) : Type 0 where
  pub txs : All (λ tx. (tx.0 < 2 ^ 64) × FitsSigned w64 tx.1 × (tx.2 < 2 ^ 64)) text.txs
  pub edges : All (λ edge. (edge.0 < 2 ^ 64) × (edge.1 < 2 ^ 64)) text.edges
  pub parts : All HasPartTypes text.parts

-- the lines that say something: without carriage returns at their ends, empty lines and comments passed over
abbrev pub told : List (List ℕ) → List (List ℕ)
told lines = filter (λ line. not (is_quiet line)) (map without_return lines)

-- the lines, none too long, are a spelling of the text
pub record IsText (lines : List (List ℕ)) (text : Text) : Type 0 where
  pub short : All (λ line. length line ≤ max_line) lines
  pub spelled : told lines ≡ text_lines text
  pub types : HasTextTypes text

-- what is said of lines: that they are no text, or what is found of the text
pub data Verification : Type 0 where
  NoSyntax : Verification
  Found : (finding : Finding) → Verification

abbrev pub Verifies : List (List ℕ) → Verification → Type 0
Verifies lines NoSyntax = (text : Text) → IsText lines text → ⊥
Verifies lines (Found finding) = (text : Text) × IsText lines text × Finds text.txs text.edges text.parts finding

abbrev pub words_of_verification : Verification → List (List ℕ)
words_of_verification NoSyntax = codes "no" ∷ codes "syntax" ∷ []
words_of_verification (Found Certified) = codes "yes" ∷ []
words_of_verification (Found NoGraph) = codes "no" ∷ codes "graph" ∷ []
words_of_verification (Found NoOrder) = codes "no" ∷ codes "order" ∷ []
words_of_verification (Found NoFalling) = codes "no" ∷ codes "falling" ∷ []
words_of_verification (Found NoFlow) = codes "no" ∷ codes "flow" ∷ []

abbrev pub verification_text : Verification → List ℕ
verification_text said = line_text (spaced (words_of_verification said))
