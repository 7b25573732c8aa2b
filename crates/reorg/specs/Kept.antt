-- What is kept of a graph and of the blocks that were mined from it, and which states that stands for.
use Rattle.std.specs.Prelude.{ℕ, ℤ, List, refl}
use Rattle.std.specs.Coded.{Coded, code_by, coded×, coded_ℕ, coded_ℤ, coded_list}
use Rattle.graphs.specs.Certificates.{Txs}
use Rattle.graph_model.specs.Commands.{Command}
use Rattle.graph_model.specs.Replies.{Reply}
use Rattle.graph_model.specs.SameLaws.{AreSameBlocks}
use Rattle.graph_model.specs.States.{MinedBlock, State}
use Rattle.graph_model.specs.Steps.{Step}
use Rattle.tx_graph.specs.Kept as graphs

-- What a graph keeps, and the mined blocks that can be taken back, the latest first.
pub record Kept : Type 0 where
  pub graph : graphs.Kept
  pub blocks : List MinedBlock

abbrev pub tx_code : Coded (ℕ × ℤ × ℕ)
tx_code = code_by (ℕ × (ℤ × ℕ)) (coded× coded_ℕ (coded× coded_ℤ coded_ℕ)) (λ t. (t.0, (t.1, t.2))) (λ p. (p.0, p.1.0, p.1.1)) (λ _. refl)

abbrev pub block_code : Coded MinedBlock
block_code =
    code_by (Txs × List (ℕ × ℕ)) (coded× (coded_list tx_code) (coded_list (coded× coded_ℕ coded_ℕ))) (λ b. (b.txs, b.pairs))
    (λ p. record { txs = p.0; pairs = p.1 }) (λ _. refl)

abbrev pub kept_code : Coded Kept
kept_code =
    code_by (graphs.Kept × List MinedBlock) (coded× graphs.kept_code (coded_list block_code)) (λ k. (k.graph, k.blocks))
    (λ p. record { graph = p.0; blocks = p.1 }) (λ _. refl)

-- They stand for each state that the graph stands for, with these blocks. Of a block's pairs membership alone is said.
pub record StandsFor (kept : Kept) (state : State) : Type 0 where
  pub graph : graphs.StandsFor kept.graph state
  pub blocks : AreSameBlocks kept.blocks state.plain.blocks

-- From every state that they stood for before, the command may get this reply and leads to a state that they stand for after.
abbrev pub MakesStep : Kept → Kept → Command → Reply → Type 0
MakesStep old new command reply =
    (state : State) → StandsFor old state → (next : State) × StandsFor new next × Step state command reply next
