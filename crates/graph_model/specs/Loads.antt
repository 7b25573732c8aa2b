-- What `load` makes of bytes, and what it writes.
use Rattle.std.specs.Prelude.{◌≡◌, ℕ, List, [], ◌∷◌, codes}
use Rattle.graphs.specs.declared.names.Level.TheVariants.{Main}
use Rattle.graph_model.specs.Limits.{Bounds}
use Rattle.graph_model.specs.States.{State, plain_start}
use Rattle.graph_model.specs.Words.{spaced, line_text}
use Rattle.graph_model.specs.Commands.{Proof}
use Rattle.graph_model.specs.Changes.{Restores}
use Rattle.graph_model.specs.Validity.{ArePicks}
use Rattle.graph_model.specs.Dumps.{DumpText, LoadFinding, Loads, NoSyntax, NoGraph, NoLimits, FindsLoad}
use Rattle.graph_model.specs.Replies.{Reply, text_of}
use Rattle.graph_model.specs.Steps.{Step}

-- The state that a text makes under some limits: its names, fees, sizes and edges come into a main graph that held nothing. A changing
-- command counts as accepted, no staging is open, and no block was mined.
pub record LoadsTo (most : ℕ) (bounds : Bounds) (text : DumpText) (state : State) : Type 0 where
  pub plain : Restores (record (plain_start most) { limits = bounds }) text.txs text.edges state.plain
  pub picks : ArePicks state.plain state.picks

-- what `load` writes of a finding: the text that proves main's order, or the word of the test that failed
abbrev pub LoadWrites : ℕ → Bounds → LoadFinding → List ℕ → Type 0
LoadWrites most bounds (Loads text) bytes =
    (state : State) × (reply : Reply) × LoadsTo most bounds text state × Step state (Proof Main) reply state × (bytes ≡ text_of reply)
LoadWrites most bounds NoSyntax bytes = bytes ≡ line_text (spaced (codes "no" ∷ codes "syntax" ∷ []))
LoadWrites most bounds NoGraph bytes = bytes ≡ line_text (spaced (codes "no" ∷ codes "graph" ∷ []))
LoadWrites most bounds NoLimits bytes = bytes ≡ line_text (spaced (codes "no" ∷ codes "limits" ∷ []))

-- the bytes that are loaded, under these limits, may be answered with these
abbrev pub MayLoad : ℕ → Bounds → List ℕ → List ℕ → Type 0
MayLoad most bounds bytes written = (finding : LoadFinding) × FindsLoad bounds bytes finding × LoadWrites most bounds finding written
