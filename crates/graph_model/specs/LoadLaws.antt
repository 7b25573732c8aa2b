-- What an accepted text makes, and what `load` writes of it.
use Rattle.std.specs.Prelude.{◌≡◌, ℕ, ◌≤◌, List, map, Contains}
use Rattle.graphs.specs.Alikes.{AreAlike}
use Rattle.graphs.specs.Rates.{sums}
use Rattle.graphs.specs.Certificates.{Part, rate_in, Certified}
use Rattle.graphs.specs.Linearizations.{IsOptimal}
use Rattle.graph_model.specs.declared.limits.TheConstants.{MAX_COUNT}
use Rattle.graph_model.specs.Limits.{Bounds, AreInRange}
use Rattle.graph_model.specs.States.{State, rate_of}
use Rattle.graph_model.specs.Oversize.{HasOver}
use Rattle.graph_model.specs.Texts.{Text, Found, Verifies, text_lines}
use Rattle.graph_model.specs.Dumps.{DumpText, IsDump, Loads, FindsLoad, loaded_graph}
use Rattle.graph_model.specs.Replies.{Proves, text_of}
use Rattle.graph_model.specs.Answers.{order_of, ListsCovers}
use Rattle.graph_model.specs.Validity.{IsValidState}
use Rattle.graph_model.specs.Loads.{LoadsTo, LoadWrites}

-- The text proves an optimal order of the graph that a loaded text makes: it has the graph's names along that order, with their fees and sizes,
-- the graph's covering pairs, and the parts of the order with their sums; and it is answered with yes, told by its lines alone.
pub record ProvesLoaded (text : DumpText) (proof : Text) : Type 0 where
  pub txs : proof.txs ≡ map (λ id. (id, (rate_in text.txs id).fee, (rate_in text.txs id).size)) (order_of proof.parts)
  pub edges : ListsCovers (loaded_graph text) (order_of proof.parts) proof.edges
  pub optimal : IsOptimal (rate_in text.txs) (loaded_graph text) (map (λ part. part.ids) proof.parts)
  pub summed : (part : Part) → Contains proof.parts part → part.rate ≡ sums (rate_in text.txs) part.ids
  pub certified : Verifies (text_lines proof) (Found Certified)

-- The state that an accepted text makes is valid, main has the names, the sums and the ancestors of the text, and its dump is the text again.
-- Where no component is over the limits, as none is where no dependency may pass them, `load` writes a text that proves an optimal order of that
-- graph. (That bytes spell one text, of which one thing is found, is part of `DumpsLoad`.)
pub record LoadsProve : Type 0 where
  pub valid : (most : ℕ) (bounds : Bounds) (bytes : List ℕ) (text : DumpText) (state : State) → AreInRange most bounds
      → FindsLoad bounds bytes (Loads text) → LoadsTo most bounds text state → IsValidState state
  pub alike : (most : ℕ) (bounds : Bounds) (bytes : List ℕ) (text : DumpText) (state : State) → FindsLoad bounds bytes (Loads text)
      → LoadsTo most bounds text state → AreAlike (rate_of state.plain.table) state.plain.main (rate_in text.txs) (loaded_graph text)
  pub dumped : (most : ℕ) (bounds : Bounds) (bytes : List ℕ) (text : DumpText) (state : State) → FindsLoad bounds bytes (Loads text)
      → LoadsTo most bounds text state → IsDump state.plain.table state.plain.main text
  pub proves : (most : ℕ) (bounds : Bounds) (bytes written : List ℕ) (text : DumpText) → most ≤ MAX_COUNT → AreInRange most bounds
      → FindsLoad bounds bytes (Loads text) → (HasOver bounds (λ id. (rate_in text.txs id).size) (loaded_graph text) → ⊥)
      → LoadWrites most bounds (Loads text) written → (proof : Text) × (written ≡ text_of (Proves proof)) × ProvesLoaded text proof
