-- What holds all along a run.
use Rattle.std.specs.Prelude.{◌≡◌, ℕ, ◌≤◌, List, map, Contains}
use Rattle.graphs.specs.declared.names.Level.{Level}
use Rattle.graphs.specs.declared.names.Level.TheVariants.{Main}
use Rattle.graphs.specs.Rates.{sums}
use Rattle.graphs.specs.Certificates.{Part}
use Rattle.graphs.specs.Minimal.{AreMinimal}
use Rattle.graphs.specs.Linearizations.{IsOptimal}
use Rattle.graph_model.specs.Limits.{default_limits}
use Rattle.graph_model.specs.States.{PlainState, State, start, level_of, rate_of}
use Rattle.graph_model.specs.Commands.{Command, Evict, Order, Proof, Chunk, Block}
use Rattle.graph_model.specs.Commands as commands
use Rattle.graph_model.specs.Changes.{IsLast}
use Rattle.graph_model.specs.Blocks.{IsBlock}
use Rattle.graph_model.specs.Replies.{Reply, Parts, Proves, OnePart, Stands, Evicted, Built}
use Rattle.graph_model.specs.Answers.{StandsTo, order_of}
use Rattle.graph_model.specs.Steps.{Step}
use Rattle.graph_model.specs.Validity.{IsValidState}
use Rattle.graph_model.specs.Runs.{Answer, Run}

-- The parts are an optimal order of the level, each part's rate is the total fee and the total size of its names, and no part can be cut
-- further.
pub record AreBest (state : PlainState) (level : Level) (parts : List Part) : Type 0 where
  pub optimal : IsOptimal (rate_of state.table) (level_of state level) (map (λ part. part.ids) parts)
  pub summed : (part : Part) → Contains parts part → part.rate ≡ sums (rate_of state.table) part.ids
  pub minimal : AreMinimal (rate_of state.table) (level_of state level).pairs parts

-- What a reply tells of an order, it tells of an optimal one with the right sums; and the sum of a block is that of the names that it tells.
abbrev pub TellsBest : PlainState → Command → Reply → Type 0
TellsBest state (Order level) (Parts parts) = AreBest state level parts
TellsBest state (Proof level) (Proves text) = AreBest state level text.parts
TellsBest state (Chunk id) (OnePart part) = (parts : List Part) × AreBest state Main parts × Contains parts part × Contains part.ids id
TellsBest state (commands.Before a b) (Stands place) = (parts : List Part) × AreBest state Main parts × StandsTo (order_of parts) a b place
TellsBest state Evict (Evicted sum ids) =
    (parts : List Part) × (part : Part) × AreBest state Main parts × IsLast parts part × (ids ≡ part.ids) × (sum ≡ sums (rate_of state.table) ids)
TellsBest state (Block size) (Built sum ids) =
    (parts taken : List Part) × AreBest state Main parts × IsBlock state.main parts size taken × (ids ≡ order_of taken)
    × (sum ≡ sums (rate_of state.table) ids)
TellsBest state command reply = Unit {0}

-- Each state that a run leads to is valid, and so is each on its way, since a front of a run is a run; and a cluster may be allowed as many
-- names there as at the start. From a valid state, and so all along a run, whatever a reply tells of an order it tells of an order that is
-- optimal for the graph of that state, and the rate that it tells of names is the sum of their fees and sizes in that state.
pub record RunsAreSound : Type 0 where
  pub valid : (most : ℕ) (lines : List (List ℕ)) (answers : List Answer) (end : State) → default_limits.count ≤ most
      → Run (start most) lines answers end → IsValidState end
  pub most : (most : ℕ) (lines : List (List ℕ)) (answers : List Answer) (end : State) → Run (start most) lines answers end → end.plain.most ≡ most
  pub best : (old new : State) (command : Command) (reply : Reply) → IsValidState old → Step old command reply new → TellsBest old.plain command reply
