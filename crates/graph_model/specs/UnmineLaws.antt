-- A block that is taken back directly after it was mined.
use Rattle.std.specs.Prelude.{◌≡◌, ◌⊎◌, ℕ, List}
use Rattle.graphs.specs.Alikes.{AreAlike}
use Rattle.graph_model.specs.declared.names.Refusal.TheVariants.{Memory}
use Rattle.graph_model.specs.States.{State, rate_of}
use Rattle.graph_model.specs.Commands.{HasTypes, Mine, Unmine}
use Rattle.graph_model.specs.Replies.{Reply, Done, Refused, Unmined}
use Rattle.graph_model.specs.Steps.{Step}
use Rattle.graph_model.specs.Validity.{IsValidState}

-- Directly after an accepted `mine`, `unmine` is answered with the listed names, or that there was no memory; and where it is accepted main
-- has the names, the sums and the ancestors that it had before.
pub record MinedComesBack : Type 0 where
  pub answered : (old mid new : State) (ids : List ℕ) (reply : Reply) → IsValidState old → HasTypes (Mine ids) → Step old (Mine ids) Done mid
      → Step mid Unmine reply new → (reply ≡ Unmined ids) ⊎ (reply ≡ Refused Memory)
  pub restored : (old mid new : State) (ids back : List ℕ) → IsValidState old → HasTypes (Mine ids) → Step old (Mine ids) Done mid
      → Step mid Unmine (Unmined back) new → AreAlike (rate_of old.plain.table) old.plain.main (rate_of new.plain.table) new.plain.main
