-- What a search for transactions finds.
use Rattle.std.specs.Prelude.{◌≡◌, ℕ, List, length}
use Rattle.std.specs.declared.result.Result.{Result}
use Rattle.graph_model.specs.declared.names.Refusal.{Refusal}
use Rattle.graph_model.specs.Commands.{Command}
use Rattle.graph_model.specs.Replies.{Reply, Ids, names_reply}
use Rattle.reorg.specs.Kept.{Kept, MakesStep}
use Rattle.desk.specs.Copies.{copied}

-- The names of a reply are copied to the front of the caller's array, as many as it has room for, and their number is told. Any other reply leaves
-- both.
abbrev pub ShowsIds : List ℕ → List ℕ → ℕ → ℕ → Reply → Type 0
ShowsIds old new count_old count (Ids ids) = (new ≡ copied ids old) × (count ≡ length ids)
ShowsIds old new count_old count reply = (new ≡ old) × (count ≡ count_old)

-- The search is answered with these names, or refused.
pub record Finds (kept : Kept) (command : Command) (result : Result (Unit {0}) Refusal) (old new : List ℕ) (count_old count : ℕ) : Type 0 where
  pub ids : List ℕ
  pub step : MakesStep kept kept command (names_reply result ids)
  pub shows : ShowsIds old new count_old count (names_reply result ids)
