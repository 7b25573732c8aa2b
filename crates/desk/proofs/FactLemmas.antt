-- What a graph tells of its sizes, and what mining would be refused for.
use Rattle.std.proofs.Common.{◌≡◌, ◌≤◌, ℕ, List, Option, None, Some, Ok, Err, true, sym, subst}
use Rattle.std.specs.Prelude.{Contains, MatchResult}
use Rattle.std.specs.declared.result.Result.{Result}
use Rattle.graphs.specs.Certificates.{Part}
use Rattle.graphs.specs.Closures.{is_member, rate_of}
use Rattle.graphs.specs.declared.names.Level.TheVariants.{Main}
use Rattle.graph_model.specs.declared.names.Refusal.{Refusal}
use Rattle.graph_model.specs.Commands.{Mine}
use Rattle.graph_model.specs.Replies.{change_reply}
use Rattle.graph_model.specs.States.{Entry, MinedBlock, State, size_in}
use Rattle.levels.specs.Levels.{IsWithin}
use Rattle.tx_graph.specs.Kept as graphs
use Rattle.tx_graph.specs.Restored as restored
use Rattle.reorg.specs.Kept.{Kept}
use Rattle.desk.specs.declared.desk.Desk.{Desk}
use Rattle.desk.specs.Facts.{AreNoSmaller, Judges, Meets}
use Rattle.desk.specs.Numbers.{code_of, kept_of}
use Rattle.desk.proofs.PoolLemmas.{pool_of}

-- a size that no name of main is below
pub none_smaller : (kept : graphs.Kept) (size : ℕ)
    → ((id : ℕ) → is_member kept.levels.main.graph id ≡ true → size ≤ (rate_of kept.levels.main.graph id).size)
    → (IsWithin kept.levels Main → (part : Part) → Contains kept.levels.main.parts part → size ≤ part.rate.size)
    → (state : State) → graphs.StandsFor kept state → AreNoSmaller state size
none_smaller kept size names parts state stands = record {
  names = λ id there.
      let member : is_member kept.levels.main.graph id ≡ true = (stands.plain.main.closure.names id).0 there in
      subst (λ (found : Option Entry). size ≤ size_in found) (sym (stands.plain.table.names Main id member)) (names id member);
  parts = λ pick part is there.
      let picked = subst (graphs.IsPickOf kept.levels.limits kept.levels.main) is stands.picks.main in
      parts picked.0 part (subst (λ (list : List Part). Contains list part) picked.1 there);
}

-- what mining would be refused for is the same beside the mined blocks
pub pool_meets : (graph : graphs.Kept) (blocks : List MinedBlock) (seen : Kept) (ids : List ℕ) (r : Result (Unit {0}) Refusal)
    → pool_of graph blocks ≡ seen
    → MatchResult r (λ _. restored.Meets graph (Mine ids) None) (λ why. restored.Meets graph (Mine ids) (Some why))
    → MatchResult r (λ _. Meets seen (Mine ids) None) (λ why. Meets seen (Mine ids) (Some why))
pool_meets graph blocks seen ids (Ok done) is row =
    subst (λ (k : Kept). Meets k (Mine ids) None) is (λ state stands. row state stands.graph)
pool_meets graph blocks seen ids (Err why) is row =
    subst (λ (k : Kept). Meets k (Mine ids) (Some why)) is (λ state stands. row state stands.graph)

-- what was answered judges the list
pub judged : (old new : Desk) (ids : List ℕ) (code kept : ℕ) (r : Result (Unit {0}) Refusal) → new ≡ old
    → MatchResult r (λ _. Meets old.pool (Mine ids) None) (λ why. Meets old.pool (Mine ids) (Some why))
    → code ≡ code_of (change_reply r) → kept ≡ kept_of (change_reply r) → Judges old new ids code kept
judged old new ids code kept (Ok done) same row told keeps =
    record { same = same; found = None; row = row; code_is = told; kept_is = keeps }
judged old new ids code kept (Err why) same row told keeps =
    record { same = same; found = Some why; row = row; code_is = told; kept_is = keeps }
