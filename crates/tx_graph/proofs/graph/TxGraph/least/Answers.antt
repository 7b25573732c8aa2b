use Rattle.std.proofs.Common.{◌*◌, ◌≡◌, ◌≤◌, ℕ, true, subst}
use Rattle.std.specs.Prelude.{Contains}
use Rattle.graphs.specs.Certificates.{Part}
use Rattle.graphs.specs.declared.names.Level.TheVariants.{Main}
use Rattle.graphs.specs.Closures.{is_member, rate_of}
use Rattle.levels.specs.Levels.{IsWithin}
use Rattle.tx_graph.specs.Kept.{Kept}
use Rattle.tx_graph.proofs.Blocks.{least_part}
use Rattle.tx_graph.proofs.Calls.{kept_of}
use Rattle.tx_graph.proofs.Picked.{pick_at}
use Rattle.tx_graph.proofs.Rooms.{levels_fit}
use Rattle.tx_graph.proofs.graph.TxGraph.least.Goals as goal

pub returns-clause-names : goal.returns-clause-names
returns-clause-names g c =
    subst (λ (k : Kept). (id : ℕ) → is_member k.levels.main.graph id ≡ true → c.least.result ≤ (rate_of k.levels.main.graph id).size) c.self.view_is
    c.least.ensures

pub returns-clause-parts : goal.returns-clause-parts
returns-clause-parts g c =
    let kept = kept_of (64 * g.row.W) c.self.inside.begun c.self.inside.levels in
    subst (λ (k : Kept). IsWithin k.levels Main → (part : Part) → Contains k.levels.main.parts part → c.least.result ≤ part.rate.size) c.self.view_is
    (λ within. least_part kept c.least.result (pick_at kept.levels Main c.self.invariant.picked within) c.self.invariant.stands c.least.ensures)

pub least-requires : goal.least-requires
least-requires g c = levels_fit g.row.W assumption
