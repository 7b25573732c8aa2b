-- The names of the clusters that stand in the level are its members.
use Rattle.std.proofs.Common.{◌≡◌, ◌↔◌, ℕ, true, Contains, sym, subst}
use Rattle.graphs.specs.Closures.{Closure, is_member}
use Rattle.cluster_store.specs.Names.{AreNames}
use Rattle.cluster_store.specs.Stores.{Store}
use Rattle.levels.proofs.Finds.{graph_is}
use Rattle.levels.proofs.Members.{names_are, names_once}
use Rattle.levels.proofs.levels.Levels.names.Goals as goal

pub returns-clause-names : goal.returns-clause-names
returns-clause-names g c =
    subst (λ (h : Closure). (id : ℕ) → Contains c.walk_names.result id ↔ (is_member h id ≡ true))
    (sym (graph_is g.row.W c.self.inside.issued c.self.inside.shelves c.args.self.now c.self.invariant.order c.self.view_is c.args.level))
    (names_are g.row.W c.args.level c.self.inside.shelves c.self.invariant.order c.walk_names.result
    (subst (λ (s : Store). AreNames c.args.level s.clusters c.walk_names.result) c.store.ensures c.walk_names.ensures))

pub returns-clause-once : goal.returns-clause-once
returns-clause-once g c =
    names_once g.row.W c.args.level c.self.inside.shelves c.self.invariant.order c.walk_names.result
    (subst (λ (s : Store). AreNames c.args.level s.clusters c.walk_names.result) c.store.ensures c.walk_names.ensures)
