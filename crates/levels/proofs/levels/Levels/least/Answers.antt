-- The store's bound of sizes is one of main's names.
use Rattle.std.proofs.Common.{◌≡◌, ◌≤◌, ℕ, true, sym, subst}
use Rattle.graphs.specs.declared.names.Level.TheVariants.{Main}
use Rattle.graphs.specs.Closures.{is_member, rate_of}
use Rattle.cluster_store.specs.Stores.{Store, IsLeast}
use Rattle.levels.specs.Levels.{OneLevel}
use Rattle.levels.proofs.Clustered.{sizes_bounded}
use Rattle.levels.proofs.Finds.{level_is}
use Rattle.levels.proofs.levels.Levels.least.Goals as goal

pub returns : goal.returns
returns g c =
    subst (λ (l : OneLevel). (id : ℕ) → is_member l.graph id ≡ true → c.least.result ≤ (rate_of l.graph id).size)
    (sym (level_is g.row.W c.self.inside.issued c.self.inside.shelves c.args.self.now c.self.invariant.order c.self.view_is Main))
    (sizes_bounded g.row.W c.self.inside.shelves c.self.invariant.order Main c.least.result
    (subst (λ (s : Store). IsLeast s.clusters c.least.result) c.store.ensures c.least.ensures.least))
