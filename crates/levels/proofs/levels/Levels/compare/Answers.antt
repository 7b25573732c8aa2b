-- The parts of both levels are those of the store.
use Rattle.std.proofs.Common.{rules, ◌≡◌, ◌≤◌, ℕ, true, sym, subst, subst₂}
use Rattle.fee_rate.specs.Limits.{IsRate}
use Rattle.graphs.specs.Closures.{is_member, rate_of}
use Rattle.graphs.specs.declared.names.Level.{Level}
use Rattle.graphs.specs.declared.names.Level.TheVariants.{Main, Top}
use Rattle.cluster_store.specs.Stores.{Store, parts_of_level}
use Rattle.comparison.specs.Comparisons.{ComparesParts}
use Rattle.diagram.specs.Parts.{sums_of}
use Rattle.replacement.specs.Merging.{FitTogether}
use Rattle.levels.specs.Levels.{OneLevel}
use Rattle.levels.proofs.Finds.{both_at, level_is}
use Rattle.levels.proofs.Keeping.{few_kept}
use Rattle.levels.proofs.Summing.{level_pays, rated}
use Rattle.levels.proofs.levels.Levels.compare.Goals as goal

pub compare-requires : goal.compare-requires
compare-requires g c =
    let narrow : g.row.W ≤ 2 = c.self.invariant.order.narrow in (
      search rules,
      (
        narrow,
        subst (λ (s : Store). (level : Level) → FitTogether (sums_of (parts_of_level level s))) (sym c.store.ensures)
            (λ level. level_pays g.row.W c.self.inside.shelves c.self.invariant.order level
            (both_at g.row.W c.self.inside.issued c.self.inside.shelves c.args.self.now c.self.invariant.order c.self.view_is c.requires.within level) (few_kept g.row.W c.self.inside.mains c.self.inside.tops c.self.inside.issued c.self.inside.shelves c.self.inside.rings c.self.invariant level)),
      ),
    )

pub returns-clause-rates : goal.returns-clause-rates
returns-clause-rates g c level =
    subst (λ (l : OneLevel). (id : ℕ) → is_member l.graph id ≡ true → IsRate (rate_of l.graph id))
    (sym (level_is g.row.W c.self.inside.issued c.self.inside.shelves c.args.self.now c.self.invariant.order c.self.view_is level))
    (rated g.row.W c.self.inside.shelves c.self.invariant.order level)

pub returns-clause-verdict : goal.returns-clause-verdict
returns-clause-verdict g c =
    let is = level_is g.row.W c.self.inside.issued c.self.inside.shelves c.args.self.now c.self.invariant.order c.self.view_is in
    subst₂ (λ (a b : OneLevel). ComparesParts a.parts b.parts c.compare.result) (sym (is Main)) (sym (is Top))
    (subst (λ (s : Store). ComparesParts (parts_of_level Main s) (parts_of_level Top s) c.compare.result) c.store.ensures c.compare.ensures)
