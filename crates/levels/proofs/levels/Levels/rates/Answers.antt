-- The rates of what the store shows are those of the level's parts.
use Rattle.std.proofs.Common.{◌≡◌, ◌≤◌, ℕ, true, sym, ap, ◌∙◌, subst}
use Rattle.fee_rate.specs.Limits.{IsRate}
use Rattle.graphs.specs.Closures.{is_member, rate_of}
use Rattle.fee_rate.specs.declared.rates.FeeRate.{FeeRate}
use Rattle.cluster_store.specs.Stores.{Store, parts_of_level, shown_in}
use Rattle.comparison.proofs.Merging.{rates_shown}
use Rattle.diagram.specs.Parts.{AreLevelParts, rate_of as part_rate, sums_of}
use Rattle.diagram.proofs.StepLemmas.{always_first}
use Rattle.levels.specs.Levels.{OneLevel, level_at}
use Rattle.levels.proofs.Finds.{level_is, within_at}
use Rattle.levels.proofs.Keeping.{few_kept}
use Rattle.levels.proofs.Summing.{level_parts, rated}
use Rattle.levels.proofs.levels.Levels.rates.Goals as goal

pub returns-clause-rates : goal.returns-clause-rates
returns-clause-rates g c =
    c.rates.ensures ∙ rates_shown (shown_in c.args.level c.store.result.now)
    ∙ ap (λ (s : Store). sums_of (parts_of_level c.args.level s)) c.store.ensures
    ∙ ap (λ (l : OneLevel). sums_of l.parts) (sym (level_is g.row.W c.self.inside.issued c.self.inside.shelves c.args.self.now c.self.invariant.order c.self.view_is c.args.level))

pub returns-clause-yields : goal.returns-clause-yields
returns-clause-yields g c = record {
  yields = always_first {A = FeeRate} part_rate c.rates.result (sums_of (level_at c.args.self.now c.args.level).parts) (returns-clause-rates g c);
  level = subst (λ (l : OneLevel). AreLevelParts (sums_of l.parts)) (sym (level_is g.row.W c.self.inside.issued c.self.inside.shelves c.args.self.now c.self.invariant.order c.self.view_is c.args.level))
      (level_parts g.row.W c.self.inside.shelves c.self.invariant.order c.args.level (within_at g.row.W c.self.inside.issued c.self.inside.shelves c.args.self.now c.self.invariant.order c.self.view_is c.args.level c.requires)
      (few_kept g.row.W c.self.inside.mains c.self.inside.tops c.self.inside.issued c.self.inside.shelves c.self.inside.rings c.self.invariant c.args.level));
}

pub returns-clause-names : goal.returns-clause-names
returns-clause-names g c =
    subst (λ (l : OneLevel). (id : ℕ) → is_member l.graph id ≡ true → IsRate (rate_of l.graph id))
    (sym (level_is g.row.W c.self.inside.issued c.self.inside.shelves c.args.self.now c.self.invariant.order c.self.view_is c.args.level))
    (rated g.row.W c.self.inside.shelves c.self.invariant.order c.args.level)
