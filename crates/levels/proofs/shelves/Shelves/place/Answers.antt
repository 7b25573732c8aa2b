-- Names of one part stand as they do there, others as their parts do.
use Rattle.std.proofs.Common.{◌≡◌, ℕ, ◌≤◌, rules, sym, ◌∙◌, subst, Contains}
use Rattle.graphs.specs.declared.names.Level.TheVariants.{Main}
use Rattle.graphs.specs.Merges.{Precedes}
use Rattle.cluster_store.specs.Lent.{lent}
use Rattle.cluster_store.specs.Stores.{Store}
use Rattle.levels.specs.Places.{HasPart}
use Rattle.levels.proofs.Places.{same_place, other_place, has_here, place_listed, within_part, part_by_part}
use Rattle.levels.proofs.shelves.Shelves.place.Goals.{then-eq, else-eq}
use Rattle.levels.proofs.shelves.Shelves.place.Goals as goal

pub comes_first-is_first-requires-clause-a : goal.comes_first-is_first-requires-clause-a
comes_first-is_first-requires-clause-a g c =
    has_here Main c.args.self.now c.place_of-first.result (lent c.part.result) c.args.a c.part.ensures c.place_of-first.ensures

pub comes_first-is_first-requires-clause-b : goal.comes_first-is_first-requires-clause-b
comes_first-is_first-requires-clause-b g c =
    let same : c.place_of-first.result ≡ c.place_of-second.result =
    same_place c.place_of-first.result c.place_of-second.result (sym c.eq.ensures ∙ c.if-eq.true) in
    has_here Main c.args.self.now c.place_of-first.result (lent c.part.result) c.args.b c.part.ensures
    (subst (λ (p : ℕ × ℕ). HasPart Main c.args.self.now p c.args.b) (sym same) c.place_of-second.ensures)

pub comes_before-is_first-requires : goal.comes_before-is_first-requires
comes_before-is_first-requires g c =
    let narrow : g.row.W ≤ 2 = c.requires.order.narrow in
    let a = place_listed g.row.W c.args.self.now c.requires.order Main c.place_of-first.result c.args.a c.place_of-first.ensures in
    let b = place_listed g.row.W c.args.self.now c.requires.order Main c.place_of-second.result c.args.b c.place_of-second.ensures in (
      search rules,
      (
        subst (λ (s : Store). Contains s.order c.place_of-first.result) (sym c.store.ensures) a,
        subst (λ (s : Store). Contains s.order c.place_of-second.result) (sym c.store.ensures) b,
      ),
    )

pub returns-then-is_first : goal.returns-then-is_first
returns-then-is_first g c =
    elim c.if-eq.branch [
      | then-eq w ↦
          within_part g.row.W c.args.self.now c.requires.order Main c.place_of-first.result (lent w.part.result) c.args.a c.args.b w.part.ensures
          (w.comes_first-is_first.ensures.before (sym w.is_first-is ∙ c.if-is_first.true))
      | else-eq w ↦
          part_by_part g.row.W c.args.self.now c.requires.order Main c.place_of-first.result c.place_of-second.result c.args.a c.args.b
          c.place_of-first.ensures c.place_of-second.ensures
          (subst (λ (s : Store). Precedes s.order c.place_of-first.result c.place_of-second.result) w.store.ensures
          (w.comes_before-is_first.ensures.before.0 (sym w.is_first-is ∙ c.if-is_first.true)))
    ]

pub returns-else-is_first : goal.returns-else-is_first
returns-else-is_first g c =
    elim c.if-eq.branch [
      | then-eq w ↦
          within_part g.row.W c.args.self.now c.requires.order Main c.place_of-first.result (lent w.part.result) c.args.b c.args.a w.part.ensures
          (w.comes_first-is_first.ensures.after (sym w.is_first-is ∙ c.if-is_first.false))
      | else-eq w ↦
          part_by_part g.row.W c.args.self.now c.requires.order Main c.place_of-second.result c.place_of-first.result c.args.b c.args.a
          c.place_of-second.ensures c.place_of-first.ensures
          (subst (λ (s : Store). Precedes s.order c.place_of-second.result c.place_of-first.result) w.store.ensures
          (w.comes_before-is_first.ensures.behind (other_place c.place_of-first.result c.place_of-second.result (sym c.eq.ensures ∙ w.if-eq.false))
          (sym w.is_first-is ∙ c.if-is_first.false)))
    ]
