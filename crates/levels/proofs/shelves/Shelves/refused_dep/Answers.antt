-- A pair of names is refused by the rows of its clusters.
use Rattle.std.proofs.Common.{◌+◌, length, Option, Some, None, Result, MatchResult, subst, sym, ap, ◌∙◌, arith}
use Rattle.graphs.specs.declared.names.Level.TheVariants.{Top}
use Rattle.graph_model.specs.declared.names.Refusal.{Refusal}
use Rattle.levels.specs.Joins.{DepRefusalIs, SumRefusalIs}
use Rattle.levels.specs.Shelves.{Shelf, view_of}
use Rattle.levels.specs.Views.{graph_of}
use Rattle.levels.proofs.Fewer.{both_few}
use Rattle.levels.proofs.Rooms.{record_fits}
use Rattle.levels.proofs.Sides.{between}
use Rattle.levels.proofs.Under.{held, seen_there, stored}
use Rattle.levels.proofs.Ways.{no_parent, no_child, way_row, way_link, sizes_in, sum_row}
use Rattle.graph_model.specs.declared.names.Limits.{Limits}
use Rattle.levels.specs.declared.relation.Link.{Link}
use Rattle.levels.proofs.shelves.Shelves.refused_dep.Goals.{in-Some-refused_sum, in-None}
use Rattle.levels.proofs.shelves.Shelves.refused_dep.Goals as goal

pub returns-in_default-clause-row : goal.returns-in_default-clause-row
returns-in_default-clause-row g c =
    no_parent c.args.self.now.limits c.args.self.now c.args.parent c.args.child (sym c.number.ensures.number ∙ c.in_default.is)

pub returns-in_default-number-clause-row : goal.returns-in_default-number-clause-row
returns-in_default-number-clause-row g c =
    no_child c.args.self.now.limits c.args.self.now c.args.parent c.args.child c.in-Some.above (sym c.number.ensures.number ∙ c.in-Some.is)
    (sym c.number-2.ensures.number ∙ c.in_default-number.is)

pub way_within-requires : goal.way_within-requires
way_within-requires g c =
    let p_is = sym c.number.ensures.number ∙ c.in-Some.is in
    let q_is = sym c.number-2.ensures.number ∙ c.in-Some-number.is ∙ ap Some (sym c.if-above-below.true) in
    let at = stored g.row.W c.args.self.now c.requires.order Top c.args.parent c.in-Some.above p_is in
    let seen = seen_there g.row.W c.args.self.now c.requires.order Top c.args.parent c.in-Some.above p_is at.0 at.1 in (
      omega arith,
      (
        at.0,
        at.1,
        held g.row.W c.args.self.now c.requires.order Top c.args.parent c.in-Some.above p_is at.0 seen,
        held g.row.W c.args.self.now c.requires.order Top c.args.child c.in-Some.above q_is at.0 seen,
      ),
    )

pub returns-then-above-below-clause-row : goal.returns-then-above-below-clause-row
returns-then-above-below-clause-row g c =
    let p_is = sym c.number.ensures.number ∙ c.in-Some.is in
    let at = stored g.row.W c.args.self.now c.requires.order Top c.args.parent c.in-Some.above p_is in
    way_row g.row.W c.args.self.now c.requires.order c.args.parent c.args.child c.in-Some.above at.0
    p_is (sym c.number-2.ensures.number ∙ c.in-Some-number.is ∙ ap Some (sym c.if-above-below.true))
    at.1 c.args.self.now.limits c.way_within.result (c.way_within.ensures.way at.0 at.1)

pub returns-then-above-below-clause-link : goal.returns-then-above-below-clause-link
returns-then-above-below-clause-link g c =
    let p_is = sym c.number.ensures.number ∙ c.in-Some.is in
    let at = stored g.row.W c.args.self.now c.requires.order Top c.args.parent c.in-Some.above p_is in
    way_link g.row.W c.args.self.now c.requires.order c.args.parent c.args.child c.in-Some.above at.0
    p_is (sym c.number-2.ensures.number ∙ c.in-Some-number.is ∙ ap Some (sym c.if-above-below.true))
    at.1 c.way_within.result (c.way_within.ensures.way at.0 at.1)

pub returns-clause-row : goal.returns-clause-row
returns-clause-row g c =
    let found = c.refused_sum.result in
    let Row : Option Refusal → Type 0 = DepRefusalIs c.args.self.now.limits (graph_of (view_of Top c.args.self.now)) c.args.parent c.args.child in
    let sums = subst (λ (l : Limits). SumRefusalIs l (length c.at.result.now.names + length c.at-2.result.now.names)
    (sizes_in c.at.result.now + sizes_in c.at-2.result.now) found) (ap (λ (s : Shelf). s.limits) c.self.view_is) c.refused_sum.ensures in
    let row : Row found =
    sum_row g.row.W c.args.self.now.limits c.args.self.now c.requires.order c.args.parent c.args.child c.in-Some.above c.in-Some-number.below
    c.at.result.now c.at-2.result.now found (sym c.number.ensures.number ∙ c.in-Some.is) (sym c.number-2.ensures.number ∙ c.in-Some-number.is)
    c.if-above-below.false c.at.ensures c.at-2.ensures sums in
    elim c.match-refused_sum.branch [
      | in-Some-refused_sum w ↦
          subst (λ (r : Result Link Refusal). MatchResult r (λ _. Row None) (λ why. Row (Some why))) (sym w.result-is) (subst Row w.in-Some-refused_sum.is row)
      | in-None w ↦
          subst (λ (r : Result Link Refusal). MatchResult r (λ _. Row None) (λ why. Row (Some why))) (sym w.result-is) (subst Row w.in-None.is row)
    ]

pub refused_sum-requires : goal.refused_sum-requires
refused_sum-requires g c =
    let p_is = sym c.number.ensures.number ∙ c.in-Some.is in
    let q_is = sym c.number-2.ensures.number ∙ c.in-Some-number.is in
    let one = seen_there g.row.W c.args.self.now c.requires.order Top c.args.parent c.in-Some.above p_is c.at.result.now c.at.ensures in
    let two = seen_there g.row.W c.args.self.now c.requires.order Top c.args.child c.in-Some-number.below q_is c.at-2.result.now c.at-2.ensures in
    let apart = (between g.row.W c.args.self.now c.requires.order c.args.parent c.args.child c.in-Some.above c.in-Some-number.below
    c.at.result.now c.at-2.result.now p_is q_is c.if-above-below.false one two).apart in (
      record_fits g.row.W c.requires.order.narrow,
      (
        c.requires.order.narrow,
        both_few g.row.W c.args.self.now c.requires.order c.requires.few c.in-Some.above c.in-Some-number.below c.at.result.now c.at-2.result.now one two apart,
      ),
    )
