use Rattle.std.proofs.Common.{map, refl, rules}
use Rattle.diagram.specs.Parts.{rate_of}
use Rattle.diagram.proofs.PartLemmas.{follow_start, follow_further, follow_all, may_first}
use Rattle.diagram.proofs.parts.are_level_parts.Goals as goal

pub loop-first-init : goal.loop-first-init
loop-first-init c = record { follow = follow_start (map rate_of c.args.parts.now); last = tt; in_range = search rules }

pub returns-then-not-may_follow : goal.returns-then-not-may_follow
returns-then-not-may_follow c = (
  λ h. cc,
  λ level. c.if-not-may_follow.ensures.1 (may_first c.loop-first.last c.loop-first.end c.from-rate.result c.in-Some.first.now c.loop-first.rest.now
      c.in-Some.others.now (c.loop-first.invariant.follow.0 level) c.in-Some.ensures.cases.0 c.from-rate.ensures.0 c.from-rate.ensures.1),
)

pub loop-first-preserved : goal.loop-first-preserved
loop-first-preserved c =
    let may = c.if-not-may_follow.ensures.0 refl in
    record {
      follow = follow_further c.loop-first.last c.loop-first.end c.from-rate.result c.add-end.result c.in-Some.first.now
          c.loop-first.rest.now c.in-Some.others.now c.loop-first.invariant.follow c.in-Some.ensures.cases.0
          c.from-rate.ensures.0 c.from-rate.ensures.1 c.add-end.ensures.fee c.add-end.ensures.size c.loop-first.invariant.in_range may;
      last = (may.some, may.ranged);
      in_range = search rules;
    }

pub returns : goal.returns
returns c = (
  λ h. c.loop-first.invariant.follow.1 (follow_all c.loop-first.last c.loop-first.end c.loop-first.rest.now c.in_default.ensures.cases
      c.loop-first.invariant.in_range),
  λ level. refl,
)
