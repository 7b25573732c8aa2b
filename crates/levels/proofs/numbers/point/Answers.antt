-- One name more has the number.
use Rattle.std.proofs.Common.{◌<◌, length, slice_index_or, arith, ◌≡◌, ◌∙◌, subst}
use Rattle.std.proofs.lemmas.List.{get_or_default}
use Rattle.staging.specs.Maps.{top_of}
use Rattle.std.proofs.lemmas.List.Elements.{Contains-get_or}
use Rattle.levels.proofs.Pointing.{PointsTo, base_more, points_more, points_one_of}
use Rattle.levels.proofs.numbers.point.Goals as goal

pub loop-id-preserved : goal.loop-id-preserved
loop-id-preserved c =
    let names = c.args.names.now in
    let low : c.loop-id.id-index < length names = omega arith in
    let id = slice_index_or names c.loop-id.id-index 0 in
    record {
      points = points_more c.loop-id.id-index c.args.number names (top_of c.args.numbers.now) (top_of c.loop-id.numbers) (top_of c.put.new.self) id
          c.loop-id.invariant.points (Contains-get_or names c.loop-id.id-index 0 low) (λ d. get_or_default names c.loop-id.id-index d 0 low) c.put.ensures.top;
      staged = c.put.ensures.staged ∙ c.loop-id.invariant.staged;
      base = base_more c.args.numbers.now c.loop-id.numbers c.put.new.self c.loop-id.invariant.staged c.loop-id.invariant.base c.put.ensures.base;
      room = omega (arith, c.loop-id.invariant.room, c.put.ensures.spare);
    }

pub returns-clause-points : goal.returns-clause-points
returns-clause-points c =
    let all : c.loop-id.id-index ≡ length c.args.names.now = omega arith in
    points_one_of c.args.number c.args.names.now (top_of c.args.numbers.now) (top_of c.loop-id.numbers)
    (subst (λ n. PointsTo n c.args.number c.args.names.now (top_of c.args.numbers.now) (top_of c.loop-id.numbers)) all c.loop-id.invariant.points)
