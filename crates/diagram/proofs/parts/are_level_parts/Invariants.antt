use Rattle.std.proofs.Common.{◌↔◌, map, IfSome, length}
use Rattle.fee_rate.specs.Limits.{IsSum}
use Rattle.diagram.specs.Parts.{rate_of, AreLevelParts, IsPartSum}
use Rattle.diagram.proofs.PartLemmas.{FollowOn}
use Rattle.diagram.proofs.parts.are_level_parts.Given as goal

abbrev pub invariant-loop-first : goal.invariant-loop-first
invariant-loop-first l = record {
  follow : AreLevelParts (map rate_of l.parts) ↔ FollowOn l.last l.end (map rate_of l.rest);
  last : IfSome l.last IsPartSum;
  in_range : IsSum l.end;
}

abbrev pub decreases-loop-first : goal.decreases-loop-first
decreases-loop-first l = length l.rest
