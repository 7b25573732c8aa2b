use Rattle.graphs.proofs.ClosingLemmas.{closes_both, closes_across}
use Rattle.graphs.proofs.laws.joined_is_closed.Goals as goal

pub returns : goal.returns
returns c = record {
  both = closes_both;
  across =
      λ one two above first second parent child a b disjoint apart up down. closes_across one two above first second a b disjoint apart parent child up down;
}
