use Rattle.graphs.proofs.ClosingLemmas.{closes_without, closes_without_all, closes_within}
use Rattle.graphs.proofs.laws.fewer_are_closed.Goals as goal

pub returns : goal.returns
returns c = record {
  one = closes_without;
  several = λ member above ids. closes_without_all ids member above;
  within = λ member keep above graph closes between. closes_within member keep above graph closes between;
}
