use Rattle.std.proofs.Common.{refl, sym, subst}
use Rattle.chunk_index.specs.Keys.{IsInOrder, key_of}
use Rattle.chunk_index.specs.Merges.{put_all}
use Rattle.chunk_index.proofs.Merges.{none_order}
use Rattle.chunk_index.proofs.Pairs.{pairs_in_order}
use Rattle.chunk_index.proofs.numbers.Numbers.new.Goals as goal

pub invariant_of-result : goal.invariant_of-result
invariant_of-result c = record {
  map_order = pairs_in_order c.new.result.entries c.new.ensures.ordered;
  late_order = subst (IsInOrder key_of) (sym c.new-2.ensures) (none_order key_of);
}

pub returns-clause-none : goal.returns-clause-none
unfolding put_all
returns-clause-none c = rw (c.new.ensures.empty, c.new-2.ensures) refl
