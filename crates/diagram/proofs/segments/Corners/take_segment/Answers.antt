use Rattle.std.proofs.Common.{inl, inr, arith}
use Rattle.diagram.proofs.WalkLemmas.{first_fits, next_fits, goes_on}
use Rattle.diagram.proofs.segments.Corners.take_segment.Goals as goal

pub add-self-requires-clause-a_in : goal.add-self-requires-clause-a_in
add-self-requires-clause-a_in g c = (first_fits c.args.self.now.end c.args.first c.requires.level.0 c.requires.level.2).now

pub add-self-requires-clause-b_in : goal.add-self-requires-clause-b_in
add-self-requires-clause-b_in g c = (first_fits c.args.self.now.end c.args.first c.requires.level.0 c.requires.level.2).next

pub add-self-requires-clause-in_range : goal.add-self-requires-clause-in_range
add-self-requires-clause-in_range g c = (first_fits c.args.self.now.end c.args.first c.requires.level.0 c.requires.level.2).both

pub cmp_rate-requires-clause-a_in : goal.cmp_rate-requires-clause-a_in
cmp_rate-requires-clause-a_in g c =
    let so = c.loop-rate.invariant.so_far c.requires.level.0 c.requires.level.1 in
    let item = c.in-Some.ensures.item so.rest so.left in
    (next_fits g.I.Iterator.next_gives c.args.self.now.end c.args.first c.requires.level.0
    c.loop-rate.self.parts c.loop-rate.self.end c.in-Some.rate item.0 c.requires.level.2 so item.1).next

pub cmp_rate-requires-clause-b_in : goal.cmp_rate-requires-clause-b_in
cmp_rate-requires-clause-b_in g c = (first_fits c.args.self.now.end c.args.first c.requires.level.0 c.requires.level.2).next

pub cmp_rate-requires-clause-a_some : goal.cmp_rate-requires-clause-a_some
cmp_rate-requires-clause-a_some g c =
    let so = c.loop-rate.invariant.so_far c.requires.level.0 c.requires.level.1 in
    let item = c.in-Some.ensures.item so.rest so.left in
    (next_fits g.I.Iterator.next_gives c.args.self.now.end c.args.first c.requires.level.0
    c.loop-rate.self.parts c.loop-rate.self.end c.in-Some.rate item.0 c.requires.level.2 so item.1).some

pub cmp_rate-requires-clause-b_some : goal.cmp_rate-requires-clause-b_some
cmp_rate-requires-clause-b_some g c = (first_fits c.args.self.now.end c.args.first c.requires.level.0 c.requires.level.2).some

pub add-self-requires-in-Equal : goal.add-self-requires-in-Equal
add-self-requires-in-Equal g c =
    let so = c.loop-rate.invariant.so_far c.requires.level.0 c.requires.level.1 in
    let item = c.in-Some.ensures.item so.rest so.left in
    let fits = next_fits g.I.Iterator.next_gives c.args.self.now.end c.args.first c.requires.level.0
    c.loop-rate.self.parts c.loop-rate.self.end c.in-Some.rate item.0 c.requires.level.2 so item.1 in
    record { a_in = fits.now; b_in = fits.next; in_range = fits.both }

pub loop-rate-preserved : goal.loop-rate-preserved
loop-rate-preserved g c =
    let goes = c.in-Some.ensures.goes in
    record {
      so_far = λ more h.
          let so = c.loop-rate.invariant.so_far more h in
          let item = c.in-Some.ensures.item so.rest so.left in
          goes_on g.I.Iterator.next_gives c.args.self.now.end c.args.first c.in-Some.rate c.loop-rate.self.end
          c.add-self-in-Equal.result more item.0 c.loop-rate.self.parts c.next_rate.new.parts so item.1 item.2
          c.cmp_rate.result c.cmp_rate.ensures
          (λ e. elim c.in-Equal.is [ inl k ↦ cc | inr k ↦ cc ]) c.add-self-in-Equal.ensures.fee c.add-self-in-Equal.ensures.size;
      callable = goes.0;
      finite = goes.1;
      fewer = omega (arith, goes.2, c.loop-rate.invariant.fewer);
    }
