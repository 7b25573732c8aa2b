use Rattle.std.proofs.Common.{ℕ, refl, arith}
use Rattle.std.proofs.lemmas.List.Sorted.{IsNonDecreasingBy-from_sort}
use Rattle.trimming.proofs.Dropping.{early_once, early_next, unkept_rise}
use Rattle.trimming.proofs.dropped.unkept.Goals as goal

pub loop-place-preserved : goal.loop-place-preserved
loop-place-preserved c = record {
  once = early_once c.args.txs.now c.args.kept.now c.requires.once c.loop-place.place c.loop-place-test.true c.loop-place.ids.items c.put_unkept.new.ids.items
      _ c.loop-place.invariant.once c.loop-place.invariant.exact c.in_ok-put_unkept.ensures;
  exact = early_next c.args.txs.now c.args.kept.now c.requires.once c.loop-place.place c.loop-place-test.true c.loop-place.ids.items c.put_unkept.new.ids.items
      _ refl c.loop-place.invariant.exact c.in_ok-put_unkept.ensures;
}

pub returns : goal.returns
returns c =
    let end = c.loop-place.auto.place-end in
    let past = c.loop-place-test.false in
    unkept_rise c.args.txs.now c.args.kept.now c.loop-place.place c.loop-place.ids.items c.sort_unstable.new.self.items c.loop-place.invariant.once
    c.loop-place.invariant.exact (omega (arith, past)) (omega (arith, end)) c.sort_unstable.ensures.permutation
    (IsNonDecreasingBy-from_sort (λ (x : ℕ). x) c.sort_unstable.new.self.items c.sort_unstable.ensures.sorted)
