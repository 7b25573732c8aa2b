-- A cluster with an order stays for now.
use Rattle.std.proofs.Common.{refl, sym, true≢false}
use Rattle.cluster_store.specs.Kept.{at}
use Rattle.cluster_store.proofs.Settled.{ordered_stays}
use Rattle.cluster_store.proofs.settling.settle_one.Goals as goal

pub returns-then-not-is_unordered : goal.returns-then-not-is_unordered
returns-then-not-is_unordered g c = record {
  changed = sym (ordered_stays c.args.stays (at c.args.slots.now.slots c.args.number)
      (λ unordered. true≢false (sym (c.if-not-is_unordered.ensures.1 unordered))));
  others = λ m other. refl;
}
