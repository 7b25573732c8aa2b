-- The clusters whose first parts were in the two walks are all of those two tags that have parts; the others are listed.
use Rattle.std.proofs.Common.{subst}
use Rattle.cluster_store.specs.Kept.{at}
use Rattle.cluster_store.specs.Unordered.{IsUnordered}
use Rattle.cluster_store.proofs.Settled.{settled_by_all, shown_settled, unordered_before}
use Rattle.cluster_store.proofs.settling.settle.Goals as goal

pub tidy-requires : goal.tidy-requires
tidy-requires g c = (
  search,
  λ n unordered.
      c.requires.unordered n
      (unordered_before c.args.stays (at c.args.slots.now.slots n) (subst IsUnordered
      (settled_by_all c.args.stays c.args.slots.now.slots c.move_firsts.new.slots.slots c.move_firsts-2.new.slots.slots c.settle_unordered.new.slots.slots
      c.args.index.now c.tags_apart-own.result.0 c.tags_apart-own.result.1 c.walk_only.result c.walk_only-2.result c.as_slice.result.now
      c.args.over.now.keys c.requires.shown c.tags_apart-own.ensures.own c.tags_apart-own.ensures.other c.walk_only.ensures.entries
      c.walk_only-2.ensures.entries c.move_firsts.ensures c.move_firsts-2.ensures c.settle_unordered.ensures c.as_slice.ensures.keys
      c.requires.unordered n) unordered)),
)

pub returns-clause-settled : goal.returns-clause-settled
returns-clause-settled g c =
    settled_by_all c.args.stays c.args.slots.now.slots c.move_firsts.new.slots.slots c.move_firsts-2.new.slots.slots c.settle_unordered.new.slots.slots
    c.args.index.now c.tags_apart-own.result.0 c.tags_apart-own.result.1 c.walk_only.result c.walk_only-2.result c.as_slice.result.now
    c.args.over.now.keys c.requires.shown c.tags_apart-own.ensures.own c.tags_apart-own.ensures.other c.walk_only.ensures.entries
    c.walk_only-2.ensures.entries c.move_firsts.ensures c.move_firsts-2.ensures c.settle_unordered.ensures c.as_slice.ensures.keys c.requires.unordered

pub returns-clause-shown : goal.returns-clause-shown
returns-clause-shown g c =
    shown_settled c.args.stays c.args.slots.now.slots c.settle_unordered.new.slots.slots c.args.index.now c.settle.new.self c.requires.shown
    (returns-clause-settled g c) c.settle.ensures
