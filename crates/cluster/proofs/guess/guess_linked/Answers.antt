use Rattle.std.proofs.Common.{◌≡◌, ℕ, ◌<◌, true, length, slice_index, Contains, sym, subst}
use Rattle.std.specs.FinSet as set
use Rattle.graphs.specs.Certificates.{Part}
use Rattle.linearize.specs.Graphs.{sum_from}
use Rattle.cluster.proofs.Images.{images_more, images_none, there_at}
use Rattle.cluster.proofs.guess.guess_linked.Goals as goal

pub loop-at-init : goal.loop-at-init
loop-at-init g c = images_none c.args.names.now (λ (part : Part). Contains c.args.old.now.parts part × ((p q : ℕ) → p < length c.args.names.now → q < length c.args.names.now
    → Contains part.ids (slice_index c.args.names.now p) → Contains part.ids (slice_index c.args.names.now q)
    → set.contains c.args.above.now p ≡ true → set.contains c.args.below.now q ≡ true → ⊥)) _ _ _ c.clear.ensures

pub loop-at-preserved : goal.loop-at-preserved
loop-at-preserved g c =
    let own : Part = record { rate = sum_from c.part-part.result.rate; ids = c.part-part.result.ids.now; flows = c.part-part.result.flows.now } in
    let there : Contains c.args.old.now.parts own = there_at c.args.old.now.parts c.loop-at.at own
    (subst (λ (m : ℕ). c.loop-at.at < m) c.part_count-at-end.ensures c.loop-at-test.true) c.part-part.ensures in
    images_more c.args.names.now (λ (part : Part). Contains c.args.old.now.parts part × ((p q : ℕ) → p < length c.args.names.now → q < length c.args.names.now
    → Contains part.ids (slice_index c.args.names.now p) → Contains part.ids (slice_index c.args.names.now q)
    → set.contains c.args.above.now p ≡ true → set.contains c.args.below.now q ≡ true → ⊥)) _ c.loop-at.guess.places.items c.loop-at.guess.flows.items c.loop-at.guess.parts.items
    c.put_part.new.guess.places.items c.put_part.new.guess.flows.items c.put_part.new.guess.parts.items c.loop-at.invariant c.put_part.ensures
    (λ p so. (
      subst (λ (q : Part). Contains c.args.old.now.parts q) (sym so.1) there,
      λ x y x_low y_low x_in y_in up down.
          c.is_apart-known.ensures so.0 x y x_low y_low (subst (λ (q : Part). Contains q.ids (slice_index c.args.names.now x)) so.1 x_in)
          (subst (λ (q : Part). Contains q.ids (slice_index c.args.names.now y)) so.1 y_in) up down,
    ))
