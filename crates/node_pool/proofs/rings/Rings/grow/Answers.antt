use Rattle.std.proofs.Common.{◌≤◌, ◌≡◌, ◌*◌, length, arith, ap, ◌∙◌}
use Rattle.std.proofs.Math.Nat.{mul-le-mul_right}
use Rattle.node_pool.proofs.LinkLemmas.{IsGrown-push}
use Rattle.node_pool.specs.Row.{Row}
use Rattle.node_pool.specs.declared.rings.Link.{Link}
use Rattle.node_pool.proofs.rings.Rings.grow.Goals as goal

pub loop-slot-preserved : goal.loop-slot-preserved
loop-slot-preserved c =
    let kept = c.loop-slot.invariant in
    let first : length c.grow.new.self.items ≡ c.self.inside.links.room * c.self.inside.width =
    ap (λ (r : Row Link). length r.items) c.grow.ensures.kept ∙ c.self.invariant.0 in
    let later : c.self.inside.links.room ≤ c.loop-slot.slot = let read = c.room-first.ensures.room in let low = c.loop-slot.auto.slot in omega arith in
    let rows = mul-le-mul_right c.self.inside.width later in
    rw c.push_alone.ensures (
      kept.0,
      kept.1,
      kept.2,
      rw kept.2 (IsGrown-push c.self.inside.width c.grow.new.self.items c.loop-slot.self-inside.links.items c.loop-slot.slot (omega arith) kept.3),
    )
