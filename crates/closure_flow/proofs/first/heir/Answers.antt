use Rattle.std.proofs.Common.{◌≡◌, ◌∙◌, subst, true}
use Rattle.std.specs.FinSet as set
use Rattle.bitset.specs.Members.{from_meet, from_remove}
use Rattle.closure_flow.proofs.Networks.{read_parents}
use Rattle.closure_flow.proofs.Queues.{fewer}
use Rattle.closure_flow.proofs.first.heir.Goals as goal

pub loop-parent-init : goal.loop-parent-init
loop-parent-init g c =
    record {
      found = tt;
      left = λ t m.
          let both = from_meet _ _ t (subst (λ s. set.contains s t ≡ true) c.meet-left.ensures m) in
          (read_parents c.args.parents.now c.args.place t _ (c.requires.parents _ c.requires.place) c.index-parents-place.is ∙ both.0, both.1);
    }

pub loop-parent-smaller-then-is_some : goal.loop-parent-smaller-then-is_some
loop-parent-smaller-then-is_some g c = rw c.remove.ensures (fewer _ _ c.in-Some.ensures.least.member)

pub loop-parent-preserved-then-is_some : goal.loop-parent-preserved-then-is_some
loop-parent-preserved-then-is_some g c =
    record {
      found = c.loop-parent.invariant.left c.in-Some.parent c.in-Some.ensures.least.member;
      left = λ t m. c.loop-parent.invariant.left t (from_remove _ c.in-Some.parent t (subst (λ s. set.contains s t ≡ true) c.remove.ensures m)).1;
    }

pub loop-parent-smaller : goal.loop-parent-smaller
loop-parent-smaller g c = rw c.remove.ensures (fewer _ _ c.in-Some.ensures.least.member)

pub loop-parent-preserved : goal.loop-parent-preserved
loop-parent-preserved g c =
    record {
      found = c.loop-parent.invariant.found;
      left = λ t m. c.loop-parent.invariant.left t (from_remove _ c.in-Some.parent t (subst (λ s. set.contains s t ≡ true) c.remove.ensures m)).1;
    }
