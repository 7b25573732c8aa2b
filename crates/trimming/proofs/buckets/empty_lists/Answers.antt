use Rattle.std.proofs.Common.{ℕ, List, length, ap, arith, subst}
use Rattle.std.specs.Prelude.{Contains, Vec}
use Rattle.std.specs.declared.alloc.Global.{Global}
use Rattle.std.proofs.lemmas.List.{length_push}
use Rattle.trimming.specs.Nets.{list_at}
use Rattle.trimming.proofs.Listing.{empty_more}
use Rattle.trimming.proofs.buckets.empty_lists.Goals as goal

pub loop-preserved : goal.loop-preserved
loop-preserved c =
    let e = c.push_reserved.ensures.items in
    let space = c.push_reserved.ensures.capacity in
    record {
      sized = omega (arith, ap length e, length_push c.loop.lists.items c.new.result, c.loop.invariant.sized);
      space = omega (arith, space, c.loop.invariant.space);
      empty = λ i x has. empty_more c.loop.lists.items c.new.result c.loop.invariant.empty c.new.ensures.items i x
          (subst (λ (l : List (Vec ℕ Global)). Contains (list_at l i) x) e has);
    }
