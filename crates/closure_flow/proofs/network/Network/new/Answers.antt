use Rattle.std.proofs.Common.{◌≡◌, ℕ, ◌*◌, ◌^◌, ◌<◌, ◌∙◌, sym, ap, subst, length, replicate}
use Rattle.std.proofs.lemmas.List.{length-replicate}
use Rattle.std.specs.FinSet as fin
use Rattle.lists.proofs.Cases.{clash}
use Rattle.closure_flow.specs.Networks.{IsLean}
use Rattle.closure_flow.proofs.Marks.{marked_none}
use Rattle.closure_flow.proofs.Networks.{lean_fresh}
use Rattle.bitset.specs.Sets.{contains-empty}
use Rattle.closure_flow.proofs.network.Network.new.Goals as goal

pub invariant_of-result : goal.invariant_of-result
invariant_of-result g c =
    let n : ℕ = 64 * g.row.W in
    let places : c.in_ok-places.places ≡ n = rw c.in_ok-places.ensures.ok_part at c.sizes.ensures.places in
    let pairs : c.in_ok-places.pairs ≡ n * n = rw c.in_ok-places.ensures.ok_part at c.sizes.ensures.pairs in
    let fits : c.in_ok-places.pairs < 2 ^ 64 = rw c.in_ok-places.ensures.ok_part at c.sizes.ensures.fits in
    let into = c.in_ok-vec.ensures.items_if_clones_equal (λ y e. e) in
    let amounts = c.in_ok-vec-2.ensures.items_if_clones_equal (λ y e. e) in
    let rest = c.in_ok-vec-3.ensures.items_if_clones_equal (λ y e. e) in
    record {
      sized = record {
        sets = ap length into ∙ length-replicate _ _ ∙ places;
        pairs = ap length amounts ∙ length-replicate _ _ ∙ pairs;
        rests = ap length rest ∙ length-replicate _ _ ∙ places;
        small = subst (λ (m : ℕ). m < 2 ^ 64) pairs fits;
      };
      lean = subst (λ xs. IsLean n xs c.in_ok-vec-2.field-0.items)
          (sym (into ∙ ap (λ (m : ℕ). replicate m c.empty-4.result) places ∙ ap (replicate n) c.empty-4.ensures)) (lean_fresh n c.in_ok-vec-2.field-0.items);
      over_is = marked_none _ _ _ _ c.empty.ensures c.empty-2.ensures;
      short_is = marked_none _ _ _ _ c.empty.ensures c.empty-3.ensures;
      inside = λ p m. clash _ m (ap (λ s. fin.contains s p) c.empty.ensures ∙ contains-empty p);
    }
