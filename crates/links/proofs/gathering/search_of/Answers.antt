use Rattle.std.proofs.Common.{◌≡◌, ℕ, List, ◌++◌, map, ap, sym, ◌∙◌, subst, arith}
use Rattle.places.specs.Chains.{AreWithin, turned}
use Rattle.links.specs.Gathering.{both_ways}
use Rattle.links.proofs.Trails.{both_within}
use Rattle.links.proofs.gathering.search_of.Goals as goal

pub ways_of-requires : goal.ways_of-requires
ways_of-requires c =
    let steps = c.args.up.now.steps.items in
    let is : c.extend_from_slice.new.self.items ≡ both_ways steps =
    ◌∙◌ {A = List (ℕ × ℕ)} c.in_ok-extend_from_slice.ensures.items
    (λ i. (◌∙◌ {A = List (ℕ × ℕ)} c.in_ok-steps.ensures (ap (λ (l : List (ℕ × ℕ)). map turned l) c.as_slice.ensures.value)) i ++ c.as_slice-2.ensures.value i) in
    subst (AreWithin c.args.count) (sym is) (both_within c.args.count steps c.requires.within)

pub returns-clause-search : goal.returns-clause-search
returns-clause-search c = record {
  around = c.in_ok-ways_of.ensures.ways;
  ready = c.in_ok-new.ensures;
  sized = omega (arith, c.in_ok-vec.ensures.len);
}

pub returns-clause-steps : goal.returns-clause-steps
returns-clause-steps c =
    ◌∙◌ {A = List (ℕ × ℕ)} c.in_ok-ways_of.ensures.steps
    (◌∙◌ {A = List (ℕ × ℕ)} c.in_ok-extend_from_slice.ensures.items
    (λ i. (◌∙◌ {A = List (ℕ × ℕ)} c.in_ok-steps.ensures (ap (λ (l : List (ℕ × ℕ)). map turned l) c.as_slice.ensures.value)) i ++ c.as_slice-2.ensures.value i))
