use Rattle.std.proofs.Common.{◌≡◌, ℕ, List, nat_eq, ap, sym, subst}
use Rattle.std.specs.Prelude.{Contains, ◌↔◌}
use Rattle.std.specs.HashMap as hash
use Rattle.graphs.specs.Graphs.{IsAncestor}
use Rattle.links.specs.Kept.{names_of}
use Rattle.links.specs.Links.{Links}
use Rattle.links.proofs.Walking.{reaches_up}
use Rattle.links.proofs.links.Links.reaches.Goals as goal

pub returns-clause-ancestor : goal.returns-clause-ancestor
returns-clause-ancestor c =
    let inside = c.self.inside in
    let maps = c.self.invariant.maps_are in
    let pairs : inside.pairs.items ≡ c.args.self.now.pairs = ap (λ (l : Links). l.pairs) c.self.view_is in
    let told = c.has_place.ensures in
    let found : List ℕ = c.walk.new.walker.found.items in
    let means : Contains found c.place_of-above.result ↔ IsAncestor c.args.self.now.pairs c.args.a c.args.b =
    subst (λ (ps : List (ℕ × ℕ)). Contains found c.place_of-above.result ↔ IsAncestor ps c.args.a c.args.b) pairs
    (reaches_up (names_of inside.txs.items) (hash.get nat_eq inside.maps.places) inside.pairs.items inside.maps.up.steps.items c.args.a c.args.b
    c.place_of-above.result c.place_of-below.result found maps.places maps.steps c.place_of-above.ensures c.place_of-below.ensures c.walk.ensures.found) in
    let list : c.as_slice.result.now ≡ found = c.as_slice.ensures.value in (
      (λ yes. means.0 (subst (λ (xs : List ℕ). Contains xs c.place_of-above.result) list (told.0 yes))),
      (λ walk. told.1 (subst (λ (xs : List ℕ). Contains xs c.place_of-above.result) (sym list) (means.1 walk))),
    )
