use Rattle.std.proofs.Common.{◌≡◌, ℕ, ℤ, List, length, map, get_or, nat_eq, refl, ap, sym, ◌∙◌, subst, arith}
use Rattle.std.specs.Prelude.{Contains, ◌↔◌}
use Rattle.std.specs.HashMap as hash
use Rattle.std.proofs.lemmas.List.{length-map}
use Rattle.lists.specs.Distinct.{AreDistinct}
use Rattle.graphs.specs.Unions.{IsKin}
use Rattle.links.specs.Kept.{coming, names_of}
use Rattle.links.specs.Links.{Links, Has}
use Rattle.links.proofs.Marks.{few_below}
use Rattle.places.proofs.Placing.{finds_name}
use Rattle.links.proofs.Walking.{found_kin, names_once}
use Rattle.links.proofs.links.Links.kin.Goals as goal

pub walk_all-requires-clause-ids : goal.walk_all-requires-clause-ids
walk_all-requires-clause-ids c id here =
    let inside = c.self.inside in
    finds_name (names_of inside.txs.items) (hash.get nat_eq inside.maps.places) id c.self.invariant.maps_are.places
    (subst (λ (l : Links). Has l id) (sym c.self.view_is) (c.requires id here))

pub walk_all-requires-clause-places : goal.walk_all-requires-clause-places
walk_all-requires-clause-places c id place at =
    let txs = c.self.inside.txs.items in
    omega (arith, (c.self.invariant.maps_are.places.sound id place at).0, length-map txs (λ (tx : ℕ × ℤ × ℕ). tx.0), c.self.invariant.ready.sized)

pub list_names-requires-clause-within : goal.list_names-requires-clause-within
list_names-requires-clause-within c place here =
    let low = c.walk_all.ensures.within place (subst (λ (xs : List ℕ). Contains xs place) c.as_slice-2.ensures.value here) in
    omega (arith, low, c.self.invariant.ready.sized, ap length c.as_slice.ensures.value)

pub list_names-requires-clause-room : goal.list_names-requires-clause-room
list_names-requires-clause-room c =
    let found = c.walk_all.new.walker.found.items in
    let few = few_below (length c.self.inside.walker.marks.items) found c.walk_all.ensures.found.once c.walk_all.ensures.within in
    omega (arith, few, ap length c.as_slice-2.ensures.value, c.self.invariant.ready.sized, c.self.invariant.names)

pub returns : goal.returns
returns c =
    let inside = c.self.inside in
    let txs = inside.txs.items in
    let maps = c.self.invariant.maps_are in
    let find = hash.get nat_eq inside.maps.places in
    let ids = c.args.ids.now in
    let kin = c.args.kin in
    let found = c.walk_all.new.walker.found.items in
    let nm : ℕ → ℕ = λ q. get_or (names_of txs) q 0 in
    let pairs : inside.pairs.items ≡ c.args.self.now.pairs = ap (λ (l : Links). l.pairs) c.self.view_is in
    let named : c.list_names.new.listed.items ≡ map nm found =
    ◌∙◌ {A = List ℕ} c.list_names.ensures.names
    (λ i. map (λ q. get_or (names_of (c.as_slice.ensures.value i)) q 0) (c.as_slice-2.ensures.value i)) in
    let shown : coming c.new.result ≡ c.list_names.new.listed.items = ◌∙◌ {A = List ℕ} c.new.ensures c.as_slice-3.ensures.value in
    let listed : coming c.new.result ≡ map nm found = ◌∙◌ {A = List ℕ} shown named in
    let placed = λ (id : ℕ) (here : Contains ids id). finds_name (names_of txs) find id maps.places (subst (λ (l : Links). Has l id) (sym c.self.view_is) (c.requires id here)) in
    let finds = found_kin kin txs inside.pairs.items inside.maps ids found maps placed c.walk_all.ensures.found in
    let once = names_once (names_of txs) find found maps.places c.walk_all.ensures.found.once
    (λ p here. omega (arith, c.walk_all.ensures.within p here, c.self.invariant.ready.sized, length-map txs (λ (tx : ℕ × ℤ × ℕ). tx.0))) in (
      (refl, λ _. tt, c.self.view_is),
      record {
        same = tt;
        exact = λ a. subst (λ (xs : List ℕ). Contains xs a ↔ ((id : ℕ) × Contains ids id × IsKin kin c.args.self.now.pairs a id)) (sym listed)
            (subst (λ (ps : List (ℕ × ℕ)). Contains (map nm found) a ↔ ((id : ℕ) × Contains ids id × IsKin kin ps a id)) pairs (finds a));
        once = subst AreDistinct (sym listed) once;
      },
    )
