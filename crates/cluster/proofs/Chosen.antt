-- The component that is taken out next.
use Rattle.std.proofs.Common.{◌≡◌, ℕ, ◌<◌, ◌≤◌, true, List, [], map, length, slice_index, Contains, inl, inr, ◌↔◌, refl, sym, ap, ◌∙◌, subst, subst₂, arith, true≢false}
use Rattle.std.specs.Ordering.{nat_cmp}
use Rattle.std.specs.FinSet as set
use Rattle.lists.proofs.Distinct.{one_place}
use Rattle.lists.proofs.Walks.{Walk-map, Walk-push}
use Rattle.lists.specs.Walks.{Walk}
use Rattle.bitset.specs.Places.{places, IsLeast, IsWithin}
use Rattle.graphs.specs.Closures.{Closure, is_ancestor, IsNear, IsRelated}
use Rattle.cluster.specs.Changes.{IsChosen, AreNearLeft, IsLeft}
use Rattle.cluster.specs.Clusters.{Cluster, IsCluster}
use Rattle.cluster.specs.Named.{named, IsNamed}
use Rattle.cluster.proofs.Bounds.{IsOneOf}
use Rattle.cluster.proofs.Kept.{related_named, place_member}
use Rattle.cluster.proofs.Lists.{chosen_once, names_chosen}
use Rattle.cluster.proofs.Names.{named-member, member-stands, named-ancestor}
use Rattle.lists.proofs.Entries.{Contains-map}
use Rattle.bitset.specs.Sets.{contains-empty}
use Rattle.cluster.proofs.Splits.{Splitting, IsDoneAt, component_inside, component_whole}
use Rattle.std.proofs.Common.{All}

module _ (n : ℕ) (names : List ℕ) (g : Closure) (kept : IsNamed n names g) (gone : List ℕ) (rest chosen : set.FinSet nat_cmp)
    (parts : List Cluster) (first : ℕ) (so : Splitting n names g gone rest parts) (least : IsLeast rest first)
    (is : (p : ℕ) → (set.contains chosen p ≡ true) ↔ Walk (IsNear g rest) first p) where
  abbrev ids : List ℕ
  ids = map (slice_index names) (places n chosen)

  in_rest : (p : ℕ) → set.contains chosen p ≡ true → set.contains rest p ≡ true
  in_rest p here = component_inside g rest chosen first least.member is p here

  pub chosen_within : IsWithin (length names) chosen
  chosen_within p here = (so.among p (in_rest p here)).0

  pub chosen_some : (p : ℕ) × (set.contains chosen p ≡ true)
  chosen_some = (first, (is first).1 ([], refl))

  bound : IsWithin n chosen
  bound p here = let low : p < length names = chosen_within p here in let few : length names ≤ n = kept.few in omega arith

  at_chosen : (id : ℕ) → Contains ids id → IsChosen names chosen id
  at_chosen id here = (names_chosen n names chosen chosen_within bound id).0 here

  held : (p : ℕ) → set.contains chosen p ≡ true → Contains ids (slice_index names p)
  held p here = (names_chosen n names chosen chosen_within bound (slice_index names p)).1 (p, chosen_within p here, here, refl)

  left_at : (p : ℕ) → set.contains rest p ≡ true → IsLeft (named names g) gone (slice_index names p)
  left_at p here = let at = so.among p here in (named-member names g kept.once p at.0, at.1)

  near_left : (p q : ℕ) → IsNear g chosen p q → AreNearLeft (named names g) gone (slice_index names p) (slice_index names q)
  near_left p q near = (left_at p (in_rest p near.from_within), left_at q (in_rest q near.to_within), related_named n names g kept p q near.related)

  joined : (a b : ℕ) → Contains ids a → Contains ids b → Walk (AreNearLeft (named names g) gone) a b
  joined a b here there =
      let one = at_chosen a here in
      let two = at_chosen b there in
      subst₂ (Walk (AreNearLeft (named names g) gone)) one.3 two.3
      (Walk-map (slice_index names) (IsNear g chosen) (AreNearLeft (named names g) gone) near_left one.0 two.0
      (component_whole g rest chosen first is one.0 two.0 one.2 two.2))

  spreads : (a b : ℕ) → Contains ids a → AreNearLeft (named names g) gone a b → Contains ids b
  spreads a b here near =
      let one = at_chosen a here in
      let two = member-stands names g kept.once b near.1.0 in
      let other : Contains gone (slice_index names two.0) → ⊥ = λ held. near.1.1 (subst (Contains gone) two.2 held) in
      let related : IsRelated g one.0 two.0 = elim near.2 [
        | inl up ↦ inl (sym (named-ancestor names g kept.once one.0 two.0 one.1 two.1)
            ∙ subst₂ (λ (x y : ℕ). is_ancestor (named names g) x y ≡ true) (sym one.3) (sym two.2) up)
        | inr down ↦ inr (sym (named-ancestor names g kept.once two.0 one.0 two.1 one.1)
            ∙ subst₂ (λ (x y : ℕ). is_ancestor (named names g) x y ≡ true) (sym two.2) (sym one.3) down)
      ] in
      let back : IsRelated g two.0 one.0 = elim related [ inl up ↦ inr up | inr down ↦ inl down ] in
      let there : set.contains rest two.0 ≡ true = so.alone two.0 one.0 two.1 other (in_rest one.0 one.2) back in
      subst (Contains ids) two.2 (held two.0 ((is two.0).1 (Walk-push (IsNear g rest) first one.0 two.0
      ((is one.0).0 one.2) (record { from_within = in_rest one.0 one.2; to_within = there; related = related }))))

  -- its names are a component of what is left
  pub chosen_one : IsOneOf (named names g) gone ids
  chosen_one = record {
    once = chosen_once n names chosen chosen_within kept.once;
    some = (slice_index names first, held first ((is first).1 ([], refl)));
    left = λ a here. (let at = at_chosen a here in subst (IsLeft (named names g) gone) at.3 (left_at at.0 (in_rest at.0 at.2)));
    whole = joined;
    alone = spreads;
  }

  -- and none of them is in an earlier part
  pub chosen_apart : (c : Cluster) → Contains parts c → IsCluster n c → (x : ℕ) → Contains c.names x → Contains ids x → ⊥
  chosen_apart c here cluster x old new =
      let done = so.there x x (c, here, cluster.order.reflexive x ((cluster.members x).1 old)) in
      let at = at_chosen x new in
      let same : done.first ≡ at.0 = one_place names done.first at.0 0 kept.once done.first_done.low at.1 (done.first_is ∙ sym at.3) in
      true≢false (sym (in_rest at.0 at.2) ∙ ap (set.contains rest) (sym same) ∙ done.first_done.taken)

-- ---- the parts so far

pub part_whole : (n : ℕ) (parts : List Cluster) → All (IsCluster n) parts → (c : Cluster) → Contains parts c → IsCluster n c
part_whole n parts all c here = subst (IsCluster n) here.2 (all here.0 c here.1)

-- where nothing is left to do, every name that is left is in a part
pub held_all : (n : ℕ) (names : List ℕ) (g : Closure) (kept : IsNamed n names g) (gone : List ℕ) (rest : set.FinSet nat_cmp) (parts : List Cluster)
    → Splitting n names g gone rest parts → rest ≡ set.empty
    → (id : ℕ) → IsLeft (named names g) gone id → (m : List ℕ) × Contains (map (λ (c : Cluster). c.names) parts) m × Contains m id
held_all n names g kept gone rest parts so none id left =
    let at = member-stands names g kept.once id left.0 in
    let done : IsDoneAt names gone rest at.0 =
    record { low = at.1; other = λ held. left.1 (subst (Contains gone) at.2 held); taken = ap (λ s. set.contains s at.0) none ∙ contains-empty at.0 } in
    let up = so.back id id (record {
      first = at.0;
      second = at.0;
      first_done = done;
      second_done = done;
      first_is = at.2;
      second_is = at.2;
      above = kept.order.reflexive at.0 (place_member n names g kept at.0 at.1);
    }) in
    let cluster : IsCluster n up.0 = part_whole n parts so.whole up.0 up.1 in
    let member : Contains up.0.names id = (cluster.members id).0 (cluster.order.among id id up.2).0 in
    (up.0.names, Contains-map (λ (c : Cluster). c.names) parts up.0 up.1, member)
