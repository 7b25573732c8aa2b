-- Graphs with the same names, sums and ancestors: one's components, closed sets, corners, orders and certificates are the other's.
use Rattle.std.proofs.Common.{◌≡◌, ℕ, suc, zero, List, [], ◌∷◌, ◌++◌, map, inl, inr, ℤ, pos, ◌-ℤ◌, refl, sym, ap, ◌∙◌, subst, arith}
use Rattle.std.specs.Prelude.{Contains, flat_map}
use Rattle.std.proofs.lemmas.Int.{ints}
use Rattle.std.proofs.lemmas.List.Elements.{Contains-append_left}
use Rattle.arithmetic.proofs.Sums.{total_along, total-pos}
use Rattle.fee_rate.proofs.Orders.{same_sum}
use Rattle.lists.proofs.Flats.{flat_has}
use Rattle.lists.proofs.Distinct.{stays_before}
use Rattle.lists.proofs.Entries.{Contains-head, Contains-later}
use Rattle.lists.specs.Distinct.{AreDistinct}
use Rattle.fee_rate.specs.declared.rates.Sum.{Sum}
use Rattle.fee_rate.specs.Rates.{AtMost}
use Rattle.graphs.specs.declared.names.Flow.{Flow}
use Rattle.graphs.specs.Graphs.{Graph, Walk, IsAncestor, Trail, AreConnected, IsCover, IsGraph}
use Rattle.graphs.specs.Rates.{sums, Falls}
use Rattle.graphs.specs.Linearizations.{IsClosedWithin, IsTopological, StandsBefore, AreChunks, IsTogether, IsUnderDiagram, IsOptimal}
use Rattle.graphs.specs.Certificates.{Part, Certifies, IsCertificate, weight_in, given, gotten}
use Rattle.graphs.specs.Diagrams.{AreCorners}
use Rattle.graphs.specs.Alikes.{AreAlike}
use Rattle.graphs.proofs.WalkLemmas.{walk_of_pair, AreConnected-sym, AreConnected-trans, walk_connects}
use Rattle.graphs.proofs.TangentLemmas.{joined}
use Rattle.graphs.proofs.BestLemmas.{sums_same_members, joined-Contains}
use Rattle.graphs.proofs.DropLemmas.{up_walk}

-- where rates agree on names, their sums do
pub sums_along : (ra rb : ℕ → Sum) (ids : List ℕ) → ((id : ℕ) → Contains ids id → ra id ≡ rb id) → sums ra ids ≡ sums rb ids
sums_along ra rb ids same =
    let fees : (sums ra ids).fee ≡ (sums rb ids).fee = total_along (λ id. (ra id).fee) (λ id. (rb id).fee) ids (λ id h. ap (λ (s : Sum). s.fee) (same id h)) in
    let sizes : (sums ra ids).size ≡ (sums rb ids).size = omega (
      arith,
      ints,
      total_along (λ id. pos (ra id).size) (λ id. pos (rb id).size) ids (λ id h. ap (λ (s : Sum). pos s.size) (same id h)),
      total-pos (λ id. (ra id).size) ids,
      total-pos (λ id. (rb id).size) ids,
    ) in
    same_sum (sums ra ids) (sums rb ids) fees sizes

pub maps_along : (ra rb : ℕ → Sum) (parts : List (List ℕ)) → ((ids : List ℕ) → Contains parts ids → sums ra ids ≡ sums rb ids)
    → map (sums ra) parts ≡ map (sums rb) parts
maps_along ra rb [] same = refl
maps_along ra rb (p ∷ parts) same = λ i. same p (Contains-head p parts) i ∷ maps_along ra rb parts (λ ids h. same ids (Contains-later p ids parts h)) i

-- a name before another that is before a third
pub stands_trans : (order : List ℕ) (a b c : ℕ) → AreDistinct order → StandsBefore order a b → StandsBefore order b c → StandsBefore order a c
stands_trans order a b c once first second = (
  second.0,
  second.1,
  second.2,
  stays_before first.0 first.1 second.0 (c ∷ second.1) a b (sym first.2 ∙ second.2) (subst AreDistinct second.2 once) second.3 first.3,
)

pub alike_back : (ra rb : ℕ → Sum) (a b : Graph) → AreAlike ra a rb b → AreAlike rb b ra a
alike_back ra rb a b alike = record {
  names = λ id. ((alike.names id).1, (alike.names id).0);
  sums = λ id h. sym (alike.sums id ((alike.names id).1 h));
  ancestors = λ x y. ((alike.ancestors x y).1, (alike.ancestors x y).0);
}

module _ (ra rb : ℕ → Sum) (a b : Graph) (alike : AreAlike ra a rb b) where
  pair_across : (x y : ℕ) → Contains a.pairs (x, y) → IsAncestor b.pairs x y
  pair_across x y pair = (alike.ancestors x y).0 (1, walk_of_pair a.pairs x y pair)

  pair_connects : (x y : ℕ) → Contains a.pairs (x, y) → AreConnected b.pairs x y
  pair_connects x y pair = let walk = pair_across x y pair in walk_connects b.pairs x y walk.0 walk.1

  trail_across : (x y n : ℕ) → Trail a.pairs x y n → AreConnected b.pairs x y
  trail_across x y zero same = (0, same)
  trail_across x y (suc n) trail = AreConnected-trans b.pairs x trail.0 y (trail_across x trail.0 n trail.1) (elim trail.2 [
    | inl down ↦ pair_connects trail.0 y down
    | inr up ↦ AreConnected-sym b.pairs y trail.0 (pair_connects y trail.0 up)
  ])

  pub connected_to : (x y : ℕ) → AreConnected a.pairs x y → AreConnected b.pairs x y
  connected_to x y trail = trail_across x y trail.0 trail.1

  pub cover_to : (x y : ℕ) → IsCover a.pairs x y → IsCover b.pairs x y
  cover_to x y cover = record {
    ancestor = (alike.ancestors x y).0 cover.ancestor;
    other = cover.other;
    between = λ c above below. cover.between c ((alike.ancestors x c).1 above) ((alike.ancestors c y).1 below);
  }

  pub closed_to : IsGraph a → (set : List ℕ) → IsClosedWithin a.pairs a.names set → IsClosedWithin b.pairs b.names set
  closed_to graph set closed = record {
    once = closed.once;
    inside = λ id h. (alike.names id).0 (closed.inside id h);
    parents = λ parent child pair there h.
        let walk = (alike.ancestors parent child).1 (1, walk_of_pair b.pairs parent child pair) in
        up_walk a.pairs set (λ p c link here. closed.parents p c link (graph.ends p c link).0 here) parent child walk.0 walk.1 h;
  }

  -- sums over names are the same
  pub sums_to : (ids : List ℕ) → ((id : ℕ) → Contains ids id → Contains a.names id) → sums ra ids ≡ sums rb ids
  sums_to ids inside = sums_along ra rb ids (λ id h. alike.sums id (inside id h))

  all_sums : IsGraph a → IsGraph b → sums ra a.names ≡ sums rb b.names
  all_sums one other = sums_to a.names (λ id h. h) ∙ sums_same_members rb a.names b.names one.names other.names alike.names

  walk_stands : (order : List ℕ) → IsTopological a order → (x y n : ℕ) → Walk a.pairs x y (suc n) → StandsBefore order x y
  walk_stands order topological x y zero walk = subst (λ (z : ℕ). StandsBefore order z y) (sym walk.1) (topological.parents_first walk.0 y walk.2)
  walk_stands order topological x y (suc n) walk =
      stands_trans order x walk.0 y topological.once (walk_stands order topological x walk.0 n walk.1) (topological.parents_first walk.0 y walk.2)

  far_stands : IsGraph b → (order : List ℕ) → IsTopological a order → (x y n : ℕ) → Walk a.pairs x y n → Contains b.pairs (x, y) → StandsBefore order x y
  far_stands other order topological x y zero same pair = absurd (other.acyclic x 0 (x, refl, subst (λ (z : ℕ). Contains b.pairs (x, z)) (sym same) pair))
  far_stands other order topological x y (suc n) walk pair = walk_stands order topological x y n walk

  pub topological_to : IsGraph b → (order : List ℕ) → IsTopological a order → IsTopological b order
  topological_to other order topological = record {
    once = topological.once;
    names = λ id. ((λ h. (alike.names id).0 ((topological.names id).0 h)), (λ h. (topological.names id).1 ((alike.names id).1 h)));
    parents_first = λ parent child pair.
        let walk = (alike.ancestors parent child).1 (1, walk_of_pair b.pairs parent child pair) in
        far_stands other order topological parent child walk.0 walk.1 pair;
  }

  pub together_to : (part : List ℕ) → IsTogether a.pairs part → IsTogether b.pairs part
  together_to part together x y h k = connected_to x y (together x y h k)

-- ---- corners, orders and certificates

pub corners_to : (ra rb : ℕ → Sum) (a b : Graph) → AreAlike ra a rb b → IsGraph a → IsGraph b → (points : List (ℕ × ℤ)) → AreCorners ra a points
    → AreCorners rb b points
corners_to ra rb a b alike one other points corners = record {
  segments = corners.segments;
  between = corners.between;
  some = corners.some;
  falling = corners.falling;
  whole = corners.whole ∙ all_sums ra rb a b alike one other;
  reached = λ before after e.
      let found = corners.reached before after e in
      (found.0, closed_to ra rb a b alike one found.0 found.1, sym (sums_to ra rb a b alike found.0 found.1.inside) ∙ found.2);
  highest = λ set closed.
      let here = closed_to rb ra b a (alike_back ra rb a b alike) other set closed in
      subst (λ (point : Sum). IsUnderDiagram corners.segments point) (sums_to ra rb a b alike set here.inside) (corners.highest set here);
}

chunks_to : (ra rb : ℕ → Sum) (a b : Graph) → AreAlike ra a rb b → (parts : List (List ℕ)) → IsTopological a (joined parts)
    → AreChunks ra a.pairs parts → AreChunks rb b.pairs parts
chunks_to ra rb a b alike parts order chunks =
    let member : (ids : List ℕ) → Contains parts ids → (id : ℕ) → Contains ids id → Contains a.names id =
    λ ids h id there. (order.names id).0 (joined-Contains parts ids id h there) in
    record {
      filled = chunks.filled;
      falling = subst Falls (maps_along ra rb parts (λ ids h. sums_to ra rb a b alike ids (member ids h))) chunks.falling;
      fronts = λ part front rest h e filled.
          let inside : (id : ℕ) → Contains front id → Contains a.names id =
          λ id there. member part h id (subst (λ zs. Contains zs id) (sym e) (Contains-append_left front rest id there)) in
          subst (λ (s : Sum). AtMost s (sums rb part)) (sums_to ra rb a b alike front inside)
          (subst (λ (s : Sum). AtMost (sums ra front) s) (sums_to ra rb a b alike part (member part h)) (chunks.fronts part front rest h e filled));
      together = λ part h. together_to ra rb a b alike part (chunks.together part h);
    }

pub optimal_to : (ra rb : ℕ → Sum) (a b : Graph) → AreAlike ra a rb b → IsGraph a → IsGraph b → (parts : List (List ℕ)) → IsOptimal ra a parts
    → IsOptimal rb b parts
optimal_to ra rb a b alike one other parts optimal = record {
  order = topological_to ra rb a b alike other (joined parts) optimal.order;
  chunks = chunks_to ra rb a b alike parts optimal.order optimal.chunks;
  best = λ front rest order.
      let here = topological_to rb ra b a (alike_back ra rb a b alike) one (front ++ rest) order in
      let lists =
      maps_along ra rb parts (λ ids h. sums_to ra rb a b alike ids (λ id there. (optimal.order.names id).0 (joined-Contains parts ids id h there))) in
      let fronts = sums_to ra rb a b alike front (λ id h. (here.names id).0 (Contains-append_left front rest id h)) in
      subst (λ zs. IsUnderDiagram zs (sums rb front)) lists (subst (λ (s : Sum). IsUnderDiagram (map (sums ra) parts) s) fronts (optimal.best front rest here));
}

certifies_to : (ra rb : ℕ → Sum) (a b : Graph) → AreAlike ra a rb b → (ids : List ℕ) (flows : List Flow) → ((id : ℕ) → Contains ids id → Contains a.names id)
    → Certifies ra (IsCover a.pairs) ids flows → Certifies rb (IsCover b.pairs) ids flows
certifies_to ra rb a b alike ids flows inside certified = record {
  once = certified.once;
  links = λ flow h. cover_to ra rb a b alike flow.parent flow.child (certified.links flow h);
  inside = certified.inside;
  some = certified.some;
  balanced = λ id h.
      subst (λ (own : Sum). weight_in (sums rb ids) own ≡ pos (given flows id) -ℤ pos (gotten flows id)) (alike.sums id (inside id h))
      (subst (λ (whole : Sum). weight_in whole (ra id) ≡ pos (given flows id) -ℤ pos (gotten flows id))
      (sums_to ra rb a b alike ids inside) (certified.balanced id h));
}

pub certificate_to : (ra rb : ℕ → Sum) (a b : Graph) → AreAlike ra a rb b → IsGraph b → (parts : List Part)
    → IsCertificate ra a (IsCover a.pairs) parts → IsCertificate rb b (IsCover b.pairs) parts
certificate_to ra rb a b alike other parts certificate =
    let member : (part : Part) → Contains parts part → (id : ℕ) → Contains part.ids id → Contains a.names id =
    λ part h id there. (certificate.order.topological.names id).0 (flat_has (λ (p : Part). p.ids) parts part id h there) in
    record {
      filled = certificate.filled;
      order = record {
        topological = topological_to ra rb a b alike other (flat_map (λ part. part.ids) parts) certificate.order.topological;
        together = λ part h. together_to ra rb a b alike part.ids (certificate.order.together part h);
      };
      falling = record {
        summed = λ part h. certificate.falling.summed part h ∙ sums_to ra rb a b alike part.ids (member part h);
        falling = certificate.falling.falling;
      };
      flows = λ part h. certifies_to ra rb a b alike part.ids part.flows (member part h) (certificate.flows part h);
    }
