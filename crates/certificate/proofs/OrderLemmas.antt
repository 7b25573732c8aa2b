-- The second test, put together.
use Rattle.std.proofs.Common.{◌≡◌, ℕ, ◌<◌, List, length, refl, sym, ap, ◌∙◌, subst, get_or, map, Option}
use Rattle.std.specs.Prelude.{Contains}
use Rattle.std.proofs.lemmas.List.{get_or_default}
use Rattle.std.proofs.lemmas.List.Elements.{Contains-get_or}
use Rattle.graphs.specs.Graphs.{AreConnected}
use Rattle.graphs.specs.Linearizations.{IsTopological}
use Rattle.graphs.specs.Certificates.{Txs, graph_of, HasOrder}
use Rattle.graphs.specs.Certificates as model
use Rattle.certificate.specs.declared.owned.Part.{Part}
use Rattle.places.specs.Chains.{pair_at, AreWithin}
use Rattle.certificate.specs.Groups.{AreGroups}
use Rattle.certificate.specs.Orders.{IsOrderOf, AreRanks, Rise, AreOfOneGroup}
use Rattle.certificate.specs.Parts.{part_of, parts_of, order_of, ids_at}
use Rattle.places.specs.Places.{ArePlaces}
use Rattle.certificate.specs.Places.{named}
use Rattle.certificate.specs.Tables.{names_of}
use Rattle.certificate.proofs.PlaceLemmas.{places_distinct}
use Rattle.certificate.proofs.Labels.{from, to, connected_named, connected_placed}
use Rattle.certificate.proofs.Seats.{stands, stood, AreKnown}
use Rattle.certificate.proofs.PartLemmas.{ids_here, order_has, order_same, part_at, contains_part, some_part}

pub order_part : (txs : Txs) (edges : List (ℕ × ℕ)) (parts : List Part)
    → HasOrder (graph_of txs edges) (parts_of parts) → IsOrderOf (names_of txs) (order_of parts)
order_part txs edges parts h =
    let t = subst (λ l. IsTopological (graph_of txs edges) l) (order_same parts) h.topological in
    record { once = t.once; members = t.names }

pub rise_part : (txs : Txs) (pairs : List (ℕ × ℕ)) (parts : List Part) (ranks : List ℕ)
    → AreWithin (length (names_of txs)) pairs → AreRanks (names_of txs) (order_of parts) ranks
    → HasOrder (graph_of txs (map (named (names_of txs)) pairs)) (parts_of parts) → Rise ranks pairs
rise_part txs pairs parts ranks within r h k in' =
    let names = names_of txs in
    let t = subst (λ l. IsTopological (graph_of txs (map (named names) pairs)) l) (order_same parts) h.topological in
    let w = within k (0, 0) in' in
    let p = r.stands (pair_at pairs k).0 w.0 in
    let q = r.stands (pair_at pairs k).1 w.1 in
    stood (order_of parts) (get_or ranks (pair_at pairs k).0 0) (get_or ranks (pair_at pairs k).1 0)
    (get_or names (pair_at pairs k).0 0) (get_or names (pair_at pairs k).1 0) t.once p.0 q.0 p.1 q.1
    (t.parents_first _ _ (to names pairs (pair_at pairs k).0 (pair_at pairs k).1 (Contains-get_or pairs k (0, 0) in')))

-- two names of a part are in one component
part_together : (txs : Txs) (edges : List (ℕ × ℕ)) (parts : List Part) → HasOrder (graph_of txs edges) (parts_of parts) → (k : ℕ)
    → k < length parts → (a b : ℕ) → Contains (ids_at parts k) a → Contains (ids_at parts k) b → AreConnected edges a b
part_together txs edges parts o k in' a b a_in b_in =
    let (it, it_is) = some_part parts k in' in
    let ids = ids_here parts k it in' it_is in
    o.together (part_of it) (contains_part parts k it in' it_is) a b (subst (λ l. Contains l a) (sym ids) a_in) (subst (λ l. Contains l b) (sym ids) b_in)

pub groups_part : (txs : Txs) (find : ℕ → Option ℕ) (pairs : List (ℕ × ℕ)) (parts : List Part) (groups : List ℕ)
    → ArePlaces (names_of txs) find → AreWithin (length (names_of txs)) pairs → AreGroups pairs groups → length groups ≡ length (names_of txs)
    → HasOrder (graph_of txs (map (named (names_of txs)) pairs)) (parts_of parts) → (k : ℕ) → k < length parts → AreOfOneGroup find groups (ids_at parts k)
groups_part txs find pairs parts groups h within g size o k in' a b p q a_in b_in p_is q_is =
    let names = names_of txs in
    let ps = h.sound a p p_is in
    let qs = h.sound b q q_is in
    let p_in : p < length groups = subst (λ n. p < n) (sym size) ps.0 in
    let q_in : q < length groups = subst (λ n. q < n) (sym size) qs.0 in
    let joined = part_together txs (map (named names) pairs) parts o k in' a b a_in b_in in
    let placed = connected_placed names pairs p q (record { distinct = places_distinct names find h; within = within }) ps.0 qs.0
    (subst (λ x. AreConnected (map (named names) pairs) x (get_or names q 0)) (sym ps.1)
    (subst (λ y. AreConnected (map (named names) pairs) a y) (sym qs.1) joined)) in
    (g.exact p q p_in q_in).1 placed

pub known_names : (txs : Txs) (find : ℕ → Option ℕ) (parts : List Part) (n : ℕ) → ArePlaces (names_of txs) find
    → IsOrderOf (names_of txs) (order_of parts) → n ≡ length (names_of txs) → AreKnown find (order_of parts) n
known_names txs find parts n h o size id here =
    let (p, p_in, is) = (o.members id).0 here in
    let name : get_or (names_of txs) p 0 ≡ id = get_or_default (names_of txs) p 0 id p_in ∙ is in
    (p, subst (λ m. p < m) (sym size) p_in, ap find (sym name) ∙ h.complete p p_in)

pub has_order : (txs : Txs) (find : ℕ → Option ℕ) (pairs : List (ℕ × ℕ)) (parts : List Part) (ranks groups : List ℕ)
    → ArePlaces (names_of txs) find → AreWithin (length (names_of txs)) pairs → IsOrderOf (names_of txs) (order_of parts)
    → AreRanks (names_of txs) (order_of parts) ranks → Rise ranks pairs → AreGroups pairs groups
    → length groups ≡ length (names_of txs) → ((k : ℕ) → k < length parts → AreOfOneGroup find groups (ids_at parts k))
    → HasOrder (graph_of txs (map (named (names_of txs)) pairs)) (parts_of parts)
has_order txs find pairs parts ranks groups h within o r rise g size all =
    let names = names_of txs in
    let known = known_names txs find parts (length names) h o refl in
    let t : IsTopological (graph_of txs (map (named names) pairs)) (order_of parts) = record {
      once = o.once;
      names = o.members;
      parents_first =
          λ a b edge.
          let f = from names pairs a b within edge in
          let (k, in', e) = f.here in
          let e' : ◌≡◌ {A = ℕ × ℕ} (pair_at pairs k) (f.p, f.q) = get_or_default pairs k (0, 0) (f.p, f.q) in' ∙ e in
          let less : get_or ranks f.p 0 < get_or ranks f.q 0 = subst (λ (x : ℕ × ℕ). get_or ranks x.0 0 < get_or ranks x.1 0) e' (rise k in') in
          let p = r.stands f.p f.p_in in
          let q = r.stands f.q f.q_in in
          stands (order_of parts) (get_or ranks f.p 0) (get_or ranks f.q 0) a b less q.0 (p.1 ∙ f.p_is) (q.1 ∙ f.q_is);
    } in
    record {
      topological = subst (λ l. IsTopological (graph_of txs (map (named names) pairs)) l) (sym (order_same parts)) t;
      together =
          λ part here a b a_in b_in.
          let at = part_at parts part here in
          let ids : part.ids ≡ ids_at parts at.k = ap (λ (x : model.Part). x.ids) at.is ∙ ids_here parts at.k at.it at.within at.here in
          let a_here = subst (λ l. Contains l a) ids a_in in
          let b_here = subst (λ l. Contains l b) ids b_in in
          let (p, p_in, p_is) = known a (order_has parts at.k a at.within a_here) in
          let (q, q_in, q_is) = known b (order_has parts at.k b at.within b_here) in
          let same = all at.k at.within a b p q a_here b_here p_is q_is in
          let joined = (g.exact p q (subst (λ n. p < n) (sym size) p_in) (subst (λ n. q < n) (sym size) q_in)).0 same in
          let named_too = connected_named names pairs p q joined in
          subst (λ x. AreConnected (map (named names) pairs) x b) (h.sound a p p_is).1
          (subst (λ y. AreConnected (map (named names) pairs) (get_or names p 0) y) (h.sound b q q_is).1 named_too);
    }
