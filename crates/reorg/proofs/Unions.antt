-- Links of all components of a graph, one behind the other, make its ancestors.
use Rattle.std.proofs.Common.{◌≡◌, ◌≢◌, ◌↔◌, ℕ, suc, zero, true, List, [], ◌∷◌, ◌++◌, map, flat_map, Contains, append-nil, append_assoc, sym, ap, ◌∙◌, subst, inl, inr}
use Rattle.std.specs.Borrow.{Bor}
use Rattle.std.proofs.lemmas.List.{map-append}
use Rattle.std.proofs.lemmas.List.Elements.{Contains-push_cases}
use Rattle.lists.proofs.Entries.{map-Contains, Contains-map}
use Rattle.lists.proofs.Flats.{flat_has, flat_of}
use Rattle.graphs.specs.Certificates.{Txs}
use Rattle.graphs.specs.Closing.{IsClosureOf}
use Rattle.graphs.specs.Closures.{Closure, is_member, is_ancestor, IsOrder}
use Rattle.graphs.specs.Graphs.{Walk, IsAncestor, HasNoCycle}
use Rattle.graphs.proofs.ClosingLemmas.{order_from}
use Rattle.graphs.proofs.WalkLemmas.{walk_of_pair, walk_within}
use Rattle.graph_model.specs.States.{State}
use Rattle.cluster.specs.Clusters.{Cluster}
use Rattle.links.specs.Links.{Links, AreLinks}
use Rattle.record.specs.Kept.{unordered}
use Rattle.record.specs.Leaving.{bare}
use Rattle.record.specs.Restoring.{PutsBehind}
use Rattle.record.proofs.Listed.{above_of, above_to}
use Rattle.levels.specs.Views.{AreItsClusters}
use Rattle.tx_graph.specs.Kept as graphs

-- Pairs of these components, each told by links.
pub record ArePut (done : List Cluster) (pairs : List (ℕ × ℕ)) : Type 0 where
  pub told : List Links
  pub each : (l : Links) → Contains told l → AreLinks l
  pub like : map bare done ≡ map unordered told
  pub pairs_are : pairs ≡ flat_map (λ (l : Links). l.pairs) told

flat_push : {A B : Type 0} (f : A → List B) (xs : List A) (x : A) → flat_map f (xs ++ x ∷ []) ≡ flat_map f xs ++ f x
flat_push f [] x = append-nil (f x)
flat_push f (y ∷ ys) x = ap (λ zs. f y ++ zs) (flat_push f ys x) ∙ sym (append_assoc (f y) (flat_map f ys) (f x))

-- and of one more
pub more_put : (done : List Cluster) (c : Cluster) (txs new_txs : Txs) (pairs new : List (ℕ × ℕ)) → ArePut done pairs
    → PutsBehind c txs pairs new_txs new → ArePut (done ++ c ∷ []) new
more_put done c txs new_txs pairs new put puts = record {
  told = put.told ++ puts.links ∷ [];
  each = λ l here. elim (Contains-push_cases put.told puts.links l here) [
    | inl before ↦ put.each l before
    | inr same ↦ subst AreLinks same puts.whole
  ];
  like =
      map-append bare done (c ∷ []) ∙ ap (λ (xs : List Cluster). xs ++ bare c ∷ []) put.like
      ∙ ap (λ (x : Cluster). map unordered put.told ++ x ∷ []) (sym puts.tells)
      ∙ sym (map-append unordered put.told (puts.links ∷ []));
  pairs_are =
      puts.pairs_are ∙ ap (λ (ps : List (ℕ × ℕ)). ps ++ puts.links.pairs) put.pairs_are
      ∙ sym (flat_push (λ (l : Links). l.pairs) put.told puts.links);
}

-- ---- a walk over components

abbrev now : Bor Cluster → Cluster
now x = x.now

-- one more was given
pub one_given : (given : List (Bor Cluster)) (c : Bor Cluster) (old rest : List Cluster) → old ≡ c.now ∷ rest
    → map (λ (x : Bor Cluster). x.now) given ++ old ≡ map (λ (x : Bor Cluster). x.now) (given ++ c ∷ []) ++ rest
one_given given c old rest step =
    ap (λ (xs : List Cluster). map now given ++ xs) step ∙ sym (append_assoc (map now given) (c.now ∷ []) rest)
    ∙ ap (λ (xs : List Cluster). xs ++ rest) (sym (map-append now given (c ∷ [])))

-- none is to come
pub all_given : (given : List (Bor Cluster)) (rest : List Cluster) → rest ≡ []
    → map (λ (x : Bor Cluster). x.now) given ++ rest ≡ map (λ (x : Bor Cluster). x.now) given
all_given given rest none = ap (λ (xs : List Cluster). map now given ++ xs) none ∙ append-nil (map now given)

-- ---- all components

module _ (kept : graphs.Kept) (some : (state : State) × graphs.StandsFor kept state) (done : List Cluster)
    (all : AreItsClusters kept.levels.main.graph done) (pairs : List (ℕ × ℕ)) (put : ArePut done pairs) where
  abbrev main : Closure
  main = kept.levels.main.graph

  order : IsOrder (is_member main) (is_ancestor main)
  order = order_from (is_member main) (is_ancestor main) some.0.plain.main some.1.plain.main.closure some.1.plain.main.among

  -- links and components tell each other
  its_links : (c : Cluster) → Contains done c → (l : Links) × Contains put.told l × (unordered l ≡ bare c)
  its_links c here = map-Contains unordered put.told (bare c) (subst (λ (cs : List Cluster). Contains cs (bare c)) put.like (Contains-map bare done c here))

  its_component : (l : Links) → Contains put.told l → (c : Cluster) × Contains done c × (bare c ≡ unordered l)
  its_component l here =
      map-Contains bare done (unordered l) (subst (λ (cs : List Cluster). Contains cs (unordered l)) (sym put.like) (Contains-map unordered put.told l here))

  -- a pair leads to another name, below the first
  pair_leads : (a b : ℕ) → Contains pairs (a, b) → (is_ancestor main a b ≡ true) × (a ≢ b)
  pair_leads a b here =
      let (l, there, pair) = flat_of (λ (l : Links). l.pairs) put.told (a, b)
      (subst (λ (ps : List (ℕ × ℕ)). Contains {X = ℕ × ℕ} ps (a, b)) put.pairs_are here) in
      let (c, in_done, same) = its_component l there in
      let are = put.each l there in
      let b_in : Contains c.names b = subst (λ (s : Cluster). Contains s.names b) (sym same) (are.graph_is.ends a b pair).1 in
      let walk = walk_of_pair l.pairs a b pair in (
        (all.each c in_done b b_in).above a b b_in ∙ above_to l are (bare c) (sym same) b b_in a (1, walk),
        λ is. are.graph_is.acyclic a 0 (subst (λ x. Walk l.pairs a x 1) (sym is) walk),
      )

  walk_leads : (a b n : ℕ) → Walk pairs a b n → is_member main b ≡ true → is_ancestor main a b ≡ true
  walk_leads a b zero same member = subst (λ x. is_ancestor main x b ≡ true) (sym same) (order.reflexive b member)
  walk_leads a b (suc n) (c, walk, pair) member =
      let leads = pair_leads c b pair in order.transitive a c b (walk_leads a c n walk (order.among c b leads.0).0) leads.0

  no_cycle : HasNoCycle pairs
  no_cycle a n (c, walk, pair) =
      let leads = pair_leads c a pair in
      leads.1 (order.antisymmetric c a leads.0 (walk_leads a c n walk (order.among c a leads.0).0))

  -- of the links of one component
  in_all : (l : Links) → Contains put.told l → (a b : ℕ) → Contains {X = ℕ × ℕ} l.pairs (a, b) → Contains {X = ℕ × ℕ} pairs (a, b)
  in_all l there a b pair =
      subst (λ (ps : List (ℕ × ℕ)). Contains {X = ℕ × ℕ} ps (a, b)) (sym put.pairs_are) (flat_has (λ (l : Links). l.pairs) put.told l (a, b) there pair)

  leads_walk : (a d : ℕ) → is_member main d ≡ true → is_ancestor main a d ≡ true → IsAncestor pairs a d
  leads_walk a d member up =
      let (c, in_done, d_in) = all.all d member in
      let (l, there, same) = its_links c in_done in
      let walk = above_of l (put.each l there) (bare c) same d d_in a (sym ((all.each c in_done d d_in).above a d d_in) ∙ up) in
      (walk.0, walk_within l.pairs pairs (in_all l there) a d walk.0 walk.1)

  pub closes_all : (names : List ℕ) → ((id : ℕ) → Contains names id ↔ (is_member main id ≡ true))
      → IsClosureOf main (record { names = names; pairs = pairs })
  closes_all names exact = record {
    names = exact;
    ends = λ a b pair. order.among a b (pair_leads a b pair).0;
    acyclic = no_cycle;
    ancestors = λ a d here there. (λ walk. walk_leads a d walk.0 walk.1 there, leads_walk a d there);
  }
