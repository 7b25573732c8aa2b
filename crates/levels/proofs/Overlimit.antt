-- Of the graphs that come so, which components are over the limits, and what the orders of their components take.
use Rattle.std.proofs.Common.{◌≡◌, ℕ, ℤ, ◌+◌, ◌<◌, ◌≤◌, List, [], ◌∷◌, ◌++◌, length, flat_map, Contains, inl, inr, ◌⊎◌, ◌↔◌, refl, sym, ap, ap₂, ◌∙◌, subst, arith}
use Rattle.std.specs.Prelude.{sum_by}
use Rattle.std.proofs.lemmas.List.{map-append}
use Rattle.std.proofs.lemmas.List.Elements.{Contains-append_left, Contains-append_right}
use Rattle.arithmetic.proofs.Sums.{sum_by_along}
use Rattle.lists.proofs.Entries.{Contains-cases, Contains-head, Contains-later, Contains-splits, first_of, none_in_empty, rest_of}
use Rattle.lists.proofs.Flats.{flat_has}
use Rattle.lists.proofs.Walks.{Walk-map}
use Rattle.graphs.specs.declared.names.Level.TheVariants.{Top}
use Rattle.graphs.specs.Certificates.{Txs}
use Rattle.graphs.specs.Closures.{Closure, IsRelated}
use Rattle.graphs.specs.Graphs.{Graph, AreConnected}
use Rattle.graphs.proofs.WalkLemmas.{AreConnected-sym, AreConnected-trans}
use Rattle.graph_model.specs.declared.names.Limits.{Limits}
use Rattle.graph_model.specs.declared.names.Refusal.{Refusal}
use Rattle.graph_model.specs.declared.names.Refusal.TheVariants.{ClusterSize, Count}
use Rattle.graph_model.specs.Limits.{Bounds, bounds_of}
use Rattle.graph_model.specs.Changes.{ids_of}
use Rattle.graph_model.specs.Refusals.{ToldOver}
use Rattle.graph_model.proofs.FirstLemmas.{first_in}
use Rattle.cluster.specs.Changes.{AreComponents, AreNearLeft, IsLeft}
use Rattle.links.specs.Links.{Links, Has}
use Rattle.links.specs.Kept.{names_of}
use Rattle.links.specs.Closing.{closure}
use Rattle.links.proofs.Changing.{has_member}
use Rattle.links.proofs.Closed.{orders}
use Rattle.record.specs.Leaving.{GrowsFor}
use Rattle.record.specs.Restoring as restoring
use Rattle.record.specs.Restoring.{size_in}
use Rattle.record.specs.Steps.{most_steps_fit_of, most_steps_within}
use Rattle.levels.specs.Gathered.{Gathers, MayReturn}
use Rattle.levels.specs.Restores.{AreComponentsWith, BringsNoneOver, BringsOver, ComesOf, IsFirstOver, IsInOver, RestoresWithin}
use Rattle.levels.specs.Shelves.{IsInOrder, Shelf, view_of}
use Rattle.levels.specs.Views.{graph_of}
use Rattle.levels.proofs.Arranged.{arranged, arranged_increasing, arranged_is, arranged_length, arranged_sum}
use Rattle.levels.proofs.Comings.{connected_in, connected_is, connected_next, has_name, linked_is, near_links, sized}
use Rattle.levels.proofs.Counts.{lists_once}

-- ---- lists

-- where an entry stands in a list of two: behind the whole first one, or in it
cut_front : (before : List ℕ) (x : ℕ) (after front back : List ℕ) → before ++ x ∷ after ≡ front ++ back
    → ((q : ℕ) → Contains front q → Contains before q) ⊎ ((rest : List ℕ) × (front ≡ before ++ x ∷ rest))
cut_front before x after [] back is = inl (λ q here. absurd (none_in_empty q here))
cut_front [] x after (y ∷ ys) back is = inr (ys, ap (λ (z : ℕ). z ∷ ys) (sym (first_of is)))
cut_front (b ∷ bs) x after (y ∷ ys) back is = elim (cut_front bs x after ys back (rest_of is)) [
  | inl all ↦ inl (λ q here. elim (Contains-cases y q ys here) [
    | inl same ↦ subst (Contains (b ∷ bs)) (first_of is ∙ same) (Contains-head b bs)
    | inr later ↦ Contains-later b q bs (all q later)
  ])
  | inr at ↦ inr (at.0, ap₂ (λ (z : ℕ) (zs : List ℕ). z ∷ zs) (sym (first_of is)) at.1)
]

-- lists as long and as large are told alike
told_same : (bounds : Bounds) (f h : ℕ → ℕ) (xs ys : List ℕ) (why : Refusal) → length xs ≡ length ys → sum_by f xs ≡ sum_by h ys
    → ToldOver bounds f xs why → ToldOver bounds h ys why
told_same bounds f h xs ys why long large told = elim told [
  | inl many ↦ inl (subst (λ n. bounds.count < n) long many.0, many.1 ∙ ap Count long)
  | inr big ↦ inr (
    subst (λ n. n ≤ bounds.count) long big.0,
    subst (λ n. bounds.size < n) large big.1,
    big.2 ∙ ap ClusterSize large,
  )
]

module _ (w : ℕ) (shelf : Shelf) (order : IsInOrder w shelf) (txs : Txs) (pairs : List (ℕ × ℕ)) (may : MayReturn shelf txs pairs) (outs : List ℕ)
    (links : Links) (g : Gathers shelf txs pairs outs links) (limits : Limits) where
  abbrev ids : List ℕ
  ids = ids_of txs

  abbrev old : Closure
  old = graph_of (view_of Top shelf)

  has_listed : (id : ℕ) → Contains ids id → Has links id
  has_listed id here = (has_name w shelf order txs pairs may outs links g id).1 (inl here)

  module _ (next : Graph) (size : ℕ → ℕ) (of : ComesOf old txs pairs next size) where
    connected : (a b : ℕ) → Has links a → AreConnected next.pairs a b ↔ AreConnected links.pairs a b
    connected = connected_is w shelf order txs pairs may outs links g next size of

    up_to : (a b : ℕ) → AreConnected links.pairs a b → AreConnected next.pairs a b
    up_to = connected_next w shelf order txs pairs may outs links g next size of

    reached : (a b : ℕ) → Has links a → AreConnected links.pairs a b → Has links b
    reached a b here trail =
        let up = up_to a b trail in (near_links w shelf order txs pairs may outs links g next size of a b up.0 here up.1).0

    sizes : (xs : List ℕ) → ((x : ℕ) → Contains xs x → Has links x) → sum_by (size_in links) xs ≡ sum_by size xs
    sizes xs inside =
        sum_by_along (size_in links) size xs (λ x here. sym (sized w shelf order txs pairs may outs links g next size of x (inside x here)))

    -- ---- components over the limits

    to_next : (id : ℕ) (why : Refusal) → Has links id → restoring.IsInOver limits links id why → IsInOver (bounds_of limits) size next id why
    to_next id why here (xs, once, exact, told) = (
      arranged xs,
      record {
        rising = arranged_increasing xs once;
        exact = λ x. (
          λ held. up_to id x ((exact x).0 ((arranged_is xs x).0 held)),
          λ trail. (arranged_is xs x).1 ((exact x).1 ((connected id x here).0 trail)),
        );
      },
      told_same (bounds_of limits) (size_in links) size xs (arranged xs) why (sym (arranged_length xs))
          (sizes xs (λ x held. reached id x here ((exact x).0 held)) ∙ sym (arranged_sum size xs)) told,
    )

    from_next : (id : ℕ) (why : Refusal) → Has links id → IsInOver (bounds_of limits) size next id why → restoring.IsInOver limits links id why
    from_next id why here (xs, lists, told) = (
      xs,
      lists_once xs lists,
      (λ x. (
        λ held. (connected id x here).0 ((lists.exact x).0 held),
        λ trail. (lists.exact x).1 (up_to id x trail),
      )),
      told_same (bounds_of limits) size (size_in links) xs xs why refl
          (sym (sizes xs (λ x held. reached id x here ((connected id x here).0 ((lists.exact x).0 held))))) told,
    )

    pub none_over : restoring.BringsNoneOver limits links → (id : ℕ) (why : Refusal) → Contains ids id → IsInOver (bounds_of limits) size next id why → ⊥
    none_over none id why here over = none id why (has_listed id here) (from_next id why (has_listed id here) over)

    -- a name before all others of its component that came in isn't the first
    not_late : (why : Refusal) (b : restoring.BringsOver limits links why) → ((q : ℕ) → Contains ids q → Contains b.first.before q) → ⊥
    not_late why b all =
        let here : Has links b.id = first_in (λ before id. (any : Refusal) × restoring.IsInOver limits links id any) (names_of links.txs) b.id b.first in
        let (m, listed, trail) = connected_in w shelf order txs pairs may outs links g b.id here in
        let (front, back, cut) = Contains-splits b.first.before m (all m listed) in
        let (xs, once, exact, told) = b.over in
        b.first.earlier front back m cut (
          why,
          (
            xs,
            once,
            (λ x. (
              λ held. AreConnected-trans links.pairs m b.id x trail ((exact x).0 held),
              λ other. (exact x).1 (AreConnected-trans links.pairs b.id m x (AreConnected-sym links.pairs m b.id trail) other),
            )),
            told,
          ),
        )

    pub first_over : (why : Refusal) → restoring.BringsOver limits links why → IsFirstOver (bounds_of limits) size next ids why
    first_over why b =
        let here : Has links b.id = first_in (λ before id. (any : Refusal) × restoring.IsInOver limits links id any) (names_of links.txs) b.id b.first in
        let behind : List ℕ = names_of (flat_map (λ (l : Links). l.txs) g.puts.told) in
        let whole : names_of links.txs ≡ ids ++ behind =
        ap names_of g.puts.txs_are ∙ map-append (λ (tx : ℕ × ℤ × ℕ). tx.0) txs (flat_map (λ (l : Links). l.txs) g.puts.told) in
        elim (cut_front b.first.before b.id b.first.after ids behind (sym b.first.cut ∙ whole)) [
          | inl all ↦ absurd (not_late why b all)
          | inr at ↦ record {
            id = b.id;
            first = record {
              before = b.first.before;
              after = at.0;
              cut = at.1;
              has = (why, to_next b.id why here b.over);
              earlier = λ front rest other cut (any, is).
                  let listed : Contains ids other =
                  subst (λ (ns : List ℕ). Contains ns other) (sym at.1)
                  (Contains-append_left b.first.before (b.id ∷ at.0) other
                  (subst (λ (ns : List ℕ). Contains ns other) (sym cut) (Contains-append_right front (other ∷ rest) other (Contains-head other rest)))) in
                  b.first.earlier front rest other cut (any, from_next other any (has_listed other listed) is);
            };
            over = to_next b.id why here b.over;
          }
        ]

    -- ---- steps

    left_is : (x : ℕ) → Has links x → IsLeft (closure links) [] x
    left_is x here = ((has_member links x).1 here, none_in_empty x)

    near : (x y : ℕ) → IsRelated (closure links) x y → AreNearLeft (closure links) [] x y
    near x y related =
        let among = (orders links g.whole).among in
        elim related [
          | inl up ↦ (((among x y up).0, none_in_empty x), ((among x y up).1, none_in_empty y), inl up)
          | inr down ↦ (((among y x down).1, none_in_empty x), ((among y x down).0, none_in_empty y), inr down)
        ]

    components : (lists : List (List ℕ)) → AreComponentsWith next ids lists → AreComponents (closure links) [] lists
    components lists are = record {
      once = are.once;
      exact = λ id. (
        λ held. let (m, listed, trail) = (are.exact id).0 held in
            left_is id (near_links w shelf order txs pairs may outs links g next size of m id trail.0 (has_listed m listed) trail.1).0,
        λ left.
            let (m, listed, trail) = connected_in w shelf order txs pairs may outs links g id ((has_member links id).0 left.0) in
            (are.exact id).1 (m, listed, up_to m id trail),
      );
      whole = λ list there a b one two.
          Walk-map (λ (x : ℕ). x) (IsRelated (closure links)) (AreNearLeft (closure links) []) near a b
          ((linked_is w shelf order txs pairs may outs links g a b).0 ((connected a b (has_in lists are list there a one)).0 ((are.whole list there a b one).0 two)));
      alone = λ list there a b one step.
          (are.whole list there a b one).1
          (up_to a b ((linked_is w shelf order txs pairs may outs links g a b).1 (b ∷ [], (step.2, refl))));
    }
      where
        has_in : (lists : List (List ℕ)) → AreComponentsWith next ids lists → (list : List ℕ) → Contains lists list → (a : ℕ) → Contains list a → Has links a
        has_in lists are list there a one =
            let (m, listed, trail) = (are.exact a).0 (flat_has (λ (xs : List ℕ). xs) lists list a there one) in
            (near_links w shelf order txs pairs may outs links g next size of m a trail.0 (has_listed m listed) trail.1).0

    costs : (lists : List (List ℕ)) → AreComponentsWith next ids lists
        → most_steps_fit_of limits (closure links) lists ≡ sum_by (λ list. most_steps_within limits (length list) (sum_by size list)) lists
    costs lists are =
        sum_by_along (λ list. most_steps_within limits (length list) (sum_by (size_in links) list))
        (λ list. most_steps_within limits (length list) (sum_by size list)) lists
        (λ list there. ap (λ (n : ℕ). most_steps_within limits (length list) n) (sizes list (λ a one.
        let (m, listed, trail) = (are.exact a).0 (flat_has (λ (xs : List ℕ). xs) lists list a there one) in
        (near_links w shelf order txs pairs may outs links g next size of m a trail.0 (has_listed m listed) trail.1).0)))

    pub within_next : (before after : ℕ) → GrowsFor limits (closure links) [] before after → (lists : List (List ℕ)) → AreComponentsWith next ids lists
        → after ≤ before + sum_by (λ list. most_steps_within limits (length list) (sum_by size list)) lists
    within_next before after grows lists are =
        let few = grows.few lists (components lists are) in
        let same = costs lists are in
        omega (arith, few, same)

  pub brings_over : (why : Refusal) → restoring.BringsOver limits links why → BringsOver limits old txs pairs why
  brings_over why b = record { strict = b.strict; told = λ next size of. first_over next size of why b }

  pub brings_none : restoring.BringsNoneOver limits links → BringsNoneOver limits old txs pairs
  brings_none none next size of id why here over = none_over next size of none id why here over

  pub restores_within : (before after : ℕ) → GrowsFor limits (closure links) [] before after → RestoresWithin limits old txs pairs before after
  restores_within before after grows = record {
    grew = grows.grew;
    few = λ next size lists of are. within_next next size of before after grows lists are;
  }
