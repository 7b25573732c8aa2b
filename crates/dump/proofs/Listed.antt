-- One name more is listed.
use Rattle.std.proofs.Common.{◌≡◌, ℕ, ℤ, ◌+◌, ◌<◌, List, [], ◌∷◌, ◌++◌, length, map, take, get_or, Contains, inl, inr, refl, sym, ap, subst, ◌∙◌, append_assoc}
use Rattle.std.specs.Prelude.{drop}
use Rattle.std.proofs.lemmas.List.{map-append, take_more, take-append-drop}
use Rattle.std.proofs.lemmas.List.Concat.{flat_map-append}
use Rattle.std.proofs.lemmas.List.Elements.{Contains-append_left, Contains-append_right, Contains-append_cases}
use Rattle.lists.specs.Distinct.{AreDistinct}
use Rattle.lists.proofs.Distinct.{distinct-append_left, distinct_apart, distinct_joined, distinct_map}
use Rattle.lists.proofs.Entries.{Contains-head, Contains-later, Contains-one, Contains-splits, map-Contains, Contains-map, none_in_empty}
use Rattle.fee_rate.specs.declared.rates.FeeRate.{FeeRate}
use Rattle.graphs.specs.Certificates.{Part, Txs}
use Rattle.graphs.specs.Closures.{Closure, rate_of, IsCover}
use Rattle.graphs.specs.Linearizations.{StandsBefore}
use Rattle.graphs.specs.Merges.{Precedes}
use Rattle.graph_model.specs.Answers.{order_of}
use Rattle.levels.specs.Levels.{OneLevel}
use Rattle.levels.specs.Orders.{ListsCovers}
use Rattle.dump.specs.Listings.{AreListed, tx_at}

-- ---- parents

not_before_itself : (order : List ℕ) (a : ℕ) → AreDistinct order → StandsBefore order a a → ⊥
not_before_itself order a once (front, rest, is, here) = distinct_apart front (a ∷ rest) a (subst AreDistinct is once) here (Contains-head a rest)

precedes_later : (x : ℕ) (xs : List ℕ) (a b : ℕ) → Precedes xs a b → Precedes (x ∷ xs) a b
precedes_later x xs a b stands =
    (x ∷ stands.0, stands.1, ap (λ (ys : List ℕ). x ∷ ys) stands.2, Contains-later x a stands.0 stands.3)

once_from : (xs : List ℕ) → ((a : ℕ) → Precedes xs a a → ⊥) → AreDistinct xs
once_from [] apart = tt
once_from (x ∷ xs) apart = (
  λ again. let cut = Contains-splits xs x again in apart x (x ∷ cut.0, cut.1, ap (λ (ys : List ℕ). x ∷ ys) cut.2, Contains-head x cut.0),
  once_from xs (λ a stands. apart a (precedes_later x xs a a stands)),
)

-- parents in an order stand once
parents_once : (graph : Closure) (order : List ℕ) (id : ℕ) (parents : List ℕ) → AreDistinct order → ListsCovers graph order id parents → AreDistinct parents
parents_once graph order id parents once covers = once_from parents (λ a stands. not_before_itself order a once (covers.in_order a a stands))

-- ---- one name more

pub none_listed : (level : OneLevel) → AreListed level [] [] []
none_listed level = record {
  txs_are = refl;
  covers = λ a d. (λ here. absurd (none_in_empty (a, d) here), λ both. absurd (none_in_empty d both.0));
  once = tt;
}

module _ (level : OneLevel) (before : List ℕ) (id : ℕ) (txs : Txs) (edges : List (ℕ × ℕ)) (parents : List ℕ)
    (order_once : AreDistinct (order_of level.parts)) (fresh : Contains before id → ⊥)
    (tells : ListsCovers level.graph (order_of level.parts) id parents) (are : AreListed level before txs edges) where
  abbrev own : List (ℕ × ℕ)
  own = map (λ (parent : ℕ). (parent, id)) parents

  child_of : (a d : ℕ) → Contains {X = ℕ × ℕ} own (a, d) → (id ≡ d) × IsCover level.graph a d
  child_of a d here =
      let found = map-Contains (λ (parent : ℕ). (parent, id)) parents (a, d) here in
      let parent : found.0 ≡ a = ap (λ (e : ℕ × ℕ). e.0) found.2 in
      let child : id ≡ d = ap (λ (e : ℕ × ℕ). e.1) found.2 in
      (child, subst (λ (y : ℕ). IsCover level.graph a y) child (subst (λ (x : ℕ). IsCover level.graph x id) parent ((tells.exact found.0).0 found.1)))

  forth : (a d : ℕ) → Contains {X = ℕ × ℕ} (edges ++ own) (a, d) → Contains (before ++ id ∷ []) d × IsCover level.graph a d
  forth a d here = elim (Contains-append_cases {X = ℕ × ℕ} edges own (a, d) here) [
    | inl old ↦ let was = (are.covers a d).0 old in (Contains-append_left before (id ∷ []) d was.0, was.1)
    | inr new ↦
        let is = child_of a d new in
        (Contains-append_right before (id ∷ []) d (subst (λ (y : ℕ). Contains (id ∷ []) y) is.0 (Contains-head id [])), is.1)
  ]

  back : (a d : ℕ) → Contains (before ++ id ∷ []) d × IsCover level.graph a d → Contains {X = ℕ × ℕ} (edges ++ own) (a, d)
  back a d both = elim (Contains-append_cases before (id ∷ []) d both.0) [
    | inl old ↦ Contains-append_left {X = ℕ × ℕ} edges own (a, d) ((are.covers a d).1 (old, both.1))
    | inr new ↦
        let same : id ≡ d = Contains-one id d new in
        let parent : Contains parents a = (tells.exact a).1 (subst (λ (y : ℕ). IsCover level.graph a y) (sym same) both.1) in
        Contains-append_right {X = ℕ × ℕ} edges own (a, d)
        (subst (λ (y : ℕ). Contains {X = ℕ × ℕ} own (a, y)) same (Contains-map (λ (parent : ℕ). (parent, id)) parents a parent))
  ]

  pub listed_one : AreListed level (before ++ id ∷ []) (txs ++ tx_at level.graph id ∷ []) (edges ++ own)
  listed_one = record {
    txs_are = ap (λ (ts : Txs). ts ++ tx_at level.graph id ∷ []) are.txs_are ∙ sym (map-append (tx_at level.graph) before (id ∷ []));
    covers = λ a d. (forth a d, back a d);
    once = distinct_joined edges own are.once
        (distinct_map (λ (parent : ℕ). (parent, id)) parents (parents_once level.graph (order_of level.parts) id parents order_once tells)
        (λ x y _ _ same. ap (λ (e : ℕ × ℕ). e.0) same))
        (λ e old new.
        let is = child_of e.0 e.1 new in
        let was = (are.covers e.0 e.1).0 old in
        fresh (subst (λ (y : ℕ). Contains before y) (sym is.0) was.0));
  }

-- the names so far and one more are a front of all
pub front_more : (before ids : List ℕ) (i : ℕ) → i < length ids
    → (before ++ take i ids) ++ get_or ids i 0 ∷ [] ≡ before ++ take (i + 1) ids
front_more before ids i below =
    append_assoc before (take i ids) (get_or ids i 0 ∷ []) ∙ ap (λ (xs : List ℕ). before ++ xs) (sym (take_more ids i 0 below))

-- and that one isn't among them, where none of all stands twice
pub front_fresh : (before ids : List ℕ) (i : ℕ) → i < length ids → AreDistinct (before ++ ids) → Contains (before ++ take i ids) (get_or ids i 0) → ⊥
front_fresh before ids i below once again =
    let whole : before ++ ids ≡ (before ++ take (i + 1) ids) ++ drop (i + 1) ids =
    ap (λ (xs : List ℕ). before ++ xs) (sym (take-append-drop (i + 1) ids)) ∙ sym (append_assoc before (take (i + 1) ids) (drop (i + 1) ids)) in
    let front : AreDistinct (before ++ take (i + 1) ids) = distinct-append_left (before ++ take (i + 1) ids) (drop (i + 1) ids) (subst AreDistinct whole once) in
    distinct_apart (before ++ take i ids) (get_or ids i 0 ∷ []) (get_or ids i 0) (subst AreDistinct (sym (front_more before ids i below)) front) again
    (Contains-head (get_or ids i 0) [])

-- the next name, its transaction and its edges
pub listed_next : (level : OneLevel) (before ids : List ℕ) (i : ℕ) (txs more_txs : Txs) (edges more_edges : List (ℕ × ℕ)) (rate : FeeRate)
    (parents : List ℕ) → i < length ids → AreDistinct (order_of level.parts) → AreDistinct (before ++ ids)
    → ListsCovers level.graph (order_of level.parts) (get_or ids i 0) parents → rate_of level.graph (get_or ids i 0) ≡ rate
    → more_txs ≡ txs ++ (get_or ids i 0, rate.fee, rate.size) ∷ [] → more_edges ≡ edges ++ map (λ parent. (parent, get_or ids i 0)) parents
    → AreListed level (before ++ take i ids) txs edges → AreListed level (before ++ take (i + 1) ids) more_txs more_edges
listed_next level before ids i txs more_txs edges more_edges rate parents below order_once once covers rated txs_are edges_are are =
    let id = get_or ids i 0 in
    let tx_is : (id, rate.fee, rate.size) ≡ tx_at level.graph id = ap (λ (r : FeeRate). (id, r.fee, r.size)) (sym rated) in
    let one = listed_one level (before ++ take i ids) id txs edges parents order_once (front_fresh before ids i below once) covers are in
    let of_txs : more_txs ≡ txs ++ tx_at level.graph id ∷ [] = txs_are ∙ ap (λ (tx : ℕ × ℤ × ℕ). txs ++ tx ∷ []) tx_is in
    subst (λ (names : List ℕ). AreListed level names more_txs more_edges) (front_more before ids i below)
    (subst (λ (ts : Txs). AreListed level ((before ++ take i ids) ++ id ∷ []) ts more_edges) (sym of_txs)
    (subst (λ (es : List (ℕ × ℕ)). AreListed level ((before ++ take i ids) ++ id ∷ []) (txs ++ tx_at level.graph id ∷ []) es) (sym edges_are) one))

-- the names of a part stand behind those of the parts before it, and none of all stands twice
pub part_once : (all front now next : List Part) (x : Part) → all ≡ front ++ now → now ≡ x ∷ next → AreDistinct (order_of all)
    → AreDistinct (order_of front ++ x.ids)
part_once all front now next x is step once =
    let ids = λ (p : Part). p.ids in
    let whole : order_of all ≡ (order_of front ++ x.ids) ++ order_of next =
    ap order_of (is ∙ ap (λ (ps : List Part). front ++ ps) step) ∙ flat_map-append ids front (x ∷ next)
    ∙ sym (append_assoc (order_of front) x.ids (order_of next)) in
    distinct-append_left (order_of front ++ x.ids) (order_of next) (subst AreDistinct whole once)
