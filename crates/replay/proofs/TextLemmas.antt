-- The text that proves an order.
use Rattle.std.proofs.Common.{◌≡◌, ℕ, ℤ, true, List, [], ◌∷◌, ◌++◌, map, codes, Contains, ◌↔◌, refl, sym, ap, ap₂, subst, subst₂, ◌∙◌, append_assoc, append-nil, inl, inr, ◌⊎◌}
use Rattle.std.specs.Prelude.{flat_map}
use Rattle.std.proofs.lemmas.List.{map-append}
use Rattle.std.proofs.lemmas.List.Elements.{Contains-append_left, Contains-append_right, Contains-append_cases}
use Rattle.lists.proofs.Entries.{Contains-head, Contains-later, Contains-cases, Contains-map, map-Contains, none_in_empty, not_empty, first_of, rest_of, Contains-splits}
use Rattle.graphs.specs.Certificates.{Part}
use Rattle.graphs.specs.Closures.{Closure, is_member, rate_of, IsCover}
use Rattle.graphs.specs.Graphs.{Graph}
use Rattle.graphs.specs.Linearizations.{StandsBefore}
use Rattle.graphs.specs.Merges.{Precedes}
use Rattle.graphs.specs.Picks.{FollowOrder}
use Rattle.graph_model.specs.Answers.{order_of}
use Rattle.graph_model.specs.Texts.{Text, text_lines, part_lines, tx_line}
use Rattle.levels.specs.Levels.{OneLevel}
use Rattle.levels.specs.Orders.{ListsCovers}
use Rattle.tx_graph.specs.Kept.{IsGraphOf}
use Rattle.tx_graph.specs.Readings.{IsTextOf}
use Rattle.replay.specs.Writings.{ListsBy, ListsEach, tx_line_of, edges_lines}
use Rattle.std.proofs.lemmas.Simd.{map-map}

-- ---- edges child by child
pub each_append : (P : ℕ → List ℕ → Type 0) (xs ys : List ℕ) (one two : List (ℕ × ℕ)) → ListsBy P xs one → ListsBy P ys two
    → ListsBy P (xs ++ ys) (one ++ two)
each_append P [] ys one two first second = rw first second
each_append P (x ∷ xs) ys one two first second = (
  first.0,
  first.1 ++ two,
  first.2,
  each_append P xs ys first.1 two first.3 second,
  ap (λ (edges : List (ℕ × ℕ)). edges ++ two) first.4 ∙ append_assoc (map (λ (parent : ℕ). (parent, x)) first.0) first.1 two,
)

pub each_one : (P : ℕ → List ℕ → Type 0) (child : ℕ) (parents : List ℕ) → P child parents
    → ListsBy P (child ∷ []) (map (λ (parent : ℕ). (parent, child)) parents)
each_one P child parents holds = (parents, [], holds, refl, sym (append-nil (map (λ (parent : ℕ). (parent, child)) parents)))

-- what has one property has another
pub each_other : (P Q : ℕ → List ℕ → Type 0) (xs : List ℕ) (edges : List (ℕ × ℕ))
    → ((child : ℕ) (parents : List ℕ) → Contains xs child → P child parents → Q child parents) → ListsBy P xs edges → ListsBy Q xs edges
each_other P Q [] edges told each = each
each_other P Q (x ∷ xs) edges told each = (
  each.0,
  each.1,
  told x each.0 (Contains-head x xs) each.2,
  each_other P Q xs each.1 (λ child parents here holds. told child parents (Contains-later x child xs here) holds) each.3,
  each.4,
)

either : {P Q R : Type 0} → P ⊎ Q → (P → R) → (Q → R) → R
either (inl p) f g = f p
either (inr q) f g = g q

-- whether such an edge is listed
first_exact : (graph : Closure) (order xs : List ℕ) (x : ℕ) (parents : List ℕ) (a d : ℕ) → ListsCovers graph order x parents
    → Contains {X = ℕ × ℕ} (map (λ (parent : ℕ). (parent, x)) parents) (a, d) → Contains (x ∷ xs) d × IsCover graph a d
first_exact graph order xs x parents a d covers here =
    let found = map-Contains (λ (parent : ℕ). (parent, x)) parents (a, d) here in
    let parent : found.0 ≡ a = ap (λ (edge : ℕ × ℕ). edge.0) found.2 in
    let child : x ≡ d = ap (λ (edge : ℕ × ℕ). edge.1) found.2 in
    (subst (λ (y : ℕ). Contains (x ∷ xs) y) child (Contains-head x xs), subst₂ (λ (p c : ℕ). IsCover graph p c) parent child ((covers.exact found.0).0 found.1))

pub each_exact : (graph : Closure) (order ids : List ℕ) (edges : List (ℕ × ℕ)) → ListsEach graph order ids edges → (a d : ℕ)
    → Contains edges (a, d) ↔ (Contains ids d × IsCover graph a d)
each_exact graph order [] edges none a d = (
  λ here. absurd (none_in_empty (a, d) (subst (λ (es : List (ℕ × ℕ)). Contains es (a, d)) none here)),
  λ both. absurd (none_in_empty d both.0),
)
each_exact graph order (x ∷ xs) edges each a d =
    let own : List (ℕ × ℕ) = map (λ (parent : ℕ). (parent, x)) each.0 in
    let later = each_exact graph order xs each.1 each.3 a d in (
      λ here. either (Contains-append_cases {X = ℕ × ℕ} own each.1 (a, d) (subst (λ (es : List (ℕ × ℕ)). Contains es (a, d)) each.4 here))
          (first_exact graph order xs x each.0 a d each.2) (λ rest. let got = later.0 rest in (Contains-later x d xs got.0, got.1)),
      λ both. subst (λ (es : List (ℕ × ℕ)). Contains es (a, d)) (sym each.4) (either (Contains-cases x d xs both.0)
          (λ same. Contains-append_left {X = ℕ × ℕ} own each.1 (a, d) (subst (λ (y : ℕ). Contains {X = ℕ × ℕ} own (a, y)) same
          (Contains-map (λ (parent : ℕ). (parent, x)) each.0 a ((each.2.exact a).1 (subst (λ (y : ℕ). IsCover graph a y) (sym same) both.1)))))
          (λ rest. Contains-append_right {X = ℕ × ℕ} own each.1 (a, d) (later.1 (rest, both.1)))),
    )

-- ---- what holds of each entry and every later one
abbrev EachLater : {A : Type 0} → (A → A → Type 0) → List A → Type 0
EachLater R [] = Unit {0}
EachLater R (x ∷ xs) = ((y : _) → Contains xs y → R x y) × EachLater R xs

later_of : {A : Type 0} (R : A → A → Type 0) (xs front rest : List A) (a b : A) → EachLater R xs → xs ≡ front ++ b ∷ rest → Contains front a → R a b
later_of R xs [] rest a b each is here = absurd (none_in_empty a here)
later_of R [] (y ∷ front) rest a b each is here = absurd (not_empty (sym is))
later_of {A} R (x ∷ xs) (y ∷ front) rest a b each is here = elim (Contains-cases y a front here) [
  | inl same ↦ subst (λ (z : A). R z b) (first_of is ∙ same) (each.0 b
      (subst (λ (zs : List A). Contains zs b) (sym (rest_of is)) (Contains-append_right front (b ∷ rest) b (Contains-head b rest))))
  | inr far ↦ later_of R xs front rest a b each.1 (rest_of is) far
]

each_joined : {A : Type 0} (R : A → A → Type 0) (xs ys : List A) → EachLater R xs → EachLater R ys → ((x y : A) → Contains xs x → Contains ys y → R x y)
    → EachLater R (xs ++ ys)
each_joined R [] ys one two across = two
each_joined R (x ∷ xs) ys one two across = (
  λ y here. elim (Contains-append_cases xs ys y here) [ inl first ↦ one.0 y first | inr second ↦ across x y (Contains-head x xs) second ],
  each_joined R xs ys one.1 two (λ z y there here. across z y (Contains-later x z xs there) here),
)

each_mapped : {A B : Type 0} (R : B → B → Type 0) (f : A → B) (xs : List A) → ((a b : A) → Precedes xs a b → R (f a) (f b)) → EachLater R (map f xs)
each_mapped R f [] follows = tt
each_mapped {A} {B} R f (x ∷ xs) follows = (
  λ y here.
      let found = map-Contains f xs y here in
      let cut = Contains-splits xs found.0 found.1 in
      subst (λ (z : B). R (f x) z) found.2 (follows x found.0 (x ∷ cut.0, cut.1, ap (λ (zs : List A). x ∷ zs) cut.2, Contains-head x cut.0)),
  each_mapped R f xs (λ a b before. follows a b (x ∷ before.0, before.1, ap (λ (zs : List A). x ∷ zs) before.2, Contains-later x a before.0 before.3)),
)

-- one link (child, parent) is listed before another
abbrev Before : List ℕ → ℕ × ℕ → ℕ × ℕ → Type 0
Before order a b = StandsBefore order a.0 b.0 ⊎ ((a.0 ≡ b.0) × StandsBefore order a.1 b.1)

abbrev swapped : ℕ × ℕ → ℕ × ℕ
swapped edge = (edge.1, edge.0)

each_follows : (graph : Closure) (order front ids : List ℕ) (edges : List (ℕ × ℕ)) → order ≡ front ++ ids → ListsEach graph order ids edges
    → EachLater (Before order) (map swapped edges)
each_follows graph order front [] edges cut none = subst (λ (es : List (ℕ × ℕ)). EachLater (Before order) (map swapped es)) (sym none) tt
each_follows graph order front (x ∷ xs) edges cut each =
    let own = map (λ (parent : ℕ). (parent, x)) each.0 in
    let links = map (λ (parent : ℕ). (x, parent)) each.0 in
    let on : map swapped edges ≡ links ++ map swapped each.1 =
    ap (map swapped) each.4
    ∙ map-append swapped own each.1
    ∙ ap (λ (ls : List (ℕ × ℕ)). ls ++ map swapped each.1) (map-map swapped (λ (parent : ℕ). (parent, x)) each.0) in
    let mine = each_mapped (Before order) (λ (parent : ℕ). (x, parent)) each.0 (λ a b before. inr (refl, each.2.in_order a b before)) in
    let others = each_follows graph order (front ++ x ∷ []) xs each.1 (cut ∙ sym (append_assoc front (x ∷ []) xs)) each.3 in
    subst (EachLater (Before order)) (sym on) (each_joined (Before order) links (map swapped each.1) mine others (λ a b there here.
    let first = map-Contains (λ (parent : ℕ). (x, parent)) each.0 a there in
    let second = map-Contains swapped each.1 b here in
    let child = ((each_exact graph order xs each.1 each.3 second.0.0 second.0.1).0 second.1).0 in
    let at = Contains-splits xs second.0.1 child in
    let stands : StandsBefore order x second.0.1 = (
      front ++ x ∷ at.0,
      at.1,
      cut ∙ ap (λ (zs : List ℕ). front ++ x ∷ zs) at.2 ∙ sym (append_assoc front (x ∷ at.0) (second.0.1 ∷ at.1)),
      Contains-append_right front (x ∷ at.0) x (Contains-head x at.0),
    ) in
    subst₂ (Before order) first.2 second.2 (inl stands)))

pub edges_follow : (graph : Closure) (order : List ℕ) (edges : List (ℕ × ℕ)) → ListsEach graph order order edges
    → FollowOrder order (map (λ edge. (edge.1, edge.0)) edges)
edges_follow graph order edges each a b before = later_of (Before order) (map swapped edges) before.0 before.1 a b
    (each_follows graph order [] order edges refl each) before.2 before.3

-- ---- the text
abbrev pub text_with : OneLevel → List (ℕ × ℕ) → Text
text_with level edges = record {
  txs = map (λ id. (id, (rate_of level.graph id).fee, (rate_of level.graph id).size)) (order_of level.parts);
  edges = edges;
  parts = level.parts;
}

pub text_is : (level : OneLevel) (graph : Graph) (edges : List (ℕ × ℕ)) → IsGraphOf level graph
    → ((id : ℕ) → Contains (order_of level.parts) id ↔ (is_member level.graph id ≡ true))
    → ListsEach level.graph (order_of level.parts) (order_of level.parts) edges → IsTextOf level (text_with level edges)
text_is level graph edges of names each = record {
  txs = refl;
  exact = λ a d.
      let exact = each_exact level.graph (order_of level.parts) (order_of level.parts) edges each a d in
      (λ listed. (exact.0 listed).1, λ cover. exact.1 ((names d).1 (of.among a d cover.ancestor).1, cover));
  in_order = edges_follow level.graph (order_of level.parts) edges each;
  parts = refl;
}

pub text_lines_are : (level : OneLevel) (edges : List (ℕ × ℕ)) (first last : List Part) → first ≡ level.parts → last ≡ level.parts
    → text_lines (text_with level edges)
    ≡ map (tx_line_of level.graph) (order_of first) ++ edges_lines edges ++ flat_map part_lines last ++ codes "end" ∷ []
text_lines_are level edges first last one two =
    let txs = map-map (λ (tx : ℕ × ℤ × ℕ). tx_line tx.0 tx.1 tx.2) (λ id. (id, (rate_of level.graph id).fee, (rate_of level.graph id).size))
    (order_of level.parts) in
    ap₂ (λ (lines : List (List ℕ)) (parts : List Part). lines ++ edges_lines edges ++ flat_map part_lines parts ++ codes "end" ∷ [])
    (txs ∙ ap (λ (parts : List Part). map (tx_line_of level.graph) (order_of parts)) (sym one)) (sym two)
