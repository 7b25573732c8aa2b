-- Laws that a reader expects of the definitions.
use Rattle.std.specs.Prelude.{◌≡◌, ◌≢◌, ℕ, ◌≤◌, ℤ, Bool, true, false, ◌&&◌, ◌||◌, not, nat_eq, List, [], ◌∷◌, ◌++◌, ◌⊎◌, ◌↔◌, map, flat_map, Contains}
use Rattle.lists.specs.Distinct.{AreDistinct}
use Rattle.graphs.specs.Graphs.{Graph, IsAncestor, AreConnected, IsCover, HasNoCycle, IsGraph}
use Rattle.fee_rate.specs.declared.rates.Sum.{Sum}
use Rattle.fee_rate.specs.Rates.{AtMost, Below}
use Rattle.graphs.specs.Rates.{sum_of, sums, HasSizes, Falls}
use Rattle.graphs.specs.Linearizations.{IsClosedWithin, IsTopological, AreChunks, IsFlat, IsUnderLine, IsUnderDiagram, IsOptimal}
use Rattle.graphs.specs.Certificates.{Part, IsCertificate}
use Rattle.graphs.specs.declared.names.Verdict.{Verdict}
use Rattle.graphs.specs.Diagrams.{Compares, corners_of, JoinsEqualRates, AreCorners}
use Rattle.graphs.specs.Removals.{IsWithout}
use Rattle.graphs.specs.Closures as closures
use Rattle.graphs.specs.Closures.{Closure, is_member, is_ancestor, IsOrder, IsClosed, AreLinked}
use Rattle.graphs.specs.Closing.{Closes, IsClosureOf, with_name, with_pair, joined, within, AreWithout, KeepsBetween, KeepsApart, IsRenamed, renamed_part}

-- One more pair makes b's ancestors those that b had, and, where the pair's child is one of them, the ancestors of its parent.
abbrev pub AncestorsWithPair : Type 0
AncestorsWithPair =
    (pairs : List (ℕ × ℕ)) (parent child a b : ℕ) → IsAncestor (pairs ++ (parent, child) ∷ []) a b
    ↔ (IsAncestor pairs a b ⊎ (IsAncestor pairs a parent × IsAncestor pairs child b))

-- One more pair makes one component of those of its ends, and leaves each other one.
abbrev pub ComponentsWithPair : Type 0
ComponentsWithPair =
    (pairs : List (ℕ × ℕ)) (parent child a b : ℕ) → AreConnected (pairs ++ (parent, child) ∷ []) a b
    ↔ (AreConnected pairs a b ⊎ ((AreConnected pairs a parent × AreConnected pairs child b) ⊎ (AreConnected pairs a child × AreConnected pairs parent b)))

-- One more pair makes a cycle exactly where its child is an ancestor of its parent.
abbrev pub StaysWithoutCycle : Type 0
StaysWithoutCycle =
    (pairs : List (ℕ × ℕ)) (parent child : ℕ) → HasNoCycle pairs → HasNoCycle (pairs ++ (parent, child) ∷ []) ↔ (IsAncestor pairs child parent → ⊥)

-- Certified parts are optimal, over the pairs of a graph, and so over its covering pairs alone. Sizes are at least 1.
pub record CertifiedPartsAreOptimal : Type 0 where
  pub by_pairs : (rate : ℕ → Sum) (graph : Graph) (parts : List Part) → HasSizes rate graph.names
      → IsCertificate rate graph (λ parent child. Contains graph.pairs (parent, child)) parts → IsOptimal rate graph (map (λ part. part.ids) parts)
  pub by_covers : (rate : ℕ → Sum) (graph : Graph) (parts : List Part) → HasSizes rate graph.names
      → IsCertificate rate graph (IsCover graph.pairs) parts → IsOptimal rate graph (map (λ part. part.ids) parts)

-- The diagram of an optimal order bounds every closed set of the graph, though it speaks of fronts of orders alone.
abbrev pub OptimalBoundsClosedSets : Type 0
OptimalBoundsClosedSets =
    (rate : ℕ → Sum) (graph : Graph) (parts : List (List ℕ)) (set : List ℕ) → IsOptimal rate graph parts
    → IsClosedWithin graph.pairs graph.names set → IsUnderDiagram (map (sums rate) parts) (sums rate set)

-- Parts within which no closed set has a greater rate, in falling order, bound every closed set at each part's line.
abbrev pub FlatPartsBoundClosedSets : Type 0
FlatPartsBoundClosedSets =
    (rate : ℕ → Sum) (graph : Graph) (before after : List (List ℕ)) (part set : List ℕ) → HasSizes rate graph.names
    → IsTopological graph (flat_map (λ ids. ids) (before ++ part ∷ after)) → AreChunks rate graph.pairs (before ++ part ∷ after)
    → ((ids : List ℕ) → Contains (before ++ part ∷ after) ids → IsFlat rate graph.pairs ids)
    → IsClosedWithin graph.pairs graph.names set → IsUnderLine (sums rate (flat_map (λ ids. ids) before)) (sums rate part) (sums rate set)

-- A graph has at most one list of corners.
abbrev pub CornersAreUnique : Type 0
CornersAreUnique = (rate : ℕ → Sum) (graph : Graph) (a b : List (ℕ × ℤ)) → AreCorners rate graph a → AreCorners rate graph b → a ≡ b

-- The ends of an optimal order, equal rates joined, are the graph's corners. Names stand once and have sizes of at least 1.
abbrev pub OptimalEndsAreCorners : Type 0
OptimalEndsAreCorners =
    (rate : ℕ → Sum) (graph : Graph) (parts : List (List ℕ)) (segments : List Sum) → AreDistinct graph.names → HasSizes rate graph.names
    → IsOptimal rate graph parts → JoinsEqualRates (map (sums rate) parts) segments → AreCorners rate graph (corners_of segments)

-- Parts of falling rate, with sizes of at least 1, have one list of segments that joins their equal rates.
-- The first segment joins the parts of the first one's rate, and the others join what follows.
pub record EqualRatesJoinOnce : Type 0 where
  pub some : (parts : List Sum) → ((part : Sum) → Contains parts part → 1 ≤ part.size) → Falls parts → (segments : List Sum) × JoinsEqualRates parts segments
  pub one : (parts a b : List Sum) → ((part : Sum) → Contains parts part → 1 ≤ part.size) → JoinsEqualRates parts a → JoinsEqualRates parts b → a ≡ b
  pub first : (first : Sum) (group after segments : List Sum)
      → ((part : Sum) → Contains (first ∷ group ++ after) part → 1 ≤ part.size) → Falls (first ∷ group ++ after)
      → ((part : Sum) → Contains group part → AtMost first part) → ((part : Sum) (rest : List Sum) → after ≡ part ∷ rest → Below part first)
      → JoinsEqualRates (first ∷ group ++ after) segments → (others : List Sum) × (segments ≡ sum_of (first ∷ group) ∷ others) × JoinsEqualRates after others

-- From every graph a name can be removed.
abbrev pub NamesCanGo : Type 0
NamesCanGo = (old : Graph) (id : ℕ) → IsGraph old → (new : Graph) × IsWithout old id new

-- A graph without a name is a graph.
abbrev pub StaysGraph : Type 0
StaysGraph = (old new : Graph) (id : ℕ) → IsWithout old id new → IsGraph old → IsGraph new

-- Where a name is removed, the others keep the ancestors that they had among them.
abbrev pub AncestorsWithoutName : Type 0
AncestorsWithoutName =
    (old new : Graph) (id : ℕ) → IsWithout old id new → (a b : ℕ) → IsAncestor new.pairs a b
    ↔ ((a ≡ b) ⊎ ((a ≢ id) × (b ≢ id) × IsAncestor old.pairs a b))

-- Two diagrams have at most one verdict.
abbrev pub VerdictsAreUnique : Type 0
VerdictsAreUnique = (a b : List (ℕ × ℤ)) (v w : Verdict) → Compares a b v → Compares a b w → v ≡ w

-- ---- plain graphs and closures

-- One more pair, whose child isn't above its parent: the closure of the graph with the pair.
abbrev pub PairIsClosed : Type 0
PairIsClosed =
    (member : ℕ → Bool) (above : ℕ → ℕ → Bool) (graph : Graph) (parent child : ℕ) → Closes member above graph
    → member parent ≡ true → member child ≡ true → above child parent ≡ false
    → Closes member (λ a d. above a d || (above a parent && above child d)) (with_pair graph parent child)

-- One more name, related to no other: the closure of the graph with the name.
abbrev pub NameIsClosed : Type 0
NameIsClosed =
    (member : ℕ → Bool) (above : ℕ → ℕ → Bool) (graph : Graph) (id : ℕ) → Closes member above graph → member id ≡ false
    → ((a d : ℕ) → above a d ≡ true → (member a ≡ true) × (member d ≡ true))
    → Closes (λ q. nat_eq q id || member q) (λ a d. (nat_eq a id && nat_eq d id) || above a d) (with_name graph id)

-- Two graphs without a common name: the closure of both together, and of both with one more pair from the first to the second.
pub record JoinedIsClosed : Type 0 where
  pub both : (one two : ℕ → Bool) (above : ℕ → ℕ → Bool) (first second : Graph) → Closes one above first → Closes two above second
      → ((q : ℕ) → one q ≡ true → two q ≡ true → ⊥) → ((a b : ℕ) → one a ≡ true → two b ≡ true → (above a b ≡ false) × (above b a ≡ false))
      → Closes (λ q. one q || two q) above (joined first second)
  pub across : (one two : ℕ → Bool) (above : ℕ → ℕ → Bool) (first second : Graph) (parent child : ℕ) → Closes one above first → Closes two above second
      → ((q : ℕ) → one q ≡ true → two q ≡ true → ⊥) → ((a b : ℕ) → one a ≡ true → two b ≡ true → (above a b ≡ false) × (above b a ≡ false))
      → one parent ≡ true → two child ≡ true
      → Closes (λ q. one q || two q) (λ a d. above a d || (above a parent && above child d)) (with_pair (joined first second) parent child)

-- Names go, and the relation among the others stays: one name, several names one after another, or all but some names that have with any
-- two of them what lies between.
pub record FewerAreClosed : Type 0 where
  pub one : (member : ℕ → Bool) (above : ℕ → ℕ → Bool) (old new : Graph) (id : ℕ) → Closes member above old → IsWithout old id new
      → Closes (λ q. not (nat_eq q id) && member q) above new
  pub several : (member : ℕ → Bool) (above : ℕ → ℕ → Bool) (ids : List ℕ) (old new : Graph) → Closes member above old → AreWithout old ids new
      → (left : ℕ → Bool) → ((q : ℕ) → (left q ≡ true) ↔ ((member q ≡ true) × (Contains ids q → ⊥))) → Closes left above new
  pub within : (member keep : ℕ → Bool) (above : ℕ → ℕ → Bool) (graph : Graph) → Closes member above graph → KeepsBetween keep above
      → Closes (λ q. keep q && member q) above (within keep graph)

-- The same graph by other names: the closure is the old one by the new names.
abbrev pub RenamedIsClosed : Type 0
RenamedIsClosed =
    (f : ℕ → ℕ) (member member' : ℕ → Bool) (above above' : ℕ → ℕ → Bool) (old new : Graph) → Closes member above old
    → KeepsApart f old.names → IsRenamed f old new → ((q : ℕ) → (member' q ≡ true) ↔ ((p : ℕ) × (member p ≡ true) × (f p ≡ q)))
    → ((a d : ℕ) → member a ≡ true → member d ≡ true → above' (f a) (f d) ≡ above a d) → Closes member' above' new

-- The relation is an order on the members where it is among them alone. Then a name is another's ancestor along the pairs
-- where it is the same or above it, names are connected where they are linked, and the covering pairs are the same.
pub record ClosureTellsOfGraph : Type 0 where
  pub order : (g : Closure) (graph : Graph) → IsClosureOf g graph → ((a d : ℕ) → is_ancestor g a d ≡ true → (is_member g a ≡ true) × (is_member g d ≡ true))
      → IsOrder (is_member g) (is_ancestor g)
  pub ancestors : (g : Closure) (graph : Graph) → IsOrder (is_member g) (is_ancestor g) → IsClosureOf g graph
      → (a b : ℕ) → IsAncestor graph.pairs a b ↔ ((a ≡ b) ⊎ (is_ancestor g a b ≡ true))
  pub connected : (g : Closure) (graph : Graph) → IsOrder (is_member g) (is_ancestor g) → IsClosureOf g graph
      → (a b : ℕ) → AreConnected graph.pairs a b ↔ AreLinked g a b
  pub covers : (g : Closure) (graph : Graph) → IsOrder (is_member g) (is_ancestor g) → IsClosureOf g graph
      → (a d : ℕ) → IsCover graph.pairs a d ↔ closures.IsCover g a d

-- Each closure is the closure of some graph.
abbrev pub ClosuresHaveGraphs : Type 0
ClosuresHaveGraphs = (n : ℕ) (g : Closure) → IsClosed n g → (graph : Graph) × IsGraph graph × IsClosureOf g graph

-- A certificate over covering pairs is one by other names, where no two names become one: of the renamed graph, with the
-- fees and sizes that the names had.
abbrev pub CertificatesAreRenamed : Type 0
CertificatesAreRenamed =
    (f : ℕ → ℕ) (rate rate' : ℕ → Sum) (old new : Graph) (parts : List Part)
    → ((a b : ℕ) → Contains old.pairs (a, b) → Contains old.names a × Contains old.names b) → KeepsApart f old.names → IsRenamed f old new
    → ((id : ℕ) → Contains old.names id → rate' (f id) ≡ rate id) → IsCertificate rate old (IsCover old.pairs) parts
    → IsCertificate rate' new (IsCover new.pairs) (map (renamed_part f) parts)
