-- Components of the same names and the same graph, whatever their parts are.
use Rattle.std.proofs.Common.{◌≡◌, ℕ, ◌++◌, List, [], sym, ap, ◌∙◌, subst, subst₂}
use Rattle.std.specs.Prelude.{Contains}
use Rattle.graphs.specs.Closures.{Closure}
use Rattle.cluster.specs.Clusters.{Cluster, AreApart}
use Rattle.cluster.specs.Changes.{AreAcross}
use Rattle.record.specs.Records.{IsConnected, IsLike}

pub like_same : (c d : Cluster) → c ≡ d → IsLike c d
like_same c d same = (ap (λ (x : Cluster). x.names) same, ap (λ (x : Cluster). x.graph) same)

pub like_bare : (c k s : Cluster) → c ≡ record k { parts = [] } → k ≡ s → IsLike c s
like_bare c k s bare same = (
  ap (λ (x : Cluster). x.names) bare ∙ ap (λ (x : Cluster). x.names) same,
  ap (λ (x : Cluster). x.graph) bare ∙ ap (λ (x : Cluster). x.graph) same,
)

abbrev bare : List ℕ → Closure → Cluster
bare names graph = record { names = names; graph = graph; parts = [] }

-- parts tell nothing of this
any_parts : (c d : Cluster) → c.names ≡ d.names → c.graph ≡ d.graph → IsConnected c → IsConnected (bare c.names c.graph)
any_parts c d names graph was = record {
  some = was.some;
  once = was.once;
  members = was.members;
  order = was.order;
  whole = was.whole;
  rates = was.rates;
}

any_parts_back : (c : Cluster) → IsConnected (bare c.names c.graph) → IsConnected c
any_parts_back c was = record {
  some = was.some;
  once = was.once;
  members = was.members;
  order = was.order;
  whole = was.whole;
  rates = was.rates;
}

pub like_connected : (c d : Cluster) → IsLike c d → IsConnected d → IsConnected c
like_connected c d (names, graph) was =
    any_parts_back c
    (subst₂ (λ (ns : List ℕ) (g : Closure). IsConnected (bare ns g)) (sym names) (sym graph) (any_parts d c (sym names) (sym graph) was))

pub like_apart : (c c' d d' : Cluster) → IsLike c c' → IsLike d d' → AreApart c' d' → AreApart c d
like_apart c c' d d' first second apart id here there =
    apart id (subst (λ (xs : List ℕ). Contains xs id) first.0 here) (subst (λ (xs : List ℕ). Contains xs id) second.0 there)

pub like_across : (c c' d d' : Cluster) → IsLike c c' → IsLike d d' → (parent child : ℕ) → AreAcross c'.names d'.names parent child
    → AreAcross c.names d.names parent child
like_across c c' d d' first second parent child across =
    subst₂ (λ (xs ys : List ℕ). AreAcross xs ys parent child) (sym first.0) (sym second.0) across
