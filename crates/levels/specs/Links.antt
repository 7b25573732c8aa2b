-- How two names stand, of which the one may become a parent of the other.
use Rattle.std.specs.Prelude.{◌≡◌, ◌≢◌, ◌⊎◌, ℕ, true, false, Some, Result, MatchResult}
use Rattle.std.specs.FinMap as finmap
use Rattle.graphs.specs.declared.names.Level.TheVariants.{Top}
use Rattle.graphs.specs.Closures.{is_ancestor}
use Rattle.graph_model.specs.declared.names.Refusal.{Refusal}
use Rattle.graph_model.specs.declared.names.Refusal.TheVariants.{Cycle}
use Rattle.cluster.specs.Clusters.{Cluster}
use Rattle.levels.specs.Shelves.{Shelf, numbers_at, view_of}
use Rattle.levels.specs.Views.{graph_of}
use Rattle.levels.specs.declared.relation.Link.{Link}
use Rattle.levels.specs.declared.relation.Link.TheVariants.{There, Within, Between}

-- How a pair of names of the top level stands that may be added: the one is an ancestor of the other already, or neither is and they are of one
-- cluster, or of two.
abbrev pub IsLink : Shelf → ℕ → ℕ → Link → Type 0
IsLink shelf parent child There = is_ancestor (graph_of (view_of Top shelf)) parent child ≡ true
IsLink shelf parent child (Within number) =
    (finmap.get (numbers_at Top shelf) parent ≡ Some number) × (finmap.get (numbers_at Top shelf) child ≡ Some number)
    × (is_ancestor (graph_of (view_of Top shelf)) parent child ≡ false) × (is_ancestor (graph_of (view_of Top shelf)) child parent ≡ false)
IsLink shelf parent child (Between first second) =
    (((finmap.get (numbers_at Top shelf) parent ≡ Some first) × (finmap.get (numbers_at Top shelf) child ≡ Some second))
    ⊎ ((finmap.get (numbers_at Top shelf) parent ≡ Some second) × (finmap.get (numbers_at Top shelf) child ≡ Some first)))
    × (first ≢ second)

-- how two names of one cluster stand
abbrev pub IsWithin : Cluster → ℕ → ℕ → ℕ → Result Link Refusal → Type 0
IsWithin c number parent child result =
    MatchResult result
    (λ link. (is_ancestor c.graph child parent ≡ false)
    × (((link ≡ There) × (is_ancestor c.graph parent child ≡ true)) ⊎ ((link ≡ Within number) × (is_ancestor c.graph parent child ≡ false))))
    (λ why. (why ≡ Cycle) × (is_ancestor c.graph child parent ≡ true))
