-- What a record keeps is what it stands for.
use Rattle.std.proofs.Common.{◌≡◌, ◌↔◌, ℕ, Bool, List, true, false, true≢false, sym, ap, ◌∙◌, subst}
use Rattle.std.specs.Cmp.{both_ways}
use Rattle.std.specs.Prelude.{Contains, Result, Ok, Err, IfOk}
use Rattle.graphs.specs.Closures.{Closure, is_ancestor}
use Rattle.graphs.specs.Graphs.{IsAncestor}
use Rattle.cluster.specs.Clusters.{Cluster, IsCluster}
use Rattle.links.specs.Links.{Links, AreLinks}
use Rattle.links.specs.Kept.{names_of}
use Rattle.links.specs.Closing.{closure}
use Rattle.links.proofs.Closed.{ancestors_are}
use Rattle.std.specs.Global.{Box}
use Rattle.record.specs.Kept.{unordered, component_of, IsKept, IsUnordered}
use Rattle.record.specs.declared.kept.Kept.{Kept}
use Rattle.record.specs.declared.kept.Kept.TheVariants.{Within, Over}
use Rattle.record.specs.declared.kept.Unordered.{Unordered}

pub within_is : {W : ℕ} (k : Kept W) (c s : Cluster) → k ≡ Within c → component_of k ≡ s → c ≡ s
within_is k c s is view = sym (ap component_of is) ∙ view

pub over_is : {W : ℕ} (k : Kept W) (o : Box Unordered) (u : Unordered) (s : Cluster) → k ≡ Over o → u ≡ o.value → component_of k ≡ s
    → unordered u.links ≡ s
over_is k o u s is same view = ap (λ (v : Unordered). unordered v.links) same ∙ sym (ap component_of is) ∙ view

pub over_held : {W : ℕ} (most : ℕ) (k : Kept W) (o : Box Unordered) (u : Unordered) → k ≡ Over o → u ≡ o.value → IsKept most k → IsUnordered u
over_held {W} most k o u is same held = subst IsUnordered (sym same) (subst (λ (x : Kept W). IsKept most x) is held)

pub within_held : {W : ℕ} (most : ℕ) (k : Kept W) (c s : Cluster) → k ≡ Within c → component_of k ≡ s → IsKept most k → IsCluster most s
within_held {W} most k c s is view held = subst (IsCluster most) (within_is k c s is view) (subst (λ (x : Kept W). IsKept most x) is held)

-- what holds of a result's value, by what it is
pub handed_with : {T E : Type 0} (P : T → Type 0) (Q : Type 0) (x : T) (r : Result T E) → IfOk r (λ y. y ≡ x) → IfOk r (λ _. Q) → (Q → P x)
    → IfOk r P
handed_with P Q x (Ok y) same holds then = subst P (sym same) (then holds)
handed_with P Q x (Err e) same holds then = tt

-- links and what they stand for
module _ (links : Links) (are : AreLinks links) (s : Cluster) (is : unordered links ≡ s) where
  pub has_name : (id : ℕ) → Contains s.names id → Contains (names_of links.txs) id
  has_name id here = subst (λ (xs : List ℕ). Contains xs id) (sym (ap (λ (c : Cluster). c.names) is)) here

  pub no_way : (a d : ℕ) → Contains s.names a → Contains s.names d → is_ancestor s.graph a d ≡ false → IsAncestor links.pairs a d → ⊥
  no_way a d here there not_above walk =
      let up : is_ancestor (closure links) a d ≡ true = (ancestors_are links are a d).1 (has_name a here, has_name d there, walk) in
      true≢false (sym (subst (λ (g : Closure). is_ancestor g a d ≡ true) (ap (λ (c : Cluster). c.graph) is) up) ∙ not_above)

  pub over_reaches : (a b : ℕ) → Contains s.names a → Contains s.names b → (answer : Bool) → (answer ≡ true) ↔ IsAncestor links.pairs a b
      → answer ≡ is_ancestor s.graph a b
  over_reaches a b here there answer tells =
      both_ways answer (is_ancestor (closure links) a b)
      (λ e. (ancestors_are links are a b).1 (has_name a here, has_name b there, tells.0 e))
      (λ e. tells.1 ((ancestors_are links are a b).0 e).2)
      ∙ ap (λ (c : Cluster). is_ancestor c.graph a b) is
