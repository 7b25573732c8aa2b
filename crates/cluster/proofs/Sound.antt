-- What is known of a cluster's parts, and that it stays known where their names stay as they are.
use Rattle.std.proofs.Common.{◌≡◌, ℕ, true, List, Contains, refl, sym, ap, ap₂, ◌∙◌, subst}
use Rattle.arithmetic.proofs.Sums.{total_along, sum_by_along}
use Rattle.fee_rate.specs.declared.rates.Sum.{Sum}
use Rattle.fee_rate.specs.Rates.{Same}
use Rattle.graphs.specs.Graphs.{Graph}
use Rattle.graphs.specs.Rates.{sums}
use Rattle.graphs.specs.Closures.{Closure, is_ancestor}
use Rattle.graphs.specs.Closing.{IsClosureOf}
use Rattle.graphs.specs.Certificates.{Part, weight_in}
use Rattle.graphs.specs.Picks.{IsPick}
use Rattle.graphs.proofs.ClosureGraphs.{closures_have_graphs}
use Rattle.graphs.proofs.ClosingLemmas.{covers_agree}
use Rattle.linearize.specs.Graphs.{sum_at, sum_from}
use Rattle.linearize.specs.Known.{IsKnown}
use Rattle.cluster.specs.Clusters.{Cluster, IsCluster}
use Rattle.cluster.specs.Guesses.{Stay}
use Rattle.cluster.proofs.Placed.{beyond, closed}

module _ (most : ℕ) (c : Cluster) (is : IsCluster most c) (part : Part) (here : Contains c.parts part) (graph : Graph) (closes : IsClosureOf c.graph graph) where
  up : (p d : ℕ) → Contains graph.pairs (p, d) → is_ancestor c.graph p d ≡ true
  up p d pair = let ends = closes.ends p d pair in (closes.ancestors p d ends.0 ends.1).0 (1, (p, refl, pair))

  known_in : IsPick (sum_at c.graph) graph c.parts → IsKnown c.graph part
  known_in pick =
      let summed = pick.certificate.falling.summed part here in
      let flows = pick.certificate.flows part here in
      record {
        summed = summed;
        flows = record {
          once = flows.once;
          links = λ flow held. (let cover = (covers_agree c.graph graph is.order closes flow.parent flow.child).0 (flows.links flow held) in record {
            ancestor = cover.ancestor;
            other = cover.other;
            direct = λ m _ over under. cover.direct m over under;
          });
          inside = flows.inside;
          some = flows.some;
          balanced = flows.balanced;
        };
        uncut = λ set within some same.
            is.uncut graph closes part here set (record {
              once = within.once;
              inside = within.inside;
              parents = λ p d pair p_in d_in. within.ancestors p d (up p d pair) d_in p_in;
            }) some (subst (λ (w : Sum). Same (sums (sum_at c.graph) set) w) summed same);
      }

-- each part of a cluster is known
pub sound : (most : ℕ) (c : Cluster) → IsCluster most c → (part : Part) → Contains c.parts part → IsKnown c.graph part
sound most c is part here =
    let made = closures_have_graphs (beyond c.names) c.graph (closed most c is) in
    known_in most c is part here made.0 made.2 (is.picked made.0 made.2)

module _ (old new : Closure) (part : Part) (stay : Stay old new part.ids) where
  sum_is : (id : ℕ) → Contains part.ids id → sum_at new id ≡ sum_at old id
  sum_is id here = ap sum_from (stay.rates id here)

  sums_are : (xs : List ℕ) → ((x : ℕ) → Contains xs x → Contains part.ids x) → sums (sum_at new) xs ≡ sums (sum_at old) xs
  sums_are xs inside =
      let fee = total_along (λ x. (sum_at new x).fee) (λ x. (sum_at old x).fee) xs (λ x h. ap (λ (s : Sum). s.fee) (sum_is x (inside x h))) in
      let size = sum_by_along (λ x. (sum_at new x).size) (λ x. (sum_at old x).size) xs (λ x h. ap (λ (s : Sum). s.size) (sum_is x (inside x h))) in
      λ i. record { fee = fee i; size = size i }

  pub stays : IsKnown old part → IsKnown new part
  stays known =
      let c = known.flows in
      let all = sums_are part.ids (λ x h. h) in
      record {
        summed = known.summed ∙ sym all;
        flows = record {
          once = c.once;
          links = λ flow held.
              (let both = c.inside flow held in
              let link = c.links flow held in
              record {
                ancestor = stay.ancestors flow.parent flow.child both.1 both.0 ∙ link.ancestor;
                other = link.other;
                direct = λ m m_in over under. link.direct m m_in (sym (stay.ancestors flow.parent m both.1 m_in) ∙ over)
                    (sym (stay.ancestors m flow.child m_in both.0) ∙ under);
              });
          inside = c.inside;
          some = c.some;
          balanced = λ id here. ap₂ weight_in all (sum_is id here) ∙ c.balanced id here;
        };
        uncut = λ set within some same.
            known.uncut set (record {
              once = within.once;
              inside = within.inside;
              ancestors = λ a d e d_in a_in. within.ancestors a d (stay.ancestors a d a_in (within.inside d d_in) ∙ e) d_in a_in;
            }) some (subst (λ (w : Sum). Same w part.rate) (sums_are set within.inside) same);
      }
