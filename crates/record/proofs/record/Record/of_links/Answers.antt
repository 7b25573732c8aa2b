use Rattle.std.proofs.Common.{◌≡◌, ◌*◌, ◌≤◌, ℕ, List, length, lit<, sym, ap, ◌∙◌, subst, subst₂, arith}
use Rattle.bitset.specs.Places.{IsWithin}
use Rattle.graphs.specs.Certificates.{Txs}
use Rattle.graphs.specs.Closures.{members_of}
use Rattle.cluster.specs.Clusters.{Cluster}
use Rattle.cluster.specs.Changes.{AreNamesOf, TakesNames}
use Rattle.links.specs.Links.{AreLinks}
use Rattle.links.specs.Kept.{names_of}
use Rattle.record.specs.Kept.{unordered}
use Rattle.record.specs.Records.{IsLike}
use Rattle.record.specs.Solving.{StandsFor}
use Rattle.record.proofs.Solved.{has_rates, packed, names_for, is_component, solved_like}
use Rattle.record.proofs.record.Record.of_links.Goals as goal

pub ordered-requires : goal.ordered-requires
ordered-requires g c = (
  grind arith,
  (
    c.requires.width.1,
    (
      subst (λ (xs : Txs). length xs ≤ 64 * g.row.W) (sym c.txs-2.ensures.txs) c.requires.few,
      (
        subst₂ (λ (xs : Txs) (ps : List (ℕ × ℕ)). AreLinks (record { txs = xs; pairs = ps })) (sym c.txs-2.ensures.txs) (sym c.pairs.ensures)
            c.txs.ensures.whole,
        c.as_slice.ensures.value ∙ c.in_ok-names.ensures ∙ ap names_of (c.txs.ensures.txs ∙ sym c.txs-2.ensures.txs),
      ),
    ),
  ),
)

pub whole-requires : goal.whole-requires
whole-requires g c =
    let links = c.args.links.now in
    let dep = c.in_ok-dep.dep in
    let stands : StandsFor links.txs links.pairs dep =
    subst₂ (λ (xs : Txs) (ps : List (ℕ × ℕ)). StandsFor xs ps dep) c.txs-2.ensures.txs c.pairs.ensures c.in_ok-dep.ensures in
    let names : c.as_slice-2.result.now ≡ names_of links.txs = c.as_slice-2.ensures.value ∙ c.in_ok-names.ensures ∙ ap names_of c.txs.ensures.txs in (
      grind arith,
      (
        lit< tt,
        (
          lit< tt,
          (
            subst (λ (xs : List ℕ). AreNamesOf dep xs) (sym names) (names_for links c.txs.ensures.whole c.requires.connected dep stands),
            (
              subst (λ (xs : List ℕ). IsWithin (length xs) (members_of dep)) (sym names)
                  (packed links c.txs.ensures.whole c.requires.connected dep stands),
              (
                is_component links c.txs.ensures.whole c.requires.connected dep stands,
                has_rates links c.txs.ensures.whole c.requires.connected dep stands,
              ),
            ),
          ),
        ),
      ),
    )

pub returns-clause-same : goal.returns-clause-same
returns-clause-same g c =
    let links = c.args.links.now in
    let dep = c.in_ok-dep.dep in
    let stands : StandsFor links.txs links.pairs dep =
    subst₂ (λ (xs : Txs) (ps : List (ℕ × ℕ)). StandsFor xs ps dep) c.txs-2.ensures.txs c.pairs.ensures c.in_ok-dep.ensures in
    let names : c.as_slice-2.result.now ≡ names_of links.txs = c.as_slice-2.ensures.value ∙ c.in_ok-names.ensures ∙ ap names_of c.txs.ensures.txs in
    subst (λ (r : Cluster). IsLike r (unordered links)) (sym c.within.ensures)
    (solved_like links c.txs.ensures.whole c.requires.connected dep stands (64 * g.row.W) (64 * g.row.W) c.requires.few c.in_ok-component.component
    (subst (λ (xs : List ℕ). TakesNames (64 * g.row.W) dep xs c.in_ok-component.component) names c.in_ok-component.ensures.graph)
    c.in_ok-component.ensures.whole)
