use Rattle.std.proofs.Common.{rules, ◌≡◌, ℕ, ◌*◌, true, inl, inr, ap, subst, ◌∙◌, sym, arith}
use Rattle.std.proofs.lemmas.Bool.{cases_eq}
use Rattle.std.specs.FinSet as set
use Rattle.lists.proofs.Cases.{clash}
use Rattle.lists.proofs.Keys.{set_drop}
use Rattle.bitset.specs.Sets.{contains-empty}
use Rattle.graphs.specs.Closures.{is_ancestor}
use Rattle.bitset.specs.Members.{from_remove, to_remove, minus_parts, from_union}
use Rattle.linearize.proofs.Nexts.{inside, some_of}
use Rattle.linearize.proofs.Sizes.{words_fit}
use Rattle.linearize.proofs.near.comes_next.Goals as goal

pub ancestors-requires : goal.ancestors-requires
ancestors-requires g c =
    let both = minus_parts c.args.members.now c.args.done.now c.in-Some.place (subst (λ s. set.contains s c.in-Some.place ≡ true) c.minus.ensures
    (inside c.args.group.now c.minus.result (sym c.is_subset.ensures ∙ c.if-not-is_subset.false) c.in-Some.place
    (c.loop-place.invariant.0 c.in-Some.place c.in-Some.ensures.least.member))) in
    (search rules, (words_fit g.row.W c.requires.narrow, c.requires.members c.in-Some.place both.0))

pub loop-place-smaller : goal.loop-place-smaller
loop-place-smaller g c =
    let one = set_drop c.loop-place.left c.in-Some.place c.in-Some.ensures.least.member in
    let is = ap (λ s. set.len s) c.remove.ensures in
    omega (arith, one, is)

pub loop-place-preserved : goal.loop-place-preserved
loop-place-preserved g c = (
  λ t m. c.loop-place.invariant.0 t (from_remove _ _ t (subst (λ s. set.contains s t ≡ true) c.remove.ensures m)).1,
  λ p d in_group gone cover. elim (cases_eq d c.in-Some.place) as (λ _. set.contains c.union-known.result p ≡ true) [
    | inl same ↦ inside _ _ (sym c.is_subset-in-Some.ensures ∙ c.if-not-is_subset-2.false) p
        (subst (λ s. set.contains s p ≡ true) (sym c.ancestors.ensures)
        (subst (λ (k : ℕ). is_ancestor c.args.dep.now p k ≡ true) same cover.ancestor))
    | inr other ↦ c.loop-place.invariant.1 p d in_group
        (λ m. gone (subst (λ s. set.contains s d ≡ true) (sym c.remove.ensures) (to_remove _ _ d other m))) cover
  ],
)

pub returns : goal.returns
returns g c = λ _. record {
  some =
      some_of (64 * g.row.W) c.args.group.now c.least.result c.is_none.result c.least.ensures.within c.least.ensures.least c.is_none.ensures c.if-is_none.false;
  inside = λ t m. (minus_parts c.args.members.now c.args.done.now t (subst (λ s. set.contains s t ≡ true) c.minus.ensures
      (inside c.args.group.now c.minus.result (sym c.is_subset.ensures ∙ c.if-not-is_subset.false) t m))).0;
  apart = λ t m. (minus_parts c.args.members.now c.args.done.now t (subst (λ s. set.contains s t ≡ true) c.minus.ensures
      (inside c.args.group.now c.minus.result (sym c.is_subset.ensures ∙ c.if-not-is_subset.false) t m))).1;
  parents_known = λ p d m cover. from_union c.args.done.now c.args.group.now p (subst (λ s. set.contains s p ≡ true) c.union-known.ensures
      (c.loop-place.invariant.1 p d m (λ l. clash _ l (ap (λ s. set.contains s d) c.in_default.ensures.least ∙ contains-empty d)) cover));
}
