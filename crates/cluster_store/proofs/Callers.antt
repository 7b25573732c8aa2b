-- What callers owe: which clusters may leave the top level while there is a staging, and which may be exchanged.
use Rattle.std.proofs.Common.{◌≡◌, ℕ, true, [], ◌∷◌, Option, Some, None, is_some, IsSome, MatchOption, inl, inr, sym, ap, ◌∙◌, subst, true≢false}
use Rattle.std.specs.FinMap as finmap
use Rattle.lists.specs.Distinct.{AreDistinct}
use Rattle.lists.proofs.Entries.{Contains-cases, none_in_empty}
use Rattle.graphs.specs.declared.names.Level.TheVariants.{Top}
use Rattle.chunk_index.specs.declared.entry.Tag.{Tag}
use Rattle.chunk_index.specs.Items.{is_in}
use Rattle.cluster_store.specs.Stores.{Stored, Exchange, Numbered}
use Rattle.cluster_store.specs.Changes.{AreHeld}
use Rattle.cluster_store.specs.Tops.{MayLeave, StandsInTop}
use Rattle.cluster_store.proofs.Seen.{seen_stored}

one_is_distinct : (a : ℕ) → AreDistinct (a ∷ [])
one_is_distinct a = ((λ here. none_in_empty a here), tt)

two_are_distinct : (a b : ℕ) → (a ≡ b → ⊥) → AreDistinct (a ∷ b ∷ [])
two_are_distinct a b apart = (
  (λ here. elim (Contains-cases b a [] here) [ inl same ↦ apart (sym same) | inr later ↦ none_in_empty a later ]),
  one_is_distinct b,
)

-- ---- what may leave

pub none_leave : (clusters : Numbered) → MayLeave true [] clusters
none_leave clusters = record { once = tt; there = λ n here. absurd (none_in_empty n here); both = λ shut. absurd (true≢false shut) }

pub one_leaves : (a : ℕ) (clusters : Numbered) → StandsInTop clusters a → MayLeave true (a ∷ []) clusters
one_leaves a clusters stands = record {
  once = one_is_distinct a;
  there = λ n here. elim (Contains-cases a n [] here) [
    | inl same ↦ subst (StandsInTop clusters) same stands
    | inr later ↦ absurd (none_in_empty n later)
  ];
  both = λ shut. absurd (true≢false shut);
}

pub two_leave : (a b : ℕ) (clusters : Numbered) → (a ≡ b → ⊥) → StandsInTop clusters a → StandsInTop clusters b → MayLeave true (a ∷ b ∷ []) clusters
two_leave a b clusters apart first second = record {
  once = two_are_distinct a b apart;
  there = λ n here. elim (Contains-cases a n (b ∷ []) here) [
    | inl same ↦ subst (StandsInTop clusters) same first
    | inr later ↦ (one_leaves b clusters second).there n later
  ];
  both = λ shut. absurd (true≢false shut);
}

-- what is stored with a tag of the top level stands there
pub stands_by : (clusters : Numbered) (n : ℕ) (s : Stored) (tag : Tag) → finmap.get clusters n ≡ Some s → tag ≡ s.tag → is_in Top tag ≡ true
    → StandsInTop clusters n
stands_by clusters n s tag is same top = ap is_some (seen_stored Top clusters n s is (ap (is_in Top) (sym same) ∙ top))

-- ---- what may be exchanged

pub one_held : (x : Exchange) (clusters : Numbered) → IsSome (finmap.get clusters x.number) → AreHeld (x ∷ []) clusters
one_held x clusters there = record {
  once = one_is_distinct x.number;
  there = λ n here. elim (Contains-cases x.number n [] here) [
    | inl same ↦ subst (λ (m : ℕ). IsSome (finmap.get clusters m)) same there
    | inr later ↦ absurd (none_in_empty n later)
  ];
}

-- a number that has a tag has a cluster
pub held_by : (tag : Option Tag) (clusters : Numbered) (n : ℕ) → IsSome tag
    → MatchOption tag (finmap.get clusters n ≡ None) (λ t. (s : Stored) × (finmap.get clusters n ≡ Some s) × (t ≡ s.tag)) → IsSome (finmap.get clusters n)
held_by None clusters n some told = absurd (true≢false (sym some))
held_by (Some t) clusters n some told = ap is_some told.1
