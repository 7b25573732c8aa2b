-- One change of the top level follows another.
use Rattle.std.proofs.Common.{◌≡◌, ℕ, Bool, false, List, [], ◌++◌, Contains, None, inl, inr, ◌⊎◌, refl, sym, ap, ◌∙◌, is_some}
use Rattle.std.proofs.lemmas.List.Elements.{Contains-append_left, Contains-append_right, Contains-append_cases}
use Rattle.lists.proofs.Distinct.{distinct-append_left, distinct-append_right, distinct_apart, distinct_joined}
use Rattle.lists.proofs.Entries.{none_in_empty}
use Rattle.lists.proofs.Told.{told_number}
use Rattle.graphs.specs.declared.names.Level.TheVariants.{Top}
use Rattle.chunk_index.specs.declared.entry.Tag.TheVariants.{Both}
use Rattle.cluster.specs.Clusters.{Cluster}
use Rattle.cluster_store.specs.Stores.{Numbered}
use Rattle.cluster_store.specs.Tops.{AllHave, Exchanged, MayLeave, StandsInTop, seen_at}
use Rattle.cluster_store.proofs.Listed.{at_none, at_joined, at_same, at_some}
use Rattle.cluster_store.proofs.Missing.{none_there}

pub exchanged_none : (staged : Bool) (old : Numbered) → (staged ≡ false → AllHave Both old) → Exchanged staged [] [] [] old old
exchanged_none staged old both = record {
  top = record {
    once = tt;
    stand = at_none (seen_at Top old);
    room = λ n here. absurd (none_in_empty n here);
    cleared = λ n here free. absurd (none_in_empty n here);
    elsewhere = λ n out free. refl;
  };
  main = λ opened n. refl;
  fresh = λ opened n here. absurd (none_in_empty n here);
  both = both;
}

-- fewer go out
pub may_front : (staged : Bool) (o p : List ℕ) (old : Numbered) → MayLeave staged (o ++ p) old → MayLeave staged o old
may_front staged o p old may = record {
  once = distinct-append_left o p may.once;
  there = λ n here. may.there n (Contains-append_left o p n here);
  both = may.both;
}

module _ (staged : Bool) (o p l : List ℕ) (xs : List Cluster) (old mid : Numbered) (may : MayLeave staged (o ++ p) old)
    (first : Exchanged staged o l xs old mid) where
  -- those that came in aren't to go out
  pub came_apart : (n : ℕ) → Contains l n → Contains p n → ⊥
  came_apart n here there = elim (first.top.room n here) [
    | inl out ↦ distinct_apart o p n may.once out there
    | inr none ↦ none_there none (may.there n (Contains-append_right o p n there))
  ]

  still : (n : ℕ) → Contains p n → StandsInTop mid n
  still n here =
      ap is_some (first.top.elsewhere n (λ out. distinct_apart o p n may.once out here) (λ came. came_apart n came here))
      ∙ may.there n (Contains-append_right o p n here)

  pub may_rest : MayLeave staged p mid
  may_rest = record { once = distinct-append_right o p may.once; there = still; both = first.both }

  module _ (m : List ℕ) (ys : List Cluster) (new : Numbered) (second : Exchanged staged p m ys mid new) where
    came_first : (n : ℕ) → Contains l n → Contains m n → ⊥
    came_first n here there = elim (second.top.room n there) [
      | inl out ↦ came_apart n here out
      | inr none ↦ none_there none (at_some (seen_at Top mid) l xs n first.top.stand here)
    ]

    first_kept : (n : ℕ) → Contains l n → seen_at Top new n ≡ seen_at Top mid n
    first_kept n here = second.top.elsewhere n (came_apart n here) (came_first n here)

    room : (n : ℕ) → Contains (l ++ m) n → Contains (o ++ p) n ⊎ (seen_at Top old n ≡ None)
    room n here = elim (Contains-append_cases l m n here) [
      | inl left ↦ elim (first.top.room n left) [ inl out ↦ inl (Contains-append_left o p n out) | inr none ↦ inr none ]
      | inr right ↦ elim (second.top.room n right) [
        | inl out ↦ inl (Contains-append_right o p n out)
        | inr none ↦ elim (told_number o n) [
          | inl out ↦ inl (Contains-append_left o p n out)
          | inr stays ↦ inr (sym (first.top.elsewhere n stays (λ came. came_first n came right)) ∙ none)
        ]
      ]
    ]

    cleared : (n : ℕ) → Contains (o ++ p) n → (Contains (l ++ m) n → ⊥) → seen_at Top new n ≡ None
    cleared n out none = elim (told_number p n) [
      | inl now ↦ second.top.cleared n now (λ here. none (Contains-append_right l m n here))
      | inr not_now ↦ elim (Contains-append_cases o p n out) [
        | inl before ↦
            second.top.elsewhere n not_now (λ here. none (Contains-append_right l m n here))
            ∙ first.top.cleared n before (λ here. none (Contains-append_left l m n here))
        | inr now ↦ absurd (not_now now)
      ]
    ]

    pub followed : Exchanged staged (o ++ p) (l ++ m) (xs ++ ys) old new
    followed = record {
      top = record {
        once = distinct_joined l m first.top.once second.top.once came_first;
        stand = at_joined (seen_at Top new) l m xs ys (at_same (seen_at Top mid) (seen_at Top new) l xs first.top.stand first_kept) second.top.stand;
        room = room;
        cleared = cleared;
        elsewhere = λ n out free.
            second.top.elsewhere n (λ here. out (Contains-append_right o p n here)) (λ here. free (Contains-append_right l m n here))
            ∙ first.top.elsewhere n (λ here. out (Contains-append_left o p n here)) (λ here. free (Contains-append_left l m n here));
      };
      main = λ opened n. second.main opened n ∙ first.main opened n;
      fresh = λ opened n here. elim (Contains-append_cases l m n here) [
        | inl left ↦ second.main opened n ∙ first.fresh opened n left
        | inr right ↦ second.fresh opened n right
      ];
      both = second.both;
    }
