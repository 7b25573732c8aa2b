-- One cluster goes out of the top level, or comes into it.
use Rattle.std.proofs.Common.{◌≡◌, ℕ, Bool, true, false, cond, [], ◌∷◌, Some, None, inl, inr, refl, sym, ap, ◌∙◌, true≢false}
use Rattle.std.specs.Prelude.{option_map}
use Rattle.std.proofs.lemmas.Bool.{cases_eq}
use Rattle.std.proofs.lemmas.Option.{same_Some}
use Rattle.std.specs.FinMap as finmap
use Rattle.lists.proofs.Entries.{none_in_empty}
use Rattle.graphs.specs.declared.names.Level.TheVariants.{Main, Top}
use Rattle.chunk_index.specs.declared.entry.Tag.{Tag}
use Rattle.chunk_index.specs.declared.entry.Tag.TheVariants.{Both, MainOnly, TopOnly}
use Rattle.chunk_index.specs.Items.{is_in}
use Rattle.cluster.specs.Clusters.{Cluster}
use Rattle.cluster_store.specs.Stores.{Stored, Numbered}
use Rattle.cluster_store.specs.Changes.{Sets, moved_to, with_cluster}
use Rattle.cluster_store.specs.Tops.{AllHave, Exchanged, left_of, seen_in, seen_at, tag_at, top_tag}
use Rattle.cluster_store.proofs.Seen.{InTop, both_of_new, free_unseen, in_new_tag, main_of_new, leave_both, leave_main, leave_top, same_seen, seen_stored}
use Rattle.cluster_store.proofs.Listed.{at_none, at_one, only_one, other_one}

-- ---- a cluster leaves

pub leaves : (staged : Bool) (old new : Numbered) (number : ℕ) (tag : Tag) → InTop old number → tag_at old number ≡ Some tag
    → Sets number (moved_to (left_of staged tag) (finmap.get old number)) old new → (staged ≡ false → AllHave Both old)
    → Exchanged staged (number ∷ []) [] [] old new
leaves staged old new number tag there is sets both = record {
  top = record {
    once = tt;
    stand = at_none (seen_at Top new);
    room = λ n here. absurd (none_in_empty n here);
    cleared = λ n here free. ap (seen_at Top new) (only_one number n here) ∙ leave_top staged old new number tag there is sets;
    elsewhere = λ n out free. same_seen Top old new n (sets.others n (other_one number n out));
  };
  main = leave_main staged old new number tag there is sets;
  fresh = λ opened n here. absurd (none_in_empty n here);
  both = λ shut. leave_both staged old new number tag there is sets shut (both shut);
}

-- ---- a cluster comes in under a number that was free

module _ (staged : Bool) (old new : Numbered) (made : ℕ) (c : Cluster) (free : finmap.get old made ≡ None)
    (adds : Sets made (Some (record { cluster = c; tag = top_tag staged })) old new) (both : staged ≡ false → AllHave Both old) where
  pub comes_new : Exchanged staged [] (made ∷ []) (c ∷ []) old new
  comes_new = record {
    top = record {
      once = ((λ here. none_in_empty made here), tt);
      stand = at_one (seen_at Top new) made c (seen_stored Top new made (record { cluster = c; tag = top_tag staged }) adds.changed (in_new_tag staged));
      room = λ n here. inr (ap (seen_at Top old) (only_one made n here) ∙ free_unseen Top old made free);
      cleared = λ n here none. absurd (none_in_empty n here);
      elsewhere = λ n out none. same_seen Top old new n (adds.others n (other_one made n none));
    };
    main = λ opened n. elim (cases_eq n made) [
      | inl same ↦
          ap (seen_at Main new) same ∙ ap (seen_in Main) adds.changed ∙ main_of_new staged c opened ∙ sym (free_unseen Main old made free)
          ∙ ap (seen_at Main old) (sym same)
      | inr other ↦ same_seen Main old new n (adds.others n other)
    ];
    fresh = λ opened n at. ap (seen_at Main new) (only_one made n at) ∙ ap (seen_in Main) adds.changed ∙ main_of_new staged c opened;
    both = λ shut n s at. elim (cases_eq n made) [
      | inl same ↦
          let x : Stored = record { cluster = c; tag = top_tag staged } in
          ap (λ (y : Stored). y.tag) (sym (same_Some x s (sym adds.changed ∙ ap (finmap.get new) (sym same) ∙ at))) ∙ both_of_new staged shut
      | inr other ↦ both shut n s (sym (adds.others n other) ∙ at)
    ];
  }

-- ---- a cluster comes in under the same number

in_tag : (t : Tag) → is_in Top t ≡ true → (t ≡ Both → ⊥) → is_in Main t ≡ false
in_tag Both top apart = absurd (apart refl)
in_tag MainOnly top apart = absurd (true≢false (sym top))
in_tag TopOnly top apart = refl

module _ (staged : Bool) (old new : Numbered) (number : ℕ) (tag : Tag) (c : Cluster) (there : InTop old number) (is : tag_at old number ≡ Some tag)
    (gives : (staged ≡ true) → (tag ≡ Both) → ⊥) (both : staged ≡ false → AllHave Both old)
    (sets : Sets number (with_cluster c (finmap.get old number)) old new) where
  now : finmap.get new number ≡ Some (record { cluster = c; tag = there.stored.tag })
  now = sets.changed ∙ ap (with_cluster c) there.is

  tag_is : tag ≡ there.stored.tag
  tag_is = same_Some tag there.stored.tag (sym is ∙ ap (option_map (λ (s : Stored). s.tag)) there.is)

  none_tag : staged ≡ true → is_in Main there.stored.tag ≡ false
  none_tag opened = in_tag there.stored.tag there.top (λ same. gives opened (tag_is ∙ same))

  main_none : staged ≡ true → seen_at Main new number ≡ None
  main_none opened = ap (seen_in Main) now ∙ ap (λ b. cond b (Some c) None) (none_tag opened)

  main_here : staged ≡ true → seen_at Main new number ≡ seen_at Main old number
  main_here opened =
      main_none opened ∙ sym (ap (seen_in Main) there.is ∙ ap (λ b. cond b (Some there.stored.cluster) None) (none_tag opened))

  pub comes_same : Exchanged staged (number ∷ []) (number ∷ []) (c ∷ []) old new
  comes_same = record {
    top = record {
      once = ((λ here. none_in_empty number here), tt);
      stand = at_one (seen_at Top new) number c (seen_stored Top new number (record { cluster = c; tag = there.stored.tag }) now there.top);
      room = λ n here. inl here;
      cleared = λ n here free. absurd (free here);
      elsewhere = λ n out free. same_seen Top old new n (sets.others n (other_one number n out));
    };
    main = λ opened n. elim (cases_eq n number) [
      | inl same ↦ ap (seen_at Main new) same ∙ main_here opened ∙ ap (seen_at Main old) (sym same)
      | inr other ↦ same_seen Main old new n (sets.others n other)
    ];
    fresh = λ opened n here. ap (seen_at Main new) (only_one number n here) ∙ main_none opened;
    both = λ shut n s at. elim (cases_eq n number) [
      | inl same ↦
          let one : record { cluster = c; tag = there.stored.tag } ≡ s =
          same_Some (record { cluster = c; tag = there.stored.tag }) s (sym now ∙ ap (finmap.get new) (sym same) ∙ at) in
          ap (λ (x : Stored). x.tag) (sym one) ∙ both shut number there.stored there.is
      | inr other ↦ both shut n s (sym (sets.others n other) ∙ at)
    ];
  }
