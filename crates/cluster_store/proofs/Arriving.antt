-- Clusters come into the top level under numbers that were free.
use Rattle.std.proofs.Common.{◌≡◌, ℕ, ◌<◌, Bool, true, false, List, [], map, length, Contains, Some, None, inl, inr, sym, ap, ◌∙◌, arith}
use Rattle.std.specs.Prelude.{slice_get, slice_index, option_map}
use Rattle.std.specs.FinMap as finmap
use Rattle.std.proofs.lemmas.List.{get_or_default, length-map}
use Rattle.std.proofs.lemmas.Option.{same_Some, slice_get-map, slice_get_cases}
use Rattle.lists.proofs.Entries.{none_in_empty}
use Rattle.lists.proofs.Told.{told_number}
use Rattle.graphs.specs.declared.names.Level.TheVariants.{Main, Top}
use Rattle.chunk_index.specs.declared.entry.Tag.{Tag}
use Rattle.chunk_index.specs.declared.entry.Tag.TheVariants.{Both}
use Rattle.cluster.specs.Clusters.{Cluster}
use Rattle.cluster_store.specs.Stores.{Stored}
use Rattle.cluster_store.specs.Kept.{Slots, shelved}
use Rattle.cluster_store.specs.Slots.{AddsTo}
use Rattle.cluster_store.specs.Tops.{AllHave, Exchanged, seen_in, seen_at, top_tag}
use Rattle.cluster_store.proofs.Seen.{both_of_new, free_unseen, in_new_tag, main_of_new, same_seen, seen_stored}
use Rattle.cluster_store.proofs.Shelves.{get_shelved}

-- clusters that are to have a tag
abbrev pub tagged : Tag → Cluster → Stored
tagged tag c = record { cluster = c; tag = tag }

-- the place of a number
pub place_of : (list : List ℕ) (n : ℕ) → Contains list n → (i : ℕ) × (i < length list) × (slice_index list i ≡ n)
place_of list n here = (here.0, here.1, get_or_default list here.0 0 n here.1 ∙ here.2)

module _ (staged : Bool) (rest : List Cluster) (made : List ℕ) (old new : Slots) (adds : AddsTo (map (tagged (top_tag staged)) rest) made old new)
    (both : staged ≡ false → AllHave Both (shelved old)) where
  tag : Tag
  tag = top_tag staged

  pub free : (n : ℕ) → Contains made n → finmap.get (shelved old) n ≡ None
  free n here = get_shelved old n ∙ adds.free n here

  pub made_count : length made ≡ length rest
  made_count = adds.count ∙ length-map rest (tagged (top_tag staged))

  stands : (i : ℕ) (c : Cluster) → slice_get rest i ≡ Some c
      → finmap.get (shelved new) (slice_index made i) ≡ Some (tagged (top_tag staged) c)
  stands i c is =
      get_shelved new (slice_index made i)
      ∙ adds.stand i (tagged (top_tag staged) c) (slice_get-map (tagged (top_tag staged)) rest i ∙ ap (option_map (tagged (top_tag staged))) is)

  added_at : (n : ℕ) → Contains made n → (c : Cluster) × (finmap.get (shelved new) n ≡ Some (tagged (top_tag staged) c))
  added_at n here =
      let place = place_of made n here in
      elim (slice_get_cases rest place.0).1 [
        | inl some ↦ (some.0, ap (finmap.get (shelved new)) (sym place.2) ∙ stands place.0 some.0 some.2)
        | inr past ↦ absurd (omega (arith, made_count, place.1, past.0))
      ]

  others : (n : ℕ) → (Contains made n → ⊥) → finmap.get (shelved new) n ≡ finmap.get (shelved old) n
  others n none = get_shelved new n ∙ adds.others n none ∙ sym (get_shelved old n)

  unseen : staged ≡ true → (n : ℕ) → Contains made n → seen_at Main (shelved new) n ≡ None
  unseen opened n here = let at = added_at n here in ap (seen_in Main) at.1 ∙ main_of_new staged at.0 opened

  pub arrived : Exchanged staged [] made rest (shelved old) (shelved new)
  arrived = record {
    top = record {
      once = adds.once;
      stand = record {
        count = made_count;
        stand = λ i c is. seen_stored Top (shelved new) (slice_index made i) (tagged (top_tag staged) c) (stands i c is) (in_new_tag staged);
      };
      room = λ n here. inr (free_unseen Top (shelved old) n (free n here));
      cleared = λ n here none. absurd (none_in_empty n here);
      elsewhere = λ n out none. same_seen Top (shelved old) (shelved new) n (others n none);
    };
    main = λ opened n. elim (told_number made n) [
      | inl here ↦ unseen opened n here ∙ sym (free_unseen Main (shelved old) n (free n here))
      | inr none ↦ same_seen Main (shelved old) (shelved new) n (others n none)
    ];
    fresh = unseen;
    both = λ shut n s is. elim (told_number made n) [
      | inl here ↦
          let at = added_at n here in
          ap (λ (x : Stored). x.tag) (sym (same_Some (tagged (top_tag staged) at.0) s (sym at.1 ∙ is))) ∙ both_of_new staged shut
      | inr none ↦ both shut n s (sym (others n none) ∙ is)
    ];
  }
