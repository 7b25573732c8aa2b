-- The steps of a change of the top level, told by the slots.
use Rattle.std.proofs.Common.{◌≡◌, ℕ, ◌<◌, suc, Bool, true, List, [], ◌∷◌, ◌++◌, map, length, get_or, take, drop, Contains, Option, Some, None, is_some, IsSome, refl, sym, ap, ◌∙◌, subst, true≢false}
use Rattle.std.specs.Prelude.{option_map, option_to_list}
use Rattle.std.proofs.lemmas.List.{get_or_default, take-append-drop}
use Rattle.std.proofs.lemmas.Option.{same_Some}
use Rattle.lists.proofs.Entries.{Contains-head, none_in_empty}
use Rattle.chunk_index.specs.declared.entry.Tag.{Tag}
use Rattle.chunk_index.specs.declared.entry.Tag.TheVariants.{Both}
use Rattle.cluster.specs.Clusters.{Cluster}
use Rattle.cluster_store.specs.Stores.{Stored, Numbered}
use Rattle.cluster_store.specs.Kept.{Slots, at, shelved}
use Rattle.cluster_store.specs.Slots.{AddsTo, MovesIn, Places, Writes}
use Rattle.cluster_store.specs.Tops.{Exchanged, MainKeeps, MayLeave, TopChanges, left_of, tag_at, top_tag}
use Rattle.cluster_store.proofs.Arriving.{arrived, free, made_count, tagged}
use Rattle.cluster_store.proofs.Coming.{comes_new, comes_same, leaves}
use Rattle.cluster_store.proofs.Done.{next_taken}
use Rattle.cluster_store.proofs.Following.{came_apart, followed, may_front, may_rest}
use Rattle.cluster_store.proofs.Kept.{shelved_moved, shelved_written}
use Rattle.cluster_store.proofs.Seen.{in_top}
use Rattle.cluster_store.proofs.Shelves.{get_shelved}
use Rattle.cluster_store.proofs.Single.{shelved_placed}

-- those that may leave are stored
pub there_at : (staged : Bool) (outs : List ℕ) (slots : Slots) (n : ℕ) → MayLeave staged outs (shelved slots) → Contains outs n → IsSome (at slots n)
there_at staged outs slots n may here =
    let there = in_top (shelved slots) n (may.there n here) in ap is_some (sym (get_shelved slots n) ∙ there.is)

pub tag_told : (slots : Slots) (n : ℕ) (s : Stored) (tag : Tag) → at slots n ≡ Some s → tag ≡ s.tag → tag_at (shelved slots) n ≡ Some tag
tag_told slots n s tag is same = ap (option_map (λ (t : Stored). t.tag)) (get_shelved slots n ∙ is) ∙ ap Some (sym same)

heads : (x y : ℕ) (xs ys : List ℕ) → x ∷ xs ≡ y ∷ ys → x ≡ y
heads x y xs ys e = cc

-- ---- whether main keeps the first of those that leave

module _ (staged : Bool) (slots : Slots) (first : ℕ) (s : Stored) (tag : Tag) (is : at slots first ≡ Some s) (same : tag ≡ s.tag) where
  pub keeps_first : (outs others : List ℕ) → outs ≡ first ∷ others → (staged ≡ true) × (tag ≡ Both)
      → (f : ℕ) (o : List ℕ) → outs ≡ f ∷ o → MainKeeps staged (shelved slots) f
  keeps_first outs others outs_are told f o outs_too = (
    told.0,
    subst (λ (n : ℕ). tag_at (shelved slots) n ≡ Some Both) (heads first f others o (sym outs_are ∙ outs_too))
        (tag_told slots first s tag is same ∙ ap (λ (t : Tag). Some t) told.1),
  )

  pub gives_first : ((staged ≡ true) × (tag ≡ Both) → ⊥) → MainKeeps staged (shelved slots) first → ⊥
  gives_first apart keeps = apart (keeps.0, same_Some tag Both (sym (tag_told slots first s tag is same) ∙ keeps.1))

-- ---- one leaves, and then another

pub left_by : (staged : Bool) (slots slots' : Slots) (n : ℕ) (s : Stored) (tag : Tag) (to : Option Tag) → MayLeave staged (n ∷ []) (shelved slots)
    → at slots n ≡ Some s → tag ≡ s.tag → to ≡ left_of staged tag → MovesIn slots slots' n to
    → Exchanged staged (n ∷ []) [] [] (shelved slots) (shelved slots')
left_by staged slots slots' n s tag to may is same goes moves =
    let there = in_top (shelved slots) n (may.there n (Contains-head n [])) in
    leaves staged (shelved slots) (shelved slots') n tag there (tag_told slots n s tag is same)
    (shelved_moved slots slots' n (left_of staged tag) (subst (MovesIn slots slots' n) goes moves) (shelved slots) (shelved slots') refl refl) may.both

module _ (staged : Bool) (outs : List ℕ) (i n : ℕ) (old cur : Numbered) (low : i < length outs) (is : n ≡ get_or outs i 0) (may : MayLeave staged outs old)
    (so_far : Exchanged staged (take i outs) [] [] old cur) where
  more : take (suc i) outs ≡ take i outs ++ n ∷ []
  more = next_taken outs i n low (is ∙ get_or_default outs i 0 n low)

  may_more : MayLeave staged (take i outs ++ n ∷ []) old
  may_more =
      subst (λ (xs : List ℕ). MayLeave staged xs old) more
      (may_front staged (take (suc i) outs) (drop (suc i) outs) old
      (subst (λ (xs : List ℕ). MayLeave staged xs old) (sym (take-append-drop (suc i) outs)) may))

  pub may_next : MayLeave staged (n ∷ []) cur
  may_next = may_rest staged (take i outs) (n ∷ []) [] [] old cur may_more so_far

  pub left_more : (new : Numbered) → Exchanged staged (n ∷ []) [] [] cur new → Exchanged staged (take (suc i) outs) [] [] old new
  left_more new next =
      subst (λ (xs : List ℕ). Exchanged staged xs [] [] old new) (sym more)
      (followed staged (take i outs) (n ∷ []) [] [] old cur may_more so_far [] [] new next)

-- ---- one comes in, and others leave

module _ (staged : Bool) (slots mid : Slots) (first : ℕ) (others : List ℕ) (c : Cluster) (may : MayLeave staged (first ∷ others) (shelved slots))
    (gives : MainKeeps staged (shelved slots) first → ⊥) (places : Places slots mid first c) where
  under_first : Exchanged staged (first ∷ []) (first ∷ []) (c ∷ []) (shelved slots) (shelved mid)
  under_first =
      let there = in_top (shelved slots) first (may.there first (Contains-head first others)) in
      let tag : tag_at (shelved slots) first ≡ Some there.stored.tag = ap (option_map (λ (t : Stored). t.tag)) there.is in
      comes_same staged (shelved slots) (shelved mid) first there.stored.tag c there tag
      (λ opened both. gives (opened, tag ∙ ap (λ (t : Tag). Some t) both)) may.both
      (shelved_placed slots mid first c places (shelved slots) (shelved mid) refl refl)

  pub may_others : MayLeave staged others (shelved mid)
  may_others = may_rest staged (first ∷ []) others (first ∷ []) (c ∷ []) (shelved slots) (shelved mid) may under_first

  pub put_under : (new : Numbered) → Exchanged staged others [] [] (shelved mid) new
      → Exchanged staged (first ∷ others) (first ∷ []) (c ∷ []) (shelved slots) new
  put_under new next = followed staged (first ∷ []) others (first ∷ []) (c ∷ []) (shelved slots) (shelved mid) may under_first [] [] new next

module _ (staged : Bool) (slots mid : Slots) (outs : List ℕ) (n : ℕ) (c : Cluster) (s : Stored) (may : MayLeave staged outs (shelved slots))
    (free_slot : at slots n ≡ None) (writes : Writes slots mid n (Some s)) (is : s ≡ record { cluster = c; tag = top_tag staged }) where
  beside_first : Exchanged staged [] (n ∷ []) (c ∷ []) (shelved slots) (shelved mid)
  beside_first =
      comes_new staged (shelved slots) (shelved mid) n c (get_shelved slots n ∙ free_slot)
      (shelved_written slots mid n (Some (record { cluster = c; tag = top_tag staged }))
      (subst (λ (t : Stored). Writes slots mid n (Some t)) is writes) (shelved slots) (shelved mid) refl refl) may.both

  pub may_all : MayLeave staged outs (shelved mid)
  may_all = may_rest staged [] outs (n ∷ []) (c ∷ []) (shelved slots) (shelved mid) may beside_first

  pub put_beside : (new : Numbered) → Exchanged staged outs [] [] (shelved mid) new → Exchanged staged outs (n ∷ []) (c ∷ []) (shelved slots) new
  put_beside new next = followed staged [] outs (n ∷ []) (c ∷ []) (shelved slots) (shelved mid) may beside_first [] [] new next

-- ---- as a change of the top level

pub one_under : (staged : Bool) (outs : List ℕ) (first : ℕ) (others : List ℕ) (c : Cluster) (old new : Numbered) → outs ≡ first ∷ others
    → Exchanged staged (first ∷ others) (first ∷ []) (c ∷ []) old new → TopChanges staged outs [] (Some first) [] (Some c) old new
one_under staged outs first others c old new is x = record {
  exchanged = subst (λ (xs : List ℕ). Exchanged staged xs (first ∷ []) (c ∷ []) old new) (sym is) x;
  count = refl;
  free = λ n here. absurd (none_in_empty n here);
  under = λ f o outs_are some gives. ap Some (heads first f others o (sym is ∙ outs_are));
}

pub one_beside : (staged : Bool) (outs : List ℕ) (n : ℕ) (c : Cluster) (old new : Numbered)
    → ((first : ℕ) (others : List ℕ) → outs ≡ first ∷ others → MainKeeps staged old first)
    → Exchanged staged outs (n ∷ []) (c ∷ []) old new → TopChanges staged outs [] (Some n) [] (Some c) old new
one_beside staged outs n c old new keeps x = record {
  exchanged = x;
  count = refl;
  free = λ m here. absurd (none_in_empty m here);
  under = λ f o is some gives. absurd (gives (keeps f o is));
}

pub none_comes : (staged : Bool) (outs : List ℕ) (old new : Numbered) → Exchanged staged outs [] [] old new → TopChanges staged outs [] None [] None old new
none_comes staged outs old new x = record {
  exchanged = x;
  count = refl;
  free = λ m here. absurd (none_in_empty m here);
  under = λ f o is some gives. absurd (true≢false (sym some));
}

module _ (staged : Bool) (outs : List ℕ) (rest : List Cluster) (made : List ℕ) (old mid : Slots) (may : MayLeave staged outs (shelved old))
    (adds : AddsTo (map (tagged (top_tag staged)) rest) made old mid) where
  came : Exchanged staged [] made rest (shelved old) (shelved mid)
  came = arrived staged rest made old mid adds may.both

  pub may_still : MayLeave staged outs (shelved mid)
  may_still = may_rest staged [] outs made rest (shelved old) (shelved mid) may came

  same_tag : (n : ℕ) → Contains outs n → tag_at (shelved mid) n ≡ tag_at (shelved old) n
  same_tag n here =
      ap (option_map (λ (t : Stored). t.tag))
      (get_shelved mid n ∙ adds.others n (λ new. came_apart staged [] outs made rest (shelved old) (shelved mid) may came n new here) ∙ sym (get_shelved old n))

  pub all_changed : (number : Option ℕ) (last : Option Cluster) (new : Numbered) → TopChanges staged outs [] number [] last (shelved mid) new
      → TopChanges staged outs made number rest last (shelved old) new
  all_changed number last new x = record {
    exchanged =
        followed staged [] outs made rest (shelved old) (shelved mid) may came (option_to_list number) (option_to_list last) new x.exchanged;
    count = made_count staged rest made old mid adds may.both;
    free = free staged rest made old mid adds may.both;
    under = λ f o is some gives.
        x.under f o is some (λ keeps. gives (keeps.0, sym (same_tag f (subst (λ (xs : List ℕ). Contains xs f) (sym is) (Contains-head f o))) ∙ keeps.1));
  }
