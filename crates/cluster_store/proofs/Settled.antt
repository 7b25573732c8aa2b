-- Where a staging is closed and a level stays.
use Rattle.std.proofs.Common.{◌≡◌, ℕ, ◌<◌, Bool, true, false, cond, List, [], ◌∷◌, ◌++◌, map, length, get_or, filter, nat_eq, Option, Some, None, is_some, Contains, ◌⊎◌, inl, inr, refl, sym, ap, ◌∙◌, subst, arith}
use Rattle.std.proofs.lemmas.Bool.{cases_eq, false_from_ne_true}
use Rattle.std.proofs.lemmas.List.{append-nil, map-id}
use Rattle.std.proofs.lemmas.List.Elements.{Contains-append_left, Contains-push, Contains-push_cases, filter-append}
use Rattle.std.proofs.lemmas.Option.{none-some, same_Some, slice_get-get_or, slice_get_within}
use Rattle.std.specs.Cmp.{unsigned_Decides}
use Rattle.std.specs.List.{AllByRecursion, list_any, slice_get}
use Rattle.std.specs.Ordering.{is_eq}
use Rattle.std.specs.declared.cmp.Ordering.TheVariants.{Less}
use Rattle.lists.proofs.Entries.{Contains-filter, filter-Contains, map-Contains, Contains-map}
use Rattle.lists.proofs.Told.{told_number}
use Rattle.graphs.specs.declared.names.Level.{Level}
use Rattle.graphs.specs.declared.names.Level.TheVariants.{Main, Top}
use Rattle.chunk_index.specs.declared.entry.Entry.{Entry}
use Rattle.chunk_index.specs.declared.entry.Tag.{Tag}
use Rattle.chunk_index.specs.declared.entry.Tag.TheVariants.{Both, MainOnly, TopOnly}
use Rattle.chunk_index.specs.declared.key.Key.{Key}
use Rattle.chunk_index.specs.KeyOrder.{key_cmp}
use Rattle.chunk_index.specs.Keys.{key_of, IsInOrder}
use Rattle.chunk_index.specs.Items.{Items, item_key, AreInOrder, same_tag, is_in, shared, entries_by, entries_in, entries_tagged}
use Rattle.chunk_index.proofs.Tags.{entries_in_order}
use Rattle.graphs.specs.Certificates.{Part}
use Rattle.cluster.specs.Clusters.{Cluster}
use Rattle.cluster_store.specs.Keys.{key_part}
use Rattle.cluster_store.specs.Stores.{Stored, no_part}
use Rattle.cluster_store.specs.Changes.{moved_to, settled_to, settled}
use Rattle.cluster_store.specs.Slots.{Done, MovesIn, MovesFirsts, Writes, firsts, other_tag}
use Rattle.cluster_store.specs.Unordered.{IsUnordered, settled_by, settled_unordered}
use Rattle.chunk_index.specs.Settling.{alone}
use Rattle.cluster_store.specs.Kept.{Slots, at, same_key, found, has_rate, is_rate, tag_for, AreNumbered, IsShown, IsKept}
use Rattle.cluster_store.proofs.Done.{done_none}
use Rattle.cluster_store.proofs.Founds.{same_is, same_turned}
use Rattle.cluster_store.proofs.Fresh.{rate_here}
use Rattle.cluster_store.proofs.Lacking.{listed_contains}
use Rattle.cluster_store.proofs.Kept.{kept_stood, moved_cluster}
use Rattle.cluster_store.proofs.Walks.{all_at, found_listed, listed_found, part_of_item}

-- ---- one entry more of a walk

-- One number more had a change that changes nothing where it was made before.
module _ {X : Type 0} (number : X → ℕ) (f : Option Stored → Option Stored) (twice : (o : Option Stored) → f (f o) ≡ f o)
    (xs : List X) (x : X) (old cur new : Slots) (done : Done number (λ y. f) xs old cur) (writes : Writes cur new (number x) (f (at cur (number x)))) where
  -- it was made there before, or what stands there is as it was
  made_once : f (at cur (number x)) ≡ f (at old (number x))
  made_once = elim (told_number (map number xs) (number x)) [
    | inl listed ↦
        let y = map-Contains number xs (number x) listed in
        ap f (ap (at cur) (sym y.2) ∙ done.each y.0 y.1 ∙ ap (λ n. f (at old n)) y.2) ∙ twice (at old (number x))
    | inr none ↦ ap f (done.others (number x) none)
  ]

  pub more_done : Done number (λ y. f) (xs ++ x ∷ []) old new
  more_done = record {
    each = λ y here. elim (cases_eq (number y) (number x)) [
      | inl same ↦ ap (at new) same ∙ writes.changed ∙ made_once ∙ ap (λ n. f (at old n)) (sym same)
      | inr other ↦ elim (Contains-push_cases xs x y here) [
        | inl before ↦ writes.others (number y) other ∙ done.each y before
        | inr same ↦ absurd (other (ap number (sym same)))
      ]
    ];
    others = λ m none.
        writes.others m
        (λ same. none (subst (Contains (map number (xs ++ x ∷ []))) (sym same) (Contains-map number (xs ++ x ∷ []) x (Contains-push xs x))))
        ∙ done.others m (λ here.
        let y = map-Contains number xs m here in
        none (subst (Contains (map number (xs ++ x ∷ []))) y.2
        (Contains-map number (xs ++ x ∷ []) y.0 (Contains-append_left xs (x ∷ []) y.0 y.1))));
  }

-- to move twice is to move once
moved_twice : (t : Option Tag) (o : Option Stored) → moved_to t (moved_to t o) ≡ moved_to t o
moved_twice None o = refl
moved_twice (Some t) None = refl
moved_twice (Some t) (Some s) = refl

module _ (to : Option Tag) where
  pub firsts_begin : (slots : Slots) → MovesFirsts to [] slots slots
  unfolding firsts
  firsts_begin slots = done_none (λ (e : Entry). e.number) (λ e. moved_to to) slots

  pub firsts_next : (es : List Entry) (e : Entry) (old cur new : Slots) → MovesFirsts to es old cur → e.position ≡ 0 → MovesIn cur new e.number to
      → MovesFirsts to (es ++ e ∷ []) old new
  unfolding firsts
  firsts_next es e old cur new done is moves =
      let all : filter (λ (d : Entry). nat_eq d.position 0) (es ++ e ∷ []) ≡ filter (λ (d : Entry). nat_eq d.position 0) es ++ e ∷ [] =
      filter-append (λ (d : Entry). nat_eq d.position 0) es (e ∷ [])
      ∙ ap (λ b. filter (λ (d : Entry). nat_eq d.position 0) es ++ cond b (e ∷ []) []) ((unsigned_Decides e.position 0).1 is) in
      subst (λ (xs : List Entry). Done (λ d. d.number) (λ d. moved_to to) xs old new) (sym all)
      (more_done (λ (d : Entry). d.number) (moved_to to) (moved_twice to) (filter (λ (d : Entry). nat_eq d.position 0) es) e old cur new done moves)

  pub firsts_passed : (es : List Entry) (e : Entry) (old cur : Slots) → MovesFirsts to es old cur → (e.position ≡ 0 → ⊥)
      → MovesFirsts to (es ++ e ∷ []) old cur
  unfolding firsts
  firsts_passed es e old cur done other =
      let all : filter (λ (d : Entry). nat_eq d.position 0) (es ++ e ∷ []) ≡ filter (λ (d : Entry). nat_eq d.position 0) es =
      filter-append (λ (d : Entry). nat_eq d.position 0) es (e ∷ [])
      ∙ ap (λ b. filter (λ (d : Entry). nat_eq d.position 0) es ++ cond b (e ∷ []) [])
      (false_from_ne_true (nat_eq e.position 0) (λ is. other ((unsigned_Decides e.position 0).0 is)))
      ∙ append-nil (filter (λ (d : Entry). nat_eq d.position 0) es) in
      subst (λ (xs : List Entry). Done (λ d. d.number) (λ d. moved_to to) xs old cur) (sym all) done

-- ---- which clusters have their first parts in the walk of a tag

false_true : false ≡ true → ⊥
false_true e = cc

same_tag_self : (t : Tag) → same_tag t t ≡ true
same_tag_self Both = refl
same_tag_self MainOnly = refl
same_tag_self TopOnly = refl

same_tag_is : (t u : Tag) → same_tag t u ≡ true → t ≡ u
same_tag_is Both Both e = refl
same_tag_is Both MainOnly e = absurd (false_true e)
same_tag_is Both TopOnly e = absurd (false_true e)
same_tag_is MainOnly Both e = absurd (false_true e)
same_tag_is MainOnly MainOnly e = refl
same_tag_is MainOnly TopOnly e = absurd (false_true e)
same_tag_is TopOnly Both e = absurd (false_true e)
same_tag_is TopOnly MainOnly e = absurd (false_true e)
same_tag_is TopOnly TopOnly e = refl

listed_passes : (p : Tag → Bool) (xs : Items) (e : Entry) → Contains (entries_by p xs) e → (t : Tag) × Contains xs (e, t) × (p t ≡ true)
unfolding entries_by
listed_passes p xs e here =
    let one = map-Contains (λ (i : Entry × Tag). i.0) (filter (λ i. p i.1) xs) e here in
    let kept = filter-Contains (λ (i : Entry × Tag). p i.1) xs one.0 one.1 in
    (one.0.1, subst (λ (d : Entry). Contains xs (d, one.0.1)) one.2 kept.1, kept.0)

passes_listed : (p : Tag → Bool) (xs : Items) (i : Entry × Tag) → Contains xs i → p i.1 ≡ true → Contains (entries_by p xs) i.0
unfolding entries_by
passes_listed p xs i here passes =
    Contains-map (λ (j : Entry × Tag). j.0) (filter (λ j. p j.1) xs) i (Contains-filter (λ (j : Entry × Tag). p j.1) xs i passes here)

-- the numbers of the clusters whose first parts are in the walk of a tag
abbrev numbers_tagged : Tag → Items → List ℕ
numbers_tagged tag items = map (λ e. e.number) (firsts (entries_tagged tag items))

module _ (slots : Slots) (items : Items) (shown : IsShown slots items) where
  own_number : (i : Entry × Tag) → Contains items i → i.0.number ≡ i.0.serial
  own_number i here = all_at (λ (j : Entry × Tag). j.0.number ≡ j.0.serial) items i shown.sorted.1 here

  -- they have that tag, and a part
  listed_stands : (tag : Tag) (n : ℕ) → Contains (numbers_tagged tag items) n
      → (s : Stored) × (at slots n ≡ Some s) × (s.tag ≡ tag) × (0 < length s.cluster.parts)
  unfolding firsts
  listed_stands tag n here =
      let e = map-Contains (λ (d : Entry). d.number) (filter (λ (d : Entry). nat_eq d.position 0) (entries_tagged tag items)) n here in
      let listed = (filter-Contains (λ (d : Entry). nat_eq d.position 0) (entries_tagged tag items) e.0 e.1).1 in
      let tagged = listed_passes (same_tag tag) items e.0 listed in
      let is = part_of_item slots items shown (e.0, tagged.0) tagged.1 in
      let low = slice_get_within is.stored.cluster.parts e.0.position is.part is.here in (
        is.stored,
        ap (at slots) (sym e.2 ∙ own_number (e.0, tagged.0) tagged.1) ∙ is.there,
        is.tag ∙ sym (same_tag_is tag tagged.0 tagged.2),
        omega (arith, low),
      )

  -- and there are no others
  stands_listed : (n : ℕ) (s : Stored) → at slots n ≡ Some s → 0 < length s.cluster.parts → Contains (numbers_tagged s.tag items) n
  unfolding firsts has_rate
  stands_listed n s is low =
      let part = get_or s.cluster.parts 0 no_part in
      let here : slice_get s.cluster.parts 0 ≡ Some part = slice_get-get_or s.cluster.parts 0 no_part low in
      let k = key_part n 0 part in
      let rate : is_rate k.rate (slice_get s.cluster.parts 0) ≡ true = ap (is_rate k.rate) here ∙ rate_here part in
      let tag : found items k ≡ Some s.tag = shown.tags k ∙ ap (λ o. tag_for o k) is ∙ ap (λ b. cond b (Some s.tag) None) rate in
      let i = found_listed items k (ap is_some tag) in
      let same : s.tag ≡ i.0.1 = same_Some s.tag i.0.1 (sym tag ∙ ap (found items) (sym i.2) ∙ listed_found items i.0 shown.sorted.0 i.1) in
      let listed = passes_listed (same_tag s.tag) items i.0 i.1 (ap (same_tag s.tag) (sym same) ∙ same_tag_self s.tag) in
      let first : nat_eq i.0.0.position 0 ≡ true = (unsigned_Decides i.0.0.position 0).1 (ap (λ (l : Key). l.position) i.2) in
      subst (Contains (numbers_tagged s.tag items)) (own_number i.0 i.1 ∙ ap (λ (l : Key). l.serial) i.2)
      (Contains-map (λ (d : Entry). d.number) (filter (λ (d : Entry). nat_eq d.position 0) (entries_tagged s.tag items)) i.0.0
      (Contains-filter (λ (d : Entry). nat_eq d.position 0) (entries_tagged s.tag items) i.0.0 first listed))

  not_listed : (tag : Tag) (n : ℕ) → ((s : Stored) → at slots n ≡ Some s → s.tag ≡ tag → ⊥) → Contains (numbers_tagged tag items) n → ⊥
  not_listed tag n other here = let s = listed_stands tag n here in other s.0 s.1 s.2

  -- nor is a cluster without parts
  bare_listed : (tag : Tag) (n : ℕ) (s : Stored) → at slots n ≡ Some s → s.cluster.parts ≡ [] → Contains (numbers_tagged tag items) n → ⊥
  bare_listed tag n s is none here =
      let t = listed_stands tag n here in
      let bare : length t.0.cluster.parts ≡ 0 = ap (λ (u : Stored). length u.cluster.parts) (same_Some t.0 s (sym t.1 ∙ is)) ∙ ap length none in
      omega (arith, t.3, bare)

  -- ---- what becomes of each

  module _ (own other : Tag) (apart : own ≡ other → ⊥) (mid new : Slots)
      (first : MovesFirsts (Some Both) (entries_tagged own items) slots mid)
      (second : MovesFirsts None (entries_tagged other items) mid new) where
    stays_free : (n : ℕ) → at slots n ≡ None → at new n ≡ None
    stays_free n free =
        second.others n (not_listed other n (λ s is _. none-some s (sym free ∙ is)))
        ∙ first.others n (not_listed own n (λ s is _. none-some s (sym free ∙ is))) ∙ free

    module _ (n : ℕ) (s : Stored) (is : at slots n ≡ Some s) where
      other_one : (tag : Tag) → (s.tag ≡ tag → ⊥) → (t : Stored) → at slots n ≡ Some t → t.tag ≡ tag → ⊥
      other_one tag differs t there tagged = differs (ap (λ (u : Stored). u.tag) (same_Some s t (sym is ∙ there)) ∙ tagged)

      stays_both : (s.tag ≡ own → ⊥) → (s.tag ≡ other → ⊥) → s.tag ≡ Both → at new n ≡ moved_to (Some Both) (Some s)
      stays_both not_own not_other both =
          second.others n (not_listed other n (other_one other not_other)) ∙ first.others n (not_listed own n (other_one own not_own))
          ∙ is ∙ ap (λ (t : Tag). Some (record { cluster = s.cluster; tag = t })) both

      comes_in : 0 < length s.cluster.parts → s.tag ≡ own → at new n ≡ moved_to (Some Both) (Some s)
      comes_in low tagged =
          let e = map-Contains (λ (d : Entry). d.number) (firsts (entries_tagged own items)) n
          (subst (λ (t : Tag). Contains (numbers_tagged t items) n) tagged (stands_listed n s is low)) in
          second.others n (not_listed other n (other_one other (λ t. apart (sym tagged ∙ t))))
          ∙ ap (at mid) (sym e.2) ∙ first.each e.0 e.1 ∙ ap (λ m. moved_to (Some Both) (at slots m)) e.2 ∙ ap (moved_to (Some Both)) is

      goes_out : 0 < length s.cluster.parts → s.tag ≡ other → at new n ≡ moved_to None (Some s)
      goes_out low tagged =
          let e = map-Contains (λ (d : Entry). d.number) (firsts (entries_tagged other items)) n
          (subst (λ (t : Tag). Contains (numbers_tagged t items) n) tagged (stands_listed n s is low)) in
          ap (at new) (sym e.2) ∙ second.each e.0 e.1

both_main : Both ≡ MainOnly → ⊥
both_main e = cc

both_top : Both ≡ TopOnly → ⊥
both_top e = cc

main_top : MainOnly ≡ TopOnly → ⊥
main_top e = cc

-- what becomes of what is stored where those that have parts are settled
abbrev first_by : List Part → Level → Stored → Option Stored
first_by [] stays s = Some s
first_by (p ∷ ps) stays s = settled stays (Some s)

abbrev settled_first : Level → Option Stored → Option Stored
settled_first stays None = None
settled_first stays (Some s) = first_by s.cluster.parts stays s

module _ (stays : Level) (own other : Tag) (apart : own ≡ other → ⊥) (slots mid new : Slots) (items : Items) (shown : IsShown slots items)
    (first : MovesFirsts (Some Both) (entries_tagged own items) slots mid)
    (second : MovesFirsts None (entries_tagged other items) mid new) where
  bare_stays : (n : ℕ) (s : Stored) → at slots n ≡ Some s → s.cluster.parts ≡ [] → at new n ≡ Some s
  bare_stays n s is none =
      second.others n (bare_listed slots items shown other n s is none) ∙ first.others n (bare_listed slots items shown own n s is none) ∙ is

  -- each has what it is to have, where each tag has
  firsts_settled : ((n : ℕ) (s : Stored) → at slots n ≡ Some s → 0 < length s.cluster.parts → at new n ≡ settled stays (Some s))
      → (n : ℕ) → at new n ≡ settled_first stays (at slots n)
  firsts_settled each n = of (at slots n) refl
    where
      by : (s : Stored) → at slots n ≡ Some s → (ps : List Part) → s.cluster.parts ≡ ps → at new n ≡ first_by ps stays s
      by s is [] none = bare_stays n s is none
      by s is (p ∷ ps) some = each n s is (let low : length s.cluster.parts ≡ length (p ∷ ps) = ap length some in omega (arith, low))

      of : (o : Option Stored) → at slots n ≡ o → at new n ≡ settled_first stays o
      of None is = stays_free slots items shown own other apart mid new first second n is
      of (Some s) is = by s is s.cluster.parts refl

pub slots_settled : (stays : Level) (slots mid new : Slots) (items : Items) → IsShown slots items
    → MovesFirsts (Some Both) (entries_tagged (alone stays) items) slots mid → MovesFirsts None (entries_tagged (other_tag stays) items) mid new
    → (n : ℕ) → at new n ≡ settled_first stays (at slots n)
slots_settled Main slots mid new items shown first second =
    firsts_settled Main MainOnly TopOnly main_top slots mid new items shown first second (λ n s is low. by n s is low s.tag refl)
  where
    by : (n : ℕ) (s : Stored) → at slots n ≡ Some s → 0 < length s.cluster.parts → (t : Tag) → s.tag ≡ t → at new n ≡ moved_to (settled_to Main t) (Some s)
    by n s is low Both t =
        stays_both slots items shown MainOnly TopOnly main_top mid new first second n s is (λ e. both_main (sym t ∙ e)) (λ e. both_top (sym t ∙ e)) t
    by n s is low MainOnly t = comes_in slots items shown MainOnly TopOnly main_top mid new first second n s is low t
    by n s is low TopOnly t = goes_out slots items shown MainOnly TopOnly main_top mid new first second n s is low t
slots_settled Top slots mid new items shown first second =
    firsts_settled Top TopOnly MainOnly (λ e. main_top (sym e)) slots mid new items shown first second (λ n s is low. by n s is low s.tag refl)
  where
    top_main : TopOnly ≡ MainOnly → ⊥
    top_main e = main_top (sym e)

    by : (n : ℕ) (s : Stored) → at slots n ≡ Some s → 0 < length s.cluster.parts → (t : Tag) → s.tag ≡ t → at new n ≡ moved_to (settled_to Top t) (Some s)
    by n s is low Both t =
        stays_both slots items shown TopOnly MainOnly top_main mid new first second n s is (λ e. both_top (sym t ∙ e)) (λ e. both_main (sym t ∙ e)) t
    by n s is low MainOnly t = goes_out slots items shown TopOnly MainOnly top_main mid new first second n s is low t
    by n s is low TopOnly t = comes_in slots items shown TopOnly MainOnly top_main mid new first second n s is low t

-- ---- those without parts

settled_cluster : (stays : Level) (o : Option Stored) (s : Stored) → settled stays o ≡ Some s → (t : Stored) × (o ≡ Some t) × (t.cluster ≡ s.cluster)
settled_cluster stays None s is = absurd (none-some s is)
settled_cluster stays (Some t) s is = moved_cluster (settled_to stays t.tag) (Some t) s is

-- a change that leaves nothing, or the cluster in both levels
came_both : (P : Option Stored → Type 0) (s : Stored) → P None → P (Some (record { cluster = s.cluster; tag = Both }))
    → (stays : Level) → P (settled stays (Some s))
came_both P s none both stays = by stays s.tag
  where
    by : (level : Level) (t : Tag) → P (moved_to (settled_to level t) (Some s))
    by Main Both = both
    by Main MainOnly = both
    by Main TopOnly = none
    by Top Both = both
    by Top MainOnly = none
    by Top TopOnly = both

module _ (stays : Level) where
  pub settled_twice : (o : Option Stored) → settled_unordered stays (settled_unordered stays o) ≡ settled_unordered stays o
  settled_twice None = refl
  settled_twice (Some s) = by s.cluster.parts refl
    where
      both : s.cluster.parts ≡ []
          → settled_unordered stays (Some (record { cluster = s.cluster; tag = Both })) ≡ Some (record { cluster = s.cluster; tag = Both })
      both none = ap (λ (ps : List Part). settled_by ps stays (record { cluster = s.cluster; tag = Both })) none

      by : (ps : List Part) → s.cluster.parts ≡ ps → settled_unordered stays (settled_by ps stays s) ≡ settled_by ps stays s
      by [] none = came_both (λ (o : Option Stored). settled_unordered stays o ≡ o) s refl (both none) stays
      by (p ∷ ps) some = ap (λ (qs : List Part). settled_by qs stays s) some

  -- those with parts first, and then the others: all are settled
  settled_rest : (o : Option Stored) → settled_unordered stays (settled_first stays o) ≡ settled stays o
  settled_rest None = refl
  settled_rest (Some s) = by s.cluster.parts refl
    where
      by : (ps : List Part) → s.cluster.parts ≡ ps → settled_unordered stays (first_by ps stays s) ≡ settled stays (Some s)
      by [] none = ap (λ (ps : List Part). settled_by ps stays s) none
      by (p ∷ ps) some =
          came_both (λ (o : Option Stored). settled_unordered stays o ≡ o) s refl
          (ap (λ (qs : List Part). settled_by qs stays (record { cluster = s.cluster; tag = Both })) some) stays

  -- one with an order stays for now
  pub ordered_stays : (o : Option Stored) → (IsUnordered o → ⊥) → settled_unordered stays o ≡ o
  ordered_stays None ordered = refl
  ordered_stays (Some s) ordered = by s.cluster.parts refl
    where
      by : (ps : List Part) → s.cluster.parts ≡ ps → settled_by s.cluster.parts stays s ≡ Some s
      by [] none = absurd (ordered (s, refl, none))
      by (p ∷ ps) some = ap (λ (qs : List Part). settled_by qs stays s) some

  -- none loses its order
  pub unordered_before : (o : Option Stored) → IsUnordered (settled stays o) → IsUnordered o
  unordered_before o (s, is, none) =
      let t = settled_cluster stays o s is in (t.0, t.1, ap (λ (c : Cluster). c.parts) t.2 ∙ none)

  unordered_first : (o : Option Stored) → IsUnordered (settled_first stays o) → IsUnordered o
  unordered_first None (s, is, none) = absurd (none-some s is)
  unordered_first (Some s) unordered = by s.cluster.parts refl unordered
    where
      by : (ps : List Part) → s.cluster.parts ≡ ps → IsUnordered (first_by ps stays s) → IsUnordered (Some s)
      by [] none stayed = (s, refl, none)
      by (p ∷ ps) some settled_one = unordered_before (Some s) settled_one

  pub all_settled : (slots mid new : Slots) (numbers : List ℕ) → ((n : ℕ) → at mid n ≡ settled_first stays (at slots n))
      → Done (λ n. n) (λ n. settled_unordered stays) numbers mid new → ((n : ℕ) → IsUnordered (at slots n) → Contains numbers n)
      → (n : ℕ) → at new n ≡ settled stays (at slots n)
  all_settled slots mid new numbers first done listed n =
      of (told_number numbers n) ∙ ap (settled_unordered stays) (first n) ∙ settled_rest (at slots n)
    where
      none_there : (Contains numbers n → ⊥) → Contains (map (λ (m : ℕ). m) numbers) n → ⊥
      none_there none here = none (subst (λ (ns : List ℕ). Contains ns n) (map-id numbers) here)

      of : Contains numbers n ⊎ (Contains numbers n → ⊥) → at new n ≡ settled_unordered stays (at mid n)
      of (inl here) = done.each n here
      of (inr none) =
          done.others n (none_there none)
          ∙ sym (ordered_stays (at mid n) (λ unordered. none (listed n (unordered_first (at slots n) (subst IsUnordered (first n) unordered)))))

-- all of it, by what the walks and the list are
pub settled_by_all : (stays : Level) (slots mid last new : Slots) (items : Items) (own other : Tag) (first second : List Entry) (numbers keys : List ℕ)
    → IsShown slots items → own ≡ alone stays → other ≡ other_tag stays → first ≡ entries_tagged own items → second ≡ entries_tagged other items
    → MovesFirsts (Some Both) first slots mid → MovesFirsts None second mid last → Done (λ n. n) (λ n. settled_unordered stays) numbers last new
    → numbers ≡ keys → ((n : ℕ) → IsUnordered (at slots n) → list_any (nat_eq n) keys ≡ true) → (n : ℕ) → at new n ≡ settled stays (at slots n)
settled_by_all stays slots mid last new items own other first second numbers keys shown own_is other_is first_is second_is moves goes done same listed =
    all_settled stays slots last new numbers
    (slots_settled stays slots mid last items shown
    (subst (λ (es : List Entry). MovesFirsts (Some Both) es slots mid) (first_is ∙ ap (λ (t : Tag). entries_tagged t items) own_is) moves)
    (subst (λ (es : List Entry). MovesFirsts None es mid last) (second_is ∙ ap (λ (t : Tag). entries_tagged t items) other_is) goes))
    done (λ n unordered. subst (λ (ns : List ℕ). Contains ns n) (sym same) (listed_contains keys n (listed n unordered)))

-- ---- what the index has then

-- both levels for a tag that passes a test
abbrev shared_tag : (Tag → Bool) → Option Tag → Option Tag
shared_tag p None = None
shared_tag p (Some t) = cond (p t) (Some Both) None

-- behind an item its key isn't found
none_behind : (x : Entry × Tag) (xs : Items) (k : Key) → AllByRecursion (λ y. key_cmp (item_key x) (item_key y) ≡ Less) xs → same_key (item_key x) k ≡ true
    → found xs k ≡ None
unfolding found
none_behind x [] k all s = refl
none_behind x (y ∷ xs) k all s =
    let miss : same_key (item_key y) k ≡ false =
    ap (same_key (item_key y)) (sym (same_is (item_key x) k s)) ∙ same_turned (item_key y) (item_key x) ∙ ap is_eq all.0 in
    rw miss (none_behind x xs k all.1 s)

found-shared : (p : Tag → Bool) (items : Items) (k : Key) → AreInOrder items → found (shared (entries_by p items)) k ≡ shared_tag p (found items k)
unfolding found entries_by IsInOrder
found-shared p [] k order = refl
found-shared p (x ∷ xs) k order = by (p x.1) refl (same_key (item_key x) k) refl (found-shared p xs k order.1)
  where
    by : (b : Bool) → p x.1 ≡ b → (same : Bool) → same_key (item_key x) k ≡ same → found (shared (entries_by p xs)) k ≡ shared_tag p (found xs k)
        → found (shared (entries_by p (x ∷ xs))) k ≡ shared_tag p (found (x ∷ xs) k)
    by true passes true s rest = rw passes (rw s (sym (ap (λ c. cond c (Some Both) None) passes)))
    by true passes false s rest = rw passes (rw s rest)
    by false fails true s rest =
        let behind = none_behind x xs k order.0 s in rw fails (rw s (rest ∙ ap (shared_tag p) behind ∙ sym (ap (λ c. cond c (Some Both) None) fails)))
    by false fails false s rest = rw fails (rw s rest)

all_shared : (k : Key) (es : List Entry) → AllByRecursion (λ e. key_cmp k (key_of e) ≡ Less) es
    → AllByRecursion (λ i. key_cmp k (item_key i) ≡ Less) (shared es)
all_shared k [] all = tt
all_shared k (e ∷ es) all = (all.0, all_shared k es all.1)

shared_in_order : (es : List Entry) → IsInOrder key_of es → AreInOrder (shared es)
unfolding IsInOrder
shared_in_order [] order = tt
shared_in_order (e ∷ es) order = (all_shared (key_of e) es order.0, shared_in_order es order.1)

shared_numbered : (p : Tag → Bool) (items : Items) → AreNumbered items → AreNumbered (shared (entries_by p items))
unfolding entries_by
shared_numbered p [] all = tt
shared_numbered p (x ∷ xs) all = by (p x.1) refl (shared_numbered p xs all.1)
  where
    by : (b : Bool) → p x.1 ≡ b → AreNumbered (shared (entries_by p xs)) → AreNumbered (shared (entries_by p (x ∷ xs)))
    by true passes rest = rw passes (all.0, rest)
    by false fails rest = rw fails rest

tag_settled : (stays : Level) (o : Option Stored) (k : Key) → shared_tag (is_in stays) (tag_for o k) ≡ tag_for (settled stays o) k
tag_settled stays None k = refl
tag_settled stays (Some s) k = by stays s.tag
  where
    comes : (level : Level) (t : Tag) → is_in level t ≡ true → (b : Bool) → shared_tag (is_in level) (cond b (Some t) None) ≡ cond b (Some Both) None
    comes level t is true = ap (λ b. cond b (Some Both) None) is
    comes level t is false = refl

    goes : (level : Level) (t : Tag) → is_in level t ≡ false → (b : Bool) → shared_tag (is_in level) (cond b (Some t) None) ≡ None
    goes level t is true = ap (λ b. cond b (Some Both) None) is
    goes level t is false = refl

    by : (level : Level) (t : Tag)
        → shared_tag (is_in level) (cond (has_rate s.cluster.parts k) (Some t) None) ≡ tag_for (moved_to (settled_to level t) (Some s)) k
    by Main Both = comes Main Both refl (has_rate s.cluster.parts k)
    by Main MainOnly = comes Main MainOnly refl (has_rate s.cluster.parts k)
    by Main TopOnly = goes Main TopOnly refl (has_rate s.cluster.parts k)
    by Top Both = comes Top Both refl (has_rate s.cluster.parts k)
    by Top MainOnly = goes Top MainOnly refl (has_rate s.cluster.parts k)
    by Top TopOnly = comes Top TopOnly refl (has_rate s.cluster.parts k)

pub shown_settled : (stays : Level) (slots new : Slots) (items items' : Items) → IsShown slots items → ((n : ℕ) → at new n ≡ settled stays (at slots n))
    → items' ≡ shared (entries_in stays items) → IsShown new items'
shown_settled stays slots new items items' shown now is = subst (IsShown new) (sym is) (record {
  sorted = (
    shared_in_order (entries_in stays items) (entries_in_order (is_in stays) items shown.sorted.0),
    shared_numbered (is_in stays) items shown.sorted.1,
  );
  tags = λ k.
      found-shared (is_in stays) items k shown.sorted.0 ∙ ap (shared_tag (is_in stays)) (shown.tags k) ∙ tag_settled stays (at slots k.serial) k
      ∙ ap (λ o. tag_for o k) (sym (now k.serial));
})

-- ---- what is kept

pub kept_settled : (w : ℕ) (stays : Level) (slots new : Slots) (items items' : Items) (least : ℕ) → IsKept w slots items least
    → ((n : ℕ) → at new n ≡ settled stays (at slots n)) → IsShown new items' → IsKept w new items' least
kept_settled w stays slots new items items' least kept now shown =
    kept_stood slots new (λ n s is. settled_cluster stays (at slots n) s (sym (now n) ∙ is)) w items items' least kept shown
