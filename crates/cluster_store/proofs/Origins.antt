-- Where the clusters that are stored come from, and what is kept of a store whose clusters are known so.
use Rattle.std.proofs.Common.{◌≡◌, ℕ, ◌*◌, ◌≤◌, Bool, true, false, List, [], ◌∷◌, ◌++◌, map, Contains, Option, Some, None, inl, inr, ◌⊎◌, refl, sym, ap, ◌∙◌, subst, arith, true≢false}
use Rattle.std.specs.Prelude.{option_to_list}
use Rattle.std.proofs.lemmas.List.Elements.{Contains-append_cases}
use Rattle.std.proofs.lemmas.Option.{none-some, same_Some}
use Rattle.std.specs.FinMap as finmap
use Rattle.lists.proofs.Entries.{Contains-cases, Contains-map, map-Contains, none_in_empty}
use Rattle.lists.proofs.Told.{told_number}
use Rattle.graphs.specs.Closures.{rate_of}
use Rattle.graphs.specs.declared.names.Level.TheVariants.{Main, Top}
use Rattle.chunk_index.specs.declared.entry.Tag.{Tag}
use Rattle.chunk_index.specs.declared.entry.Tag.TheVariants.{Both, MainOnly, TopOnly}
use Rattle.chunk_index.specs.Items.{Items, is_in}
use Rattle.cluster.specs.Clusters.{Cluster}
use Rattle.record.specs.Records.{IsRecord}
use Rattle.cluster_store.specs.Stores.{Stored, Exchange, Numbered}
use Rattle.cluster_store.specs.Changes.{lowest, lowest_in, with_cluster}
use Rattle.cluster_store.specs.Slots.{ExchangesAll}
use Rattle.cluster_store.specs.Kept.{Slots, at, shelved, IsShown, IsKept}
use Rattle.cluster_store.specs.Tops.{Exchanged, seen_at}
use Rattle.cluster_store.specs.Unordered.{HasUnordered, IsUnordered}
use Rattle.cluster_store.proofs.Changed.{lowest_in_le, lowest_in_each}
use Rattle.cluster_store.proofs.Listed.{at_found, at_some}
use Rattle.cluster_store.proofs.Seen.{in_top, seen_is, seen_stored}
use Rattle.cluster_store.proofs.Shelves.{get_shelved}

-- a cluster came in, or stood there before
abbrev pub CameFrom : List Cluster → Option Stored → Cluster → Type 0
CameFrom news was c = Contains news c ⊎ ((t : Stored) × (was ≡ Some t) × (t.cluster ≡ c))

-- ---- a change of the top level

other_level : (t : Tag) → is_in Top t ≡ false → (is_in Main t ≡ true) × (t ≡ Both → ⊥)
other_level Both e = absurd (true≢false e)
other_level MainOnly e = (refl, λ same. absurd (true≢false (ap (is_in Top) (sym same) ∙ e)))
other_level TopOnly e = absurd (true≢false e)

-- a cluster came in under a number, or stood there before
abbrev CameUnder : List ℕ → List Cluster → ℕ → Option Stored → Cluster → Type 0
CameUnder made news n was c = (Contains made n × Contains news c) ⊎ ((t : Stored) × (was ≡ Some t) × (t.cluster ≡ c))

module _ (staged : Bool) (outs made : List ℕ) (news : List Cluster) (old new : Numbered) (x : Exchanged staged outs made news old new)
    (n : ℕ) (s : Stored) (is : finmap.get new n ≡ Some s) where
  in_top_from : is_in Top s.tag ≡ true → CameUnder made news n (finmap.get old n) s.cluster
  in_top_from top =
      let seen = seen_stored Top new n s is top in
      elim (told_number made n) [
        | inl here ↦ inl (here, at_found (seen_at Top new) made news n s.cluster x.top.stand here seen)
        | inr none ↦ elim (told_number outs n) [
          | inl out ↦ absurd (none-some s.cluster (sym (x.top.cleared n out none) ∙ seen))
          | inr stays ↦ inr (seen_is Top (finmap.get old n) s.cluster (sym (x.top.elsewhere n stays none) ∙ seen))
        ]
      ]

  in_main_from : (b : Bool) → staged ≡ b → is_in Top s.tag ≡ false → CameUnder made news n (finmap.get old n) s.cluster
  in_main_from true opened none =
      inr (seen_is Main (finmap.get old n) s.cluster (sym (x.main opened n) ∙ seen_stored Main new n s is (other_level s.tag none).0))
  in_main_from false shut none = absurd ((other_level s.tag none).1 (x.both shut n s is))

  pub came_under : CameUnder made news n (finmap.get old n) s.cluster
  came_under = from (is_in Top s.tag) refl
    where
      from : (b : Bool) → is_in Top s.tag ≡ b → CameUnder made news n (finmap.get old n) s.cluster
      from true top = in_top_from top
      from false none = in_main_from staged refl none

  pub exchanged_from : CameFrom news (finmap.get old n) s.cluster
  exchanged_from = elim came_under [ inl here ↦ inl here.1 | inr before ↦ inr before ]

pub slots_from : (staged : Bool) (outs made : List ℕ) (news : List Cluster) (old new : Slots)
    → Exchanged staged outs made news (shelved old) (shelved new) → (n : ℕ) (s : Stored) → at new n ≡ Some s → CameFrom news (at old n) s.cluster
slots_from staged outs made news old new x n s is =
    subst (λ (o : Option Stored). CameFrom news o s.cluster) (get_shelved old n)
    (exchanged_from staged outs made news (shelved old) (shelved new) x n s (get_shelved new n ∙ is))

placed_from : (c : Cluster) (o : Option Stored) (s : Stored) → with_cluster c o ≡ Some s → c ≡ s.cluster
placed_from c None s is = absurd (none-some s is)
placed_from c (Some t) s is = ap (λ (u : Stored). u.cluster) (same_Some (record { cluster = c; tag = t.tag }) s is)

-- those without an order came in, or stood there before without one
pub unordered_came : (staged : Bool) (outs made : List ℕ) (news : List Cluster) (old new : Slots) → Exchanged staged outs made news (shelved old) (shelved new)
    → (n : ℕ) → IsUnordered (at new n) → (Contains made n × HasUnordered news) ⊎ IsUnordered (at old n)
unordered_came staged outs made news old new x n (s, is, none) =
    elim (came_under staged outs made news (shelved old) (shelved new) x n s (get_shelved new n ∙ is)) [
      | inl here ↦ inl (here.0, (s.cluster, here.1, none))
      | inr before ↦
          inr (before.0, sym (get_shelved old n) ∙ before.1, ap (λ (c : Cluster). c.parts) before.2 ∙ none)
    ]

-- what stands where clusters came in is one of these
pub unordered_made : (staged : Bool) (outs made : List ℕ) (news : List Cluster) (old new : Slots) → Exchanged staged outs made news (shelved old) (shelved new)
    → (n : ℕ) → Contains made n → IsUnordered (at new n) → HasUnordered news
unordered_made staged outs made news old new x n here (s, is, none) =
    let t = in_top (shelved new) n (at_some (seen_at Top (shelved new)) made news n x.top.stand here) in
    let seen = seen_stored Top (shelved new) n t.stored t.is t.top in
    let same : s ≡ t.stored = same_Some s t.stored (sym (get_shelved new n ∙ is) ∙ t.is) in (
      t.stored.cluster,
      at_found (seen_at Top (shelved new)) made news n t.stored.cluster x.top.stand here seen,
      ap (λ (u : Stored). u.cluster.parts) (sym same) ∙ none,
    )

-- where clusters take the places of others, those without an order do, or stood there before without one
pub unordered_exchanged : (exchanged : List Exchange) (old new : Slots) → ExchangesAll exchanged old new
    → (n : ℕ) → IsUnordered (at new n) → ((x : Exchange) × Contains exchanged x × (x.number ≡ n) × (x.cluster.parts ≡ [])) ⊎ IsUnordered (at old n)
unordered_exchanged exchanged old new done n (s, is, none) = elim (told_number (map (λ (x : Exchange). x.number) exchanged) n) [
  | inl here ↦
      let x = map-Contains (λ (y : Exchange). y.number) exchanged n here in
      let one = placed_from x.0.cluster (at old x.0.number) s (sym (done.each x.0 x.1) ∙ ap (at new) x.2 ∙ is) in
      inl (x.0, x.1, x.2, ap (λ (c : Cluster). c.parts) one ∙ none)
  | inr apart ↦ inr (s, sym (done.others n apart) ∙ is, none)
]

-- ---- clusters in the places of others

pub list_from : (exchanged : List Exchange) (old new : Slots) → ExchangesAll exchanged old new
    → (n : ℕ) (s : Stored) → at new n ≡ Some s → CameFrom (map (λ x. x.cluster) exchanged) (at old n) s.cluster
list_from exchanged old new done n s is = elim (told_number (map (λ (x : Exchange). x.number) exchanged) n) [
  | inl here ↦
      let x = map-Contains (λ (y : Exchange). y.number) exchanged n here in
      let one = placed_from x.0.cluster (at old x.0.number) s (sym (done.each x.0 x.1) ∙ ap (at new) x.2 ∙ is) in
      inl (subst (Contains (map (λ (y : Exchange). y.cluster) exchanged)) one (Contains-map (λ (y : Exchange). y.cluster) exchanged x.0 x.1))
  | inr none ↦ inr (s, sym (done.others n none) ∙ is, refl)
]

-- ---- what is kept

pub kept_came : (w : ℕ) (news : List Cluster) (slots slots' : Slots) (items items' : Items) (least : ℕ)
    → IsKept w slots items least → IsShown slots' items' → ((c : Cluster) → Contains news c → IsRecord (64 * w) c)
    → ((n : ℕ) (s : Stored) → at slots' n ≡ Some s → CameFrom news (at slots n) s.cluster) → IsKept w slots' items' (lowest_in news least)
kept_came w news slots slots' items items' least kept shown whole came = record {
  narrow = kept.narrow;
  shown = shown;
  whole = λ n s is. elim (came n s is) [
    | inl now ↦ whole s.cluster now
    | inr before ↦ subst (IsRecord (64 * w)) before.2 (kept.whole n before.0 before.1)
  ];
  floor = λ n s is id named. elim (came n s is) [
    | inl now ↦ lowest_in_each news least s.cluster id now named
    | inr before ↦
        let one = subst (λ (c : Cluster). least ≤ (rate_of c.graph id).size) before.2
        (kept.floor n before.0 before.1 id (subst (λ (c : Cluster). Contains c.names id) (sym before.2) named)) in
        let two = lowest_in_le news least in
        omega (arith, one, two)
  ];
}

-- ---- the bound of sizes

pub lowest_joined : (cs ds : List Cluster) (m : ℕ) → lowest_in (cs ++ ds) m ≡ lowest_in ds (lowest_in cs m)
lowest_joined [] ds m = refl
lowest_joined (c ∷ cs) ds m = lowest_joined cs ds (lowest (λ id. (rate_of c.graph id).size) c.names m)

-- counted one list after the other
pub lowest_told : (first second from : ℕ) (slice rest : List Cluster) (last : Option Cluster) → first ≡ lowest_in slice from → slice ≡ rest
    → second ≡ lowest_in (option_to_list last) first → second ≡ lowest_in (rest ++ option_to_list last) from
lowest_told first second from slice rest last one same two =
    two ∙ ap (lowest_in (option_to_list last)) (one ∙ ap (λ (cs : List Cluster). lowest_in cs from) same)
    ∙ sym (lowest_joined rest (option_to_list last) from)

pub joined_whole : (most : ℕ) (rest : List Cluster) (last : Option Cluster) → ((c : Cluster) → Contains rest c → IsRecord most c)
    → ((c : Cluster) → last ≡ Some c → IsRecord most c) → (c : Cluster) → Contains (rest ++ option_to_list last) c → IsRecord most c
joined_whole most rest last of_rest of_last c here = elim (Contains-append_cases rest (option_to_list last) c here) [
  | inl front ↦ of_rest c front
  | inr back ↦ from last of_last back
]
  where
    from : (o : Option Cluster) → ((d : Cluster) → o ≡ Some d → IsRecord most d) → Contains (option_to_list o) c → IsRecord most c
    from None of back = absurd (none_in_empty c back)
    from (Some d) of back = elim (Contains-cases d c [] back) [
      | inl same ↦ of c (ap Some same)
      | inr none ↦ absurd (none_in_empty c none)
    ]
