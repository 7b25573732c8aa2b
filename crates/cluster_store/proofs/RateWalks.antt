-- The rates that entries have are those of the parts that they stand for.
use Rattle.std.proofs.Common.{◌≡◌, ℕ, Bool, List, [], ◌∷◌, map, Contains, refl, sym, ap, ◌∙◌}
use Rattle.lists.proofs.Entries.{Contains-head, Contains-later}
use Rattle.chunk_index.specs.declared.entry.Entry.{Entry}
use Rattle.chunk_index.specs.declared.entry.Tag.{Tag}
use Rattle.chunk_index.specs.declared.key.Key.{Key}
use Rattle.chunk_index.specs.Items.{Items, entries_by}
use Rattle.cluster_store.specs.Kept.{Slots, IsShown, place_of, shelved}
use Rattle.cluster_store.specs.Rates.{entry_rate}
use Rattle.cluster_store.specs.Stores.{Shown, Stored, shown_by}
use Rattle.cluster_store.specs.Walks.{shown_of}
use Rattle.cluster_store.proofs.Lent.{shown_lent}
use Rattle.cluster_store.proofs.Walks.{listed_tag, part_of_item, walk_shows}

module _ (slots : Slots) (items : Items) (shown : IsShown slots items) where
  abbrev shows : Entry → Shown
  shows = shown_of (λ (s : Stored). s.cluster.parts) slots

  rate_told : (e : Entry) (tag : Tag) → Contains items (e, tag) → entry_rate e ≡ (shows e).part.rate
  rate_told e tag here =
      let is = part_of_item slots items shown (e, tag) here in
      ap (λ (k : Key). record { fee = k.rate.fee; size = k.rate.size }) (sym is.key)
      ∙ ap (λ (s : Shown). s.part.rate) (sym (shown_lent (λ (s : Stored). s.cluster.parts) slots e is.stored is.part is.there is.here))

  all_told : (p : Tag → Bool) (xs : List Entry) → ((e : Entry) → Contains xs e → Contains (entries_by p items) e)
      → map entry_rate xs ≡ map (λ (s : Shown). s.part.rate) (map shows xs)
  all_told p [] inside = refl
  all_told p (e ∷ xs) inside =
      let tagged = listed_tag slots items shown p items e (inside e (Contains-head e xs)) in
      let first = rate_told e tagged.0 tagged.1 in
      let rest = all_told p xs (λ d here. inside d (Contains-later e d xs here)) in
      λ i. first i ∷ rest i

  -- the rates of the parts whose clusters' tags pass a test
  pub rates_walk : (p : Tag → Bool) (least : ℕ)
      → map entry_rate (entries_by p items)
      ≡ map (λ (s : Shown). s.part.rate) (shown_by p (record { clusters = shelved slots; order = map place_of items; least = least }))
  rates_walk p least =
      all_told p (entries_by p items) (λ e here. here)
      ∙ ap (map (λ (s : Shown). s.part.rate)) (walk_shows slots items shown p least)
