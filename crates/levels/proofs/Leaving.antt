-- The clusters of main that the top level has left.
use Rattle.std.proofs.Common.{◌≡◌, ℕ, ◌*◌, true, List, Contains, Option, Some, None, IsSome, inl, inr, ◌↔◌, refl, sym, ap, ◌∙◌, true≢false}
use Rattle.std.proofs.lemmas.Option.{none-some}
use Rattle.std.specs.FinMap as finmap
use Rattle.lists.proofs.Told.{told_number}
use Rattle.graphs.specs.declared.names.Level.TheVariants.{Main, Top}
use Rattle.chunk_index.specs.declared.entry.Tag.{Tag}
use Rattle.chunk_index.specs.declared.entry.Tag.TheVariants.{Both, MainOnly, TopOnly}
use Rattle.chunk_index.specs.Items.{is_in}
use Rattle.cluster.specs.Clusters.{Cluster}
use Rattle.cluster_store.specs.Stores.{Stored}
use Rattle.cluster_store.specs.Laws.{Stands}
use Rattle.levels.specs.Rings.{LeftMain}
use Rattle.levels.specs.Shelves.{AllHave, Shelf, seen_at, view_of}
use Rattle.levels.specs.Tops.{TopRebuilds}
use Rattle.levels.specs.Views.{IsIndexed}
use Rattle.cluster_store.proofs.Seen.{seen_stored}
use Rattle.levels.proofs.Shelved.{stands_seen}

-- what stands in main and not in the top level stands in main alone
main_alone : (t : Tag) → is_in Main t ≡ true → (is_in Top t ≡ true → ⊥) → t ≡ MainOnly
main_alone Both main top = absurd (top refl)
main_alone MainOnly main top = refl
main_alone TopOnly main top = absurd (true≢false (sym main))

module _ (w : ℕ) (outs made : List ℕ) (olds news : List Cluster) (gone : List ℕ) (old new : Shelf) (main_indexed : IsIndexed (64 * w) (view_of Main old))
    (staged : IsSome old.staging) (r : TopRebuilds w outs made olds news gone old new) where
  not_in_top : (n : ℕ) (c : Cluster) (s : Stored) → Contains outs n → seen_at Main new.store.clusters n ≡ Some c → finmap.get new.store.clusters n ≡ Some s
      → is_in Top s.tag ≡ true → ⊥
  not_in_top n c s out main is top = elim (told_number made n) [
    | inl here ↦ none-some c (sym (r.fresh staged n here) ∙ main)
    | inr free ↦ none-some s.cluster (sym (r.top.exchanges.cleared n out free) ∙ seen_stored Top new.store.clusters n s is top)
  ]

  pub left_is : (n x : ℕ) → Contains outs n → LeftMain new n x ↔ (finmap.get old.main x ≡ Some n)
  left_is n x out = (
    λ left.
        main_indexed.listed n x left.0
        (sym (r.main staged n) ∙ seen_stored Main new.store.clusters n (record { cluster = left.0; tag = MainOnly }) left.1 refl) left.2,
    λ is.
        let at = main_indexed.stands x n is in
        let seen : seen_at Main new.store.clusters n ≡ Some at.cluster = r.main staged n ∙ at.there in
        let stands : Stands Main new.store.clusters n at.cluster = (stands_seen Main new.store.clusters n at.cluster).1 seen in
        let tag : stands.0.tag ≡ MainOnly = main_alone stands.0.tag stands.3 (not_in_top n at.cluster stands.0 out seen stands.1) in
        (at.cluster, stands.1 ∙ (λ i. Some (record { cluster = stands.2 i; tag = tag i })), at.here),
  )

-- without a staging no cluster is left so
pub none_left : (shelf : Shelf) (n x : ℕ) → AllHave Both shelf.store.clusters → LeftMain shelf n x → ⊥
none_left shelf n x both left = apart (both n (record { cluster = left.0; tag = MainOnly }) left.1)
  where
    in_top : Tag → Option ℕ
    in_top Both = None
    in_top MainOnly = Some 0
    in_top TopOnly = Some 0

    apart : MainOnly ≡ Both → ⊥
    apart same = none-some 0 (sym (ap in_top same))
