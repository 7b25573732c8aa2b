-- The rings are right again after a change of the top level, where the names that were left by main's clusters are touched.
use Rattle.std.proofs.Common.{◌≡◌, ◌≢◌, ℕ, ◌*◌, List, Contains, Option, Some, None, is_some, IsSome, inl, inr, ◌⊎◌, ◌↔◌, refl, sym, ap, ◌∙◌, subst, true≢false}
use Rattle.std.proofs.lemmas.Bool.{cases_eq}
use Rattle.std.proofs.lemmas.Option.{none-some, same_Some}
use Rattle.std.specs.FinMap as finmap
use Rattle.graphs.specs.declared.names.Level.TheVariants.{Main, Top}
use Rattle.cluster.specs.Clusters.{Cluster}
use Rattle.name_book.specs.Books.{IsNamed}
use Rattle.levels.specs.Changes.{IsNamed as HasName}
use Rattle.levels.specs.Rings.{Ringed, AreRight, IsHeld, IsMarked, ShareMain}
use Rattle.levels.specs.Shelves.{Shelf, numbers_at, seen_at, view_of}
use Rattle.levels.specs.Tops.{TopRebuilds}
use Rattle.levels.specs.Views.{IsIndexed, Numbers}
use Rattle.cluster_store.proofs.Arriving.{place_of}
use Rattle.levels.proofs.Lookups.{decide_named, found_of, placed_of}
use Rattle.levels.proofs.Pointing.{one_at}
use Rattle.levels.proofs.Seen.{one_seen}

-- two numbers or none of a name are the same or not
pub same_or : (o p : Option ℕ) → (o ≡ p) ⊎ (o ≢ p)
same_or None None = inl refl
same_or None (Some n) = inr (λ is. none-some n is)
same_or (Some n) None = inr (λ is. none-some n (sym is))
same_or (Some n) (Some m) = elim (cases_eq n m) [ inl same ↦ inl (ap Some same) | inr other ↦ inr (λ is. other (same_Some n m is)) ]

-- What the rings have after names were touched, and others went.
pub record Marks (Leaves Lost : ℕ → Type 0) (old new : Ringed) : Type 0 where
  pub names : (x : ℕ) → IsNamed new.book x ↔ (IsNamed old.book x × (Lost x → ⊥))
  pub main : (x y : ℕ) → ShareMain new x y ↔ (ShareMain old x y × (Lost x → ⊥) × (Lost y → ⊥))
  pub touched : (x : ℕ) → IsMarked new x ↔ ((IsMarked old x ⊎ Leaves x) × (Lost x → ⊥))

-- a name of a cluster of main that leaves the top level
abbrev pub Leaves : List ℕ → Numbers → ℕ → Type 0
Leaves outs main x = (n : ℕ) × Contains outs n × (finmap.get main x ≡ Some n)

-- a name that goes, and that main hasn't
abbrev pub AreLost : List ℕ → Numbers → ℕ → Type 0
AreLost gone main x = Contains gone x × (finmap.get main x ≡ None)

-- ---- with a staging

module _ (w : ℕ) (outs made : List ℕ) (olds news : List Cluster) (gone : List ℕ) (old new : Shelf) (main_indexed : IsIndexed (64 * w) (view_of Main old))
    (top_indexed : IsIndexed (64 * w) (view_of Top old)) (staged : IsSome old.staging) (r : TopRebuilds w outs made olds news gone old new)
    (known : (x : ℕ) → HasName news x → HasName olds x) where
  abbrev main : Numbers
  main = old.main

  abbrev top : Numbers
  top = numbers_at Top old

  abbrev later : Numbers
  later = numbers_at Top new

  -- a name of a cluster that goes out, and its number
  pub number_out : (x : ℕ) → HasName olds x → (n : ℕ) × Contains outs n × (finmap.get top x ≡ Some n)
  number_out x named =
      let at = placed_of (seen_at Top old.store.clusters) outs olds named.0 r.top.taken named.1 in
      (_, at.number, top_indexed.listed _ x named.0 at.stands named.2)

  -- a name of a cluster that comes in has a number that main doesn't know
  pub new_apart : (x : ℕ) → HasName news x → finmap.get main x ≢ finmap.get later x
  new_apart x named same =
      let at = placed_of (seen_at Top new.store.clusters) made news named.0 r.top.exchanges.stand named.1 in
      let is = r.top.points.pointed at.place x named.0 at.listed named.2 in
      let stands = main_indexed.stands x _ (same ∙ is) in
      none-some stands.cluster (sym (sym (r.main staged _) ∙ r.fresh staged _ at.number) ∙ stands.there)

  -- a number that goes out has a cluster
  out_seen : (n : ℕ) → Contains outs n → (c : Cluster) × (seen_at Top old.store.clusters n ≡ Some c) × Contains olds c
  out_seen n here =
      let place = place_of outs n here in
      let at = one_at (seen_at Top old.store.clusters) outs olds place.0 r.top.taken place.1 in
      let is : seen_at Top old.store.clusters n ≡ Some at.0 = ap (seen_at Top old.store.clusters) (sym place.2) ∙ at.2 in
      (at.0, is, (found_of (seen_at Top old.store.clusters) outs olds n at.0 r.top.taken here is).3)

  -- a name that leaves is named by what goes out
  left_named : (x : ℕ) → Leaves outs main x → HasName olds x
  left_named x leaves =
      let out = out_seen leaves.0 leaves.1 in
      let at = main_indexed.stands x leaves.0 leaves.2 in
      let one : at.cluster ≡ out.0 = one_seen Main Top old.store.clusters leaves.0 at.cluster out.0 at.there out.1 in
      (out.0, out.2, subst (λ (c : Cluster). Contains c.names x) one at.here)

  -- of a name of what goes out, that main has under its own number or not at all
  pub out_apart : (x : ℕ) → HasName olds x → (Leaves outs main x → ⊥) → finmap.get main x ≢ finmap.get top x
  out_apart x named stays same = let at = number_out x named in stays (at.0, at.1, same ∙ at.2)

  decide_leaves : (x : ℕ) → HasName olds x → Leaves outs main x ⊎ (Leaves outs main x → ⊥)
  decide_leaves x named =
      let at = number_out x named in
      elim (same_or (finmap.get main x) (finmap.get top x)) [
        | inl same ↦ inl (at.0, at.1, same ∙ at.2)
        | inr other ↦ inr (λ leaves.
            let out = out_seen leaves.0 leaves.1 in
            let stands = main_indexed.stands x leaves.0 leaves.2 in
            let one : stands.cluster ≡ out.0 = one_seen Main Top old.store.clusters leaves.0 stands.cluster out.0 stands.there out.1 in
            other (leaves.2 ∙ sym (top_indexed.listed leaves.0 x out.0 out.1 (subst (λ (c : Cluster). Contains c.names x) one stands.here))))
      ]

  abbrev Lost : ℕ → Type 0
  Lost = AreLost gone main

  -- a name of what goes out that stays in main, or in the top level, has another number there than here
  gone_apart : (x : ℕ) → Contains gone x → (Lost x → ⊥) → finmap.get main x ≢ finmap.get later x
  gone_apart x here stays same = stays (here, same ∙ r.top.points.lost x here)

  named_apart : (x : ℕ) → HasName olds x → (Lost x → ⊥) → finmap.get main x ≢ finmap.get later x
  named_apart x named stays = elim (r.top.covers.kept x named) [ inl one ↦ new_apart x one | inr two ↦ gone_apart x two stays ]

  lost_same : (x : ℕ) → Lost x → finmap.get main x ≡ finmap.get later x
  lost_same x lost = lost.1 ∙ sym (r.top.points.lost x lost.0)

  -- a name of none of them has the number that it had
  away : (x : ℕ) → (HasName olds x → ⊥) → finmap.get later x ≡ finmap.get top x
  away x none = r.top.points.others x (λ named. none (known x named)) (λ here. none (r.top.covers.lose x here).0)

  not_lost : (x : ℕ) → (HasName olds x → ⊥) → Lost x → ⊥
  not_lost x none lost = none (r.top.covers.lose x lost.0).0

  touched_later : (x : ℕ) → (finmap.get main x ≢ finmap.get later x)
      ↔ (((finmap.get main x ≢ finmap.get top x) ⊎ Leaves outs main x) × (Lost x → ⊥))
  touched_later x = elim (decide_named olds x) [
    | inl named ↦ (
      λ apart. (
        elim (decide_leaves x named) [ inl leaves ↦ inr leaves | inr stays ↦ inl (out_apart x named stays) ],
        λ lost. apart (lost_same x lost),
      ),
      λ both. named_apart x named both.1,
    )
    | inr none ↦ (
      λ apart. (inl (λ is. apart (is ∙ sym (away x none))), not_lost x none),
      λ both. elim both.0 [ inl apart ↦ (λ is. apart (is ∙ away x none)) | inr leaves ↦ absurd (none (left_named x leaves)) ],
    )
  ]

  -- a name of what goes out is in main, is lost, or is of what comes in
  held_named : (x : ℕ) → HasName olds x → (Lost x → ⊥) → IsHeld main later x
  held_named x named stays = elim (r.top.covers.kept x named) [
    | inl one ↦
        let at = placed_of (seen_at Top new.store.clusters) made news one.0 r.top.exchanges.stand one.1 in
        inr (ap is_some (r.top.points.pointed at.place x one.0 at.listed one.2))
    | inr two ↦ inl (some_or (finmap.get main x) (λ none. stays (two, none)))
  ]
    where
      some_or : (o : Option ℕ) → (o ≡ None → ⊥) → IsSome o
      some_or None some = absurd (some refl)
      some_or (Some n) some = refl

  held_later : (x : ℕ) → IsHeld main later x ↔ (IsHeld main top x × (Lost x → ⊥))
  held_later x = elim (decide_named olds x) [
    | inl named ↦ (
      λ held. (
        inr (ap is_some (number_out x named).2),
        λ lost. elim held [
          | inl one ↦ true≢false (sym one ∙ ap is_some lost.1)
          | inr two ↦ true≢false (sym two ∙ ap is_some (r.top.points.lost x lost.0))
        ],
      ),
      λ both. held_named x named both.1,
    )
    | inr none ↦ (
      λ held. (elim held [ inl one ↦ inl one | inr two ↦ inr (ap is_some (sym (away x none)) ∙ two) ], not_lost x none),
      λ both. elim both.0 [ inl one ↦ inl one | inr two ↦ inr (ap is_some (away x none) ∙ two) ],
    )
  ]

  -- names of one cluster of main aren't lost
  one_kept : (x n : ℕ) → finmap.get main x ≡ Some n → Lost x → ⊥
  one_kept x n is lost = none-some n (sym lost.1 ∙ is)

  pub right_staged : (before after : Ringed) → AreRight before main top → Marks (Leaves outs main) Lost before after → AreRight after main later
  right_staged before after right marks = record {
    names = λ x. (
      λ named. let was = (marks.names x).0 named in (held_later x).1 ((right.names x).0 was.0, was.1),
      λ held. let was = (held_later x).0 held in (marks.names x).1 ((right.names x).1 was.0, was.1),
    );
    zero = λ a b. (
      λ share.
          let was = (marks.main a b).0 share in
          elim ((right.zero a b).0 was.0) [ inl one ↦ inl ((marks.names a).1 (one.0, was.1), one.1) | inr two ↦ inr two ],
      λ either. (marks.main a b).1 (elim either [
        | inl one ↦
            let was = (marks.names a).0 one.0 in
            ((right.zero a b).1 (inl (was.0, one.1)), was.1, λ lost. was.1 (subst Lost (sym one.1) lost))
        | inr two ↦ ((right.zero a b).1 (inr two), one_kept a two.0 two.1, one_kept b two.0 two.2)
      ]),
    );
    touched = λ x. (
      λ marked.
          let was = (marks.touched x).0 marked in
          (touched_later x).1 (elim was.0 [ inl one ↦ inl ((right.touched x).0 one) | inr two ↦ inr two ], was.1),
      λ apart.
          let was = (touched_later x).0 apart in
          (marks.touched x).1 (elim was.0 [ inl one ↦ inl ((right.touched x).1 one) | inr two ↦ inr two ], was.1),
    );
  }
