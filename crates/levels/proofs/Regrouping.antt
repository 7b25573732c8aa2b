-- Which names are of one cluster after a change of a level, and the rings that follow it where both levels are one.
use Rattle.std.proofs.Common.{◌≡◌, ℕ, List, Contains, Some, None, is_some, IsSome, inl, inr, ◌⊎◌, ◌↔◌, refl, sym, ap, ◌∙◌, subst, true≢false}
use Rattle.std.specs.Prelude.{slice_index}
use Rattle.std.proofs.lemmas.Option.{none-some, same_Some}
use Rattle.std.specs.FinMap as finmap
use Rattle.cluster.specs.Clusters.{Cluster}
use Rattle.name_book.specs.Books.{IsNamed}
use Rattle.levels.specs.Changes.{Rebuilds}
use Rattle.levels.specs.Changes.{IsNamed as HasName}
use Rattle.levels.specs.Rings.{Ringed, AreNamedOnce, AreOfOne, AreRight, IsMarked, ShareMain}
use Rattle.levels.specs.Views.{View, IsIndexed, Numbers}
use Rattle.levels.proofs.Graphs.{stands_in}
use Rattle.levels.proofs.Lookups.{decide_named, placed_of}

-- what is right where both levels have the same numbers
pub right_names : (rings : Ringed) (m : Numbers) (x : ℕ) → AreRight rings m m → IsNamed rings.book x ↔ IsSome (finmap.get m x)
right_names rings m x right = (λ named. elim ((right.names x).0 named) [ inl one ↦ one | inr two ↦ two ], λ some. (right.names x).1 (inl some))

pub share_turned : (rings : Ringed) (m top : Numbers) (x y : ℕ) → AreRight rings m top → ShareMain rings x y → ShareMain rings y x
share_turned rings m top x y right share = (right.zero y x).1 (elim ((right.zero x y).0 share) [
  | inl one ↦ inl (subst (λ k. IsNamed rings.book k) one.1 one.0, sym one.1)
  | inr two ↦ inr (two.0, two.2, two.1)
])

-- what the rings have where clusters of main went out and others came in
pub record Regroups (olds news : List Cluster) (before after : Ringed) : Type 0 where
  pub names : (x : ℕ) → IsNamed after.book x ↔ ((IsNamed before.book x × (HasName olds x → ⊥)) ⊎ HasName news x)
  pub main : (x y : ℕ) → ShareMain after x y
      ↔ ((ShareMain before x y × (HasName olds x → ⊥) × (HasName olds y → ⊥)) ⊎ AreNamedOnce news x y)
  pub touched : (x : ℕ) → IsMarked after x → IsMarked before x

module _ (most : ℕ) (outs made : List ℕ) (olds news : List Cluster) (gone : List ℕ) (old new : View) (indexed : IsIndexed most old)
    (now : IsIndexed most new) (r : Rebuilds most outs made olds news gone old new) where
  -- ---- what went out

  pub olds_one : (x y : ℕ) → AreNamedOnce olds x y → AreOfOne old.numbers x y
  olds_one x y once =
      let at = placed_of old.at outs olds once.0 r.taken once.1 in
      (_, indexed.listed _ x once.0 at.stands once.2, indexed.listed _ y once.0 at.stands once.3)

  pub one_olds : (x y : ℕ) → HasName olds x → AreOfOne old.numbers x y → AreNamedOnce olds x y
  one_olds x y named of =
      let at = placed_of old.at outs olds named.0 r.taken named.1 in
      let same : of.0 ≡ slice_index outs at.place =
      same_Some of.0 (slice_index outs at.place) (sym of.1 ∙ indexed.listed (slice_index outs at.place) x named.0 at.stands named.2) in
      (named.0, named.1, named.2, stands_in most old of.0 y named.0 indexed of.2 (ap old.at same ∙ at.stands))

  -- ---- what came in

  news_one : (x y : ℕ) → AreNamedOnce news x y → AreOfOne new.numbers x y
  news_one x y once =
      let at = placed_of new.at made news once.0 r.exchanges.stand once.1 in
      (_, r.points.pointed at.place x once.0 at.listed once.2, r.points.pointed at.place y once.0 at.listed once.3)

  one_news : (x y : ℕ) → HasName news x → AreOfOne new.numbers x y → AreNamedOnce news x y
  one_news x y named of =
      let at = placed_of new.at made news named.0 r.exchanges.stand named.1 in
      let same : of.0 ≡ slice_index made at.place =
      same_Some of.0 (slice_index made at.place) (sym of.1 ∙ r.points.pointed at.place x named.0 at.listed named.2) in
      (named.0, named.1, named.2, stands_in most new of.0 y named.0 now of.2 (ap new.at same ∙ at.stands))

  -- ---- all else stays

  away : (x : ℕ) → (HasName olds x → ⊥) → (HasName news x → ⊥) → finmap.get new.numbers x ≡ finmap.get old.numbers x
  away x out none = r.points.others x none (λ here. out (r.covers.lose x here).0)

  lost : (x : ℕ) → HasName olds x → (HasName news x → ⊥) → finmap.get new.numbers x ≡ None
  lost x named none = elim (r.covers.kept x named) [ inl later ↦ absurd (none later) | inr here ↦ r.points.lost x here ]

  not_out : (x n : ℕ) → finmap.get new.numbers x ≡ Some n → (HasName news x → ⊥) → HasName olds x → ⊥
  not_out x n is none named = none-some n (sym (lost x named none) ∙ is)

  not_in : (x n : ℕ) → finmap.get old.numbers x ≡ Some n → (HasName olds x → ⊥) → HasName news x → ⊥
  not_in x n is out named = elim (r.covers.from x named) [ inl was ↦ out was | inr absent ↦ none-some n (sym absent ∙ is) ]

  some_now : (x : ℕ) → IsSome (finmap.get new.numbers x) ↔ ((IsSome (finmap.get old.numbers x) × (HasName olds x → ⊥)) ⊎ HasName news x)
  some_now x = elim (decide_named news x) [
    | inl named ↦ (λ _. inr named, λ _. ap is_some (news_one x x (named.0, named.1, named.2, named.2)).1)
    | inr none ↦ elim (decide_named olds x) [
      | inl out ↦ (
        λ some. absurd (true≢false (sym some ∙ ap is_some (lost x out none))),
        λ either. elim either [ inl was ↦ absurd (was.1 out) | inr named ↦ absurd (none named) ],
      )
      | inr out ↦ (
        λ some. inl (ap is_some (sym (away x out none)) ∙ some, out),
        λ either. elim either [ inl was ↦ ap is_some (away x out none) ∙ was.0 | inr named ↦ absurd (none named) ],
      )
    ]
  ]

  one_now : (x y : ℕ) → AreOfOne new.numbers x y
      ↔ ((AreOfOne old.numbers x y × (HasName olds x → ⊥) × (HasName olds y → ⊥)) ⊎ AreNamedOnce news x y)
  one_now x y = (
    λ of. elim (decide_named news x) [
      | inl named ↦ inr (one_news x y named of)
      | inr x_none ↦
          let y_none : HasName news y → ⊥ = λ named. let once = one_news y x named (of.0, of.2, of.1) in x_none (once.0, once.1, once.3) in
          let x_out = not_out x of.0 of.1 x_none in
          let y_out = not_out y of.0 of.2 y_none in
          inl ((of.0, sym (away x x_out x_none) ∙ of.1, sym (away y y_out y_none) ∙ of.2), x_out, y_out)
    ],
    λ either. elim either [
      | inl was ↦
          let of = was.0 in
          (of.0, away x was.1 (not_in x of.0 of.1 was.1) ∙ of.1, away y was.2 (not_in y of.0 of.2 was.2) ∙ of.2)
      | inr once ↦ news_one x y once
    ],
  )

  -- ---- the rings

  module _ (before : Ringed) (right : AreRight before old.numbers old.numbers) where
    pub named_olds : (x : ℕ) → HasName olds x → IsNamed before.book x
    named_olds x named =
        (right_names before old.numbers x right).1 (ap is_some (olds_one x x (named.0, named.1, named.2, named.2)).1)

    pub share_olds : (x y : ℕ) → HasName olds x → ShareMain before x y → AreNamedOnce olds x y
    share_olds x y named share = elim ((right.zero x y).0 share) [
      | inl one ↦ (named.0, named.1, named.2, subst (Contains named.0.names) one.1 named.2)
      | inr of ↦ one_olds x y named of
    ]

    -- names that share are both of what went out, or neither is
    pub share_out : (x y : ℕ) → ShareMain before x y → (HasName olds x → ⊥) → HasName olds y → ⊥
    share_out x y share out named =
        let once = share_olds y x named (share_turned before old.numbers old.numbers x y right share) in out (once.0, once.1, once.3)

    pub right_regrouped : (after : Ringed) → Regroups olds news before after → AreRight after new.numbers new.numbers
    right_regrouped after groups = record {
      names = λ x. (
        λ named. inl ((some_now x).1 (elim ((groups.names x).0 named) [
          | inl was ↦ inl ((right_names before old.numbers x right).0 was.0, was.1)
          | inr here ↦ inr here
        ])),
        λ held. (groups.names x).1 (elim ((some_now x).0 (elim held [ inl one ↦ one | inr two ↦ two ])) [
          | inl was ↦ inl ((right_names before old.numbers x right).1 was.0, was.1)
          | inr here ↦ inr here
        ]),
      );
      zero = λ x y. (
        λ share. elim ((groups.main x y).0 share) [
          | inl was ↦ elim ((right.zero x y).0 was.0) [
            | inl one ↦ inl ((groups.names x).1 (inl (one.0, was.1)), one.1)
            | inr of ↦ inr ((one_now x y).1 (inl (of, was.1, was.2)))
          ]
          | inr once ↦ inr ((one_now x y).1 (inr once))
        ],
        λ is. (groups.main x y).1 (elim is [
          | inl one ↦ elim ((groups.names x).0 one.0) [
            | inl was ↦ inl ((right.zero x y).1 (inl (was.0, one.1)), was.1, λ named. was.1 (subst (HasName olds) (sym one.1) named))
            | inr here ↦ inr (here.0, here.1, here.2, subst (Contains here.0.names) one.1 here.2)
          ]
          | inr of ↦ elim ((one_now x y).0 of) [
            | inl was ↦ inl ((right.zero x y).1 (inr was.0), was.1, was.2)
            | inr once ↦ inr once
          ]
        ]),
      );
      touched = λ x. (λ marked is. (right.touched x).0 (groups.touched x marked) refl, λ apart. absurd (apart refl));
    }
