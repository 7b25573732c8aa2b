-- Names that join one ring, one after the other.
use Rattle.std.proofs.Common.{◌≡◌, ◌≢◌, ◌⊎◌, ◌↔◌, ℕ, ◌+◌, ◌<◌, List, [], ◌∷◌, ◌++◌, length, take, get_or, refl, sym, subst, inl, inr}
use Rattle.std.specs.Prelude.{Contains}
use Rattle.std.proofs.lemmas.Bool.{cases_eq}
use Rattle.std.proofs.lemmas.List.{take_more}
use Rattle.std.proofs.lemmas.List.Elements.{Contains-append_left, Contains-append_right, Contains-append_cases}
use Rattle.lists.proofs.Entries.{Contains-head, Contains-later, Contains-cases, Contains-one, none_in_empty}
use Rattle.lists.proofs.Told.{told_number}
use Rattle.name_book.specs.Books.{Table, IsNamed, AreRung}
use Rattle.name_book.specs.Changes.{ComesTo, Gathers, MakesRing, JoinsAll}
use Rattle.name_book.proofs.Rings.{rung-itself, rung-turned, rung-linked}

-- ---- one name

pub one-is : (q x : ℕ) → Contains (q ∷ []) x → x ≡ q
one-is q x here = sym (Contains-one q x here)

pub is-one : (q x : ℕ) → x ≡ q → Contains (q ∷ []) x
is-one q x same = subst (Contains (q ∷ [])) (sym same) (Contains-head q [])

-- A name is cut out of its ring, and joins that of another.
module _ (old cut new : Table) (r to q : ℕ) (apart : to ≢ q)
    (cuts : (x y : ℕ) → AreRung cut r x y ↔ ((AreRung old r x y × x ≢ q × y ≢ q) ⊎ ((x ≡ q) × (y ≡ q))))
    (unites : (x y : ℕ) → AreRung new r x y ↔ (AreRung cut r x y ⊎ (AreRung cut r x to × AreRung cut r q y) ⊎ (AreRung cut r x q × AreRung cut r to y))) where
  of_ring : (x : ℕ) → AreRung cut r to x → ComesTo old r to (q ∷ []) x
  of_ring x rung = elim ((cuts to x).0 rung) [ inl all ↦ inl all.0 | inr both ↦ absurd (apart both.0) ]

  of_name : (x : ℕ) → AreRung cut r q x → ComesTo old r to (q ∷ []) x
  of_name x rung = elim ((cuts q x).0 rung) [ inl all ↦ absurd (all.1 refl) | inr both ↦ inr (is-one q x both.1) ]

  -- what comes to the ring was in it, or is the name
  place : (x : ℕ) → ComesTo old r to (q ∷ []) x → AreRung cut r to x ⊎ AreRung cut r q x
  place x (inl rung) = elim (cases_eq x q) [
    | inl same ↦ inr ((cuts q x).1 (inr (refl, same)))
    | inr other ↦ inl ((cuts to x).1 (inl (rung, apart, other)))
  ]
  place x (inr here) = inr ((cuts q x).1 (inr (refl, one-is q x here)))

  pub gathers-one : Gathers old new r to (q ∷ [])
  gathers-one x y = (
    λ rung. elim ((unites x y).0 rung) [
      | inl kept ↦ elim ((cuts x y).0 kept) [
        | inl all ↦ inl (all.0, λ here. all.1 (one-is q x here), λ here. all.2 (one-is q y here))
        | inr both ↦ inr (inr (is-one q x both.0), inr (is-one q y both.1))
      ]
      | inr (inl over) ↦ inr (of_ring x (rung-turned cut r x to over.0), of_name y over.1)
      | inr (inr over) ↦ inr (of_name x (rung-turned cut r x q over.0), of_ring y over.1)
    ],
    λ h. (unites x y).1 (elim h [
      | inl all ↦ inl ((cuts x y).1 (inl (all.0, λ same. all.1 (is-one q x same), λ same. all.2 (is-one q y same))))
      | inr both ↦ elim (place x both.0) [
        | inl x_to ↦ elim (place y both.1) [
          | inl y_to ↦ inl (rung-linked cut r x to y (rung-turned cut r to x x_to) y_to)
          | inr y_q ↦ inr (inl (rung-turned cut r to x x_to, y_q))
        ]
        | inr x_q ↦ elim (place y both.1) [
          | inl y_to ↦ inr (inr (rung-turned cut r q x x_q, y_to))
          | inr y_q ↦ inl (rung-linked cut r x q y (rung-turned cut r q x x_q) y_q)
        ]
      ]
    ]),
  )

-- ---- one name after the other

pub gathers-none : (book : Table) (r to : ℕ) → Gathers book book r to []
gathers-none book r to x y = (
  λ rung. inl (rung, none_in_empty x, none_in_empty y),
  λ h. elim h [
    | inl all ↦ all.0
    | inr both ↦ rung-linked book r x to y (rung-turned book r to x (was x both.0)) (was y both.1)
  ],
)
  where
    was : (z : ℕ) → ComesTo book r to [] z → AreRung book r to z
    was z (inl rung) = rung
    was z (inr here) = absurd (none_in_empty z here)

module _ (old mid : Table) (r to : ℕ) (front : List ℕ) (so : Gathers old mid r to front)
    (new : Table) (next : List ℕ) (live : IsNamed old to) (step : Gathers mid new r to next) where
  to_mid : (x : ℕ) → ComesTo old r to front x → AreRung mid r to x
  to_mid x h = (so to x).1 (inr (inl (rung-itself old r to live), h))

  of_mid : (x : ℕ) → AreRung mid r to x → ComesTo old r to front x
  of_mid x rung = elim ((so to x).0 rung) [ inl all ↦ inl all.0 | inr both ↦ both.1 ]

  grown : (x : ℕ) → ComesTo old r to front x → ComesTo old r to (front ++ next) x
  grown x (inl rung) = inl rung
  grown x (inr before) = inr (Contains-append_left front next x before)

  forth : (x : ℕ) → ComesTo mid r to next x → ComesTo old r to (front ++ next) x
  forth x (inl rung) = grown x (of_mid x rung)
  forth x (inr here) = inr (Contains-append_right front next x here)

  back : (x : ℕ) → ComesTo old r to (front ++ next) x → ComesTo mid r to next x
  back x (inl rung) = inl (to_mid x (inl rung))
  back x (inr here) = elim (Contains-append_cases front next x here) [
    | inl before ↦ inl (to_mid x (inr before))
    | inr now ↦ inr now
  ]

  off : (x : ℕ) → (Contains front x → ⊥) → (Contains next x → ⊥) → Contains (front ++ next) x → ⊥
  off x before other here = elim (Contains-append_cases front next x here) [ inl h ↦ before h | inr now ↦ other now ]

  off_mid : (x : ℕ) → (Contains (front ++ next) x → ⊥) → (Contains front x → ⊥) × (Contains next x → ⊥)
  off_mid x none = (λ before. none (Contains-append_left front next x before), λ here. none (Contains-append_right front next x here))

  pub gathers-on : Gathers old new r to (front ++ next)
  gathers-on x y = (
    λ rung. elim ((step x y).0 rung) [
      | inl all ↦ elim ((so x y).0 all.0) [
        | inl was ↦ inl (was.0, off x was.1 all.1, off y was.2 all.2)
        | inr both ↦ inr (grown x both.0, grown y both.1)
      ]
      | inr both ↦ inr (forth x both.0, forth y both.1)
    ],
    λ h. (step x y).1 (elim h [
      | inl all ↦
          let off_x = off_mid x all.1 in let off_y = off_mid y all.2 in
          inl ((so x y).1 (inl (all.0, off_x.0, off_y.0)), off_x.1, off_y.1)
      | inr both ↦ inr (back x both.0, back y both.1)
    ]),
  )

-- one name more, by the place where it is listed
pub gathers-more : (old mid : Table) (r to : ℕ) (ids : List ℕ) (i : ℕ) → i < length ids → Gathers old mid r to (take i ids) → (new : Table) → IsNamed old to
    → Gathers mid new r to (get_or ids i 0 ∷ []) → Gathers old new r to (take (i + 1) ids)
gathers-more old mid r to ids i low so new live step =
    subst (Gathers old new r to) (sym (take_more ids i 0 low)) (gathers-on old mid r to (take i ids) so new (get_or ids i 0 ∷ []) live step)

-- ---- all of them

-- names that were alone leave no ring behind
pub joins-all : (old new : Table) (r to : ℕ) (ids : List ℕ) → ((x y : ℕ) → Contains ids x → AreRung old r x y → x ≡ y) → Gathers old new r to ids
    → JoinsAll old new r to ids
joins-all old new r to ids alone gathers x y = (
  λ rung. elim ((gathers x y).0 rung) [ inl all ↦ inl all.0 | inr both ↦ inr both ],
  λ h. (gathers x y).1 (elim h [
    | inl rung ↦ elim (told_number ids x) [
      | inl here ↦ inr (inr here, inr (subst (Contains ids) (alone x y here rung) here))
      | inr not_x ↦ elim (told_number ids y) [
        | inl here ↦ absurd (not_x (subst (Contains ids) (alone y x here (rung-turned old r x y rung)) here))
        | inr not_y ↦ inl (rung, not_x, not_y)
      ]
    ]
    | inr both ↦ inr both
  ]),
)

-- the first of some names is cut out of its ring, and the others join it
module _ (old cut new : Table) (r first : ℕ) (rest : List ℕ)
    (cuts : (x y : ℕ) → AreRung cut r x y ↔ ((AreRung old r x y × x ≢ first × y ≢ first) ⊎ ((x ≡ first) × (y ≡ first))))
    (gathers : Gathers cut new r first rest) where
  listed : (x : ℕ) → ComesTo cut r first rest x → Contains (first ∷ rest) x
  listed x (inl rung) = elim ((cuts first x).0 rung) [
    | inl all ↦ absurd (all.1 refl)
    | inr both ↦ subst (Contains (first ∷ rest)) (sym both.1) (Contains-head first rest)
  ]
  listed x (inr here) = Contains-later first x rest here

  comes : (x : ℕ) → Contains (first ∷ rest) x → ComesTo cut r first rest x
  comes x here = elim (Contains-cases first x rest here) [
    | inl same ↦ inl ((cuts first x).1 (inr (refl, sym same)))
    | inr later ↦ inr later
  ]

  off_list : (x : ℕ) → x ≢ first → (Contains rest x → ⊥) → Contains (first ∷ rest) x → ⊥
  off_list x other none here = elim (Contains-cases first x rest here) [ inl same ↦ other (sym same) | inr later ↦ none later ]

  off_cut : (x : ℕ) → (Contains (first ∷ rest) x → ⊥) → x ≢ first × (Contains rest x → ⊥)
  off_cut x none =
      (λ same. none (subst (Contains (first ∷ rest)) (sym same) (Contains-head first rest)), λ later. none (Contains-later first x rest later))

  pub makes-ring : MakesRing old new r (first ∷ rest)
  makes-ring x y = (
    λ rung. elim ((gathers x y).0 rung) [
      | inl all ↦ elim ((cuts x y).0 all.0) [
        | inl was ↦ inl (was.0, off_list x was.1 all.1, off_list y was.2 all.2)
        | inr both ↦ inr (listed x (inl (ring x both.0)), listed y (inl (ring y both.1)))
      ]
      | inr both ↦ inr (listed x both.0, listed y both.1)
    ],
    λ h. (gathers x y).1 (elim h [
      | inl all ↦
          let off_x = off_cut x all.1 in let off_y = off_cut y all.2 in
          inl ((cuts x y).1 (inl (all.0, off_x.0, off_y.0)), off_x.1, off_y.1)
      | inr both ↦ inr (comes x both.0, comes y both.1)
    ]),
  )
    where
      ring : (z : ℕ) → z ≡ first → AreRung cut r first z
      ring z same = (cuts first z).1 (inr (refl, same))
