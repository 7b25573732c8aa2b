-- The rings follow a change where both levels are one: names go, what came in is parted off, and the last of it gathers at its first names.
use Rattle.std.proofs.Common.{◌≡◌, ◌⊎◌, ◌↔◌, ◌<◌, ◌≤◌, ℕ, List, [], ◌∷◌, ◌++◌, take, drop, Contains, Option, Some, None, inl, inr, refl, sym, ap, ◌∙◌, subst, arith, option_to_list}
use Rattle.std.specs.Prelude.{slice_get, slice_index, IfSome}
use Rattle.std.specs.List.{AllPairs}
use Rattle.std.specs.FinMap as finmap
use Rattle.std.proofs.lemmas.List.{get_or-take, get_or_default, length-take, take-append-drop}
use Rattle.std.proofs.lemmas.List.Elements.{Contains-append_left, Contains-append_right, Contains-append_cases}
use Rattle.std.proofs.lemmas.Option.{none-some, same_Some}
use Rattle.lists.proofs.Entries.{Contains-head, Contains-cases, none_in_empty}
use Rattle.lists.proofs.Told.{told_number}
use Rattle.cluster.specs.Clusters.{Cluster, AreApart}
use Rattle.name_book.specs.Calls.{ComesToMain}
use Rattle.name_book.proofs.Named.{named-same}
use Rattle.name_book.proofs.Rings.{rung-linked}
use Rattle.levels.specs.Changes.{Rebuilds}
use Rattle.levels.specs.Changes.{IsNamed as HasName}
use Rattle.levels.specs.Rings.{Forgets, JoinsLast, Ringed, AreNamedOnce, AreRight, IsMarked, ShareMain}
use Rattle.levels.specs.Tops.{HasFront}
use Rattle.levels.specs.Views.{View, IsIndexed}
use Rattle.levels.proofs.Cutting.{Cuts}
use Rattle.levels.proofs.Ends.{pairs_last}
use Rattle.levels.proofs.Lookups.{decide_named, placed_of}
use Rattle.levels.proofs.Regrouping.{Regroups, named_olds, share_olds, share_out}

-- ---- the last of some clusters

last_is : (last : Option Cluster) (c : Cluster) → Contains (option_to_list last) c → last ≡ Some c
last_is None c here = absurd (none_in_empty c here)
last_is (Some d) c here = elim (Contains-cases d c [] here) [ inl same ↦ ap Some same | inr none ↦ absurd (none_in_empty c none) ]

is_last : (last : Option Cluster) (c : Cluster) → last ≡ Some c → Contains (option_to_list last) c
is_last None c is = absurd (none-some c is)
is_last (Some d) c is = subst (Contains (d ∷ [])) (same_Some d c is) (Contains-head d [])

last_apart : (rest : List Cluster) (last : Option Cluster) (c d : Cluster) → AllPairs AreApart (rest ++ option_to_list last) → last ≡ Some c
    → Contains rest d → AreApart d c
last_apart rest None c d pairs is here = absurd (none-some c is)
last_apart rest (Some e) c d pairs is here = subst (AreApart d) (same_Some e c is) (pairs_last rest e d pairs here)

-- a list with an item has a first one
first_of : (list : List ℕ) (n : ℕ) → Contains list n → (first : ℕ) × (slice_get list 0 ≡ Some first)
first_of [] n here = absurd (none_in_empty n here)
first_of (m ∷ list) n here = (m, refl)

-- what the last of the clusters that came in, if there is one, makes of the rings
abbrev pub Ends : ℕ → Option Cluster → Ringed → Ringed → Type 0
Ends kept None old new = new ≡ old
Ends kept (Some c) old new = JoinsLast kept c old new

module _ (most : ℕ) (outs made : List ℕ) (olds rest : List Cluster) (last : Option Cluster) (kept : ℕ) (gone : List ℕ) (old new : View)
    (indexed : IsIndexed most old) (now : IsIndexed most new) (r : Rebuilds most outs made olds (rest ++ option_to_list last) gone old new)
    (known : (id : ℕ) → HasName (rest ++ option_to_list last) id → HasName olds id)
    (before : Ringed) (right : AreRight before old.numbers old.numbers)
    (less cut : Ringed) (forgets : Forgets (Contains gone) before less) (cuts : Cuts rest less cut) where
  abbrev news : List Cluster
  news = rest ++ option_to_list last

  -- what came in is of the rest, or is the last
  cases : (c : Cluster) → Contains news c → Contains rest c ⊎ (last ≡ Some c)
  cases c here = elim (Contains-append_cases rest (option_to_list last) c here) [ inl front ↦ inl front | inr end ↦ inr (last_is last c end) ]

  from_rest : (x : ℕ) → HasName rest x → HasName news x
  from_rest x named = (named.0, Contains-append_left rest (option_to_list last) named.0 named.1, named.2)

  from_last : (c : Cluster) (x : ℕ) → last ≡ Some c → Contains c.names x → HasName news x
  from_last c x is here = (c, Contains-append_right rest (option_to_list last) c (is_last last c is), here)

  stays : (x : ℕ) → HasName news x → Contains gone x → ⊥
  stays x named lost = (r.covers.lose x lost).1 named

  -- a name of what went out that stays came in
  came : (x : ℕ) → HasName olds x → (Contains gone x → ⊥) → HasName news x
  came x named left = elim (r.covers.kept x named) [ inl here ↦ here | inr lost ↦ absurd (left lost) ]

  not_lost : (x : ℕ) → (HasName olds x → ⊥) → Contains gone x → ⊥
  not_lost x out lost = out (r.covers.lose x lost).0

  last_out : (c : Cluster) (x : ℕ) → last ≡ Some c → Contains c.names x → HasName rest x → ⊥
  last_out c x is here named = last_apart rest last c named.0 r.covers.apart is named.1 x named.2 here

  -- names that shared and still do are of nothing that went out, where they aren't of what came in
  beside : (x y : ℕ) → ShareMain cut x y → ((c : Cluster) → last ≡ Some c → Contains c.names x → ⊥)
      → (ShareMain before x y × (HasName olds x → ⊥) × (HasName olds y → ⊥)) ⊎ AreNamedOnce news x y
  beside x y share none = elim ((cuts.main x y).0 share) [
    | inl away ↦
        let was = (forgets.main x y).0 away.0 in
        let out : HasName olds x → ⊥ = λ named.
        let here = came x named was.1 in
        elim (cases here.0 here.1) [ inl front ↦ away.1 (here.0, front, here.2) | inr end ↦ none here.0 end here.2 ] in
        inl (was.0, out, share_out most outs made olds news gone old new indexed now r before right x y was.0 out)
    | inr once ↦ inr (once.0, Contains-append_left rest (option_to_list last) once.0 once.1, once.2, once.3)
  ]

  still : (x y : ℕ) → ShareMain before x y × (HasName olds x → ⊥) × (HasName olds y → ⊥) → ShareMain cut x y
  still x y was = (cuts.main x y).1 (inl (
    (forgets.main x y).1 (was.0, not_lost x was.1, not_lost y was.2),
    λ named. was.1 (known x (from_rest x named)),
    λ named. was.2 (known y (from_rest y named)),
  ))

  parted : (c : Cluster) (x y : ℕ) → Contains rest c → Contains c.names x → Contains c.names y → ShareMain cut x y
  parted c x y here x_in y_in = (cuts.main x y).1 (inr (c, here, x_in, y_in))

  -- ---- the last of what came in

  module _ (c : Cluster) (is : last ≡ Some c) (front : HasFront kept outs c.names old.numbers) (some : 1 ≤ kept) where
    abbrev head : ℕ
    head = slice_index c.names 0

    abbrev back : List ℕ
    back = drop kept c.names

    both_parts : take kept c.names ++ back ≡ c.names
    both_parts = take-append-drop kept c.names

    in_back : (x : ℕ) → Contains back x → Contains c.names x
    in_back x here = subst (λ (xs : List ℕ). Contains xs x) both_parts (Contains-append_right (take kept c.names) back x here)

    head_in : Contains c.names head
    head_in = (0, omega (arith, some, front.low), get_or_default c.names 0 head 0 (omega (arith, some, front.low)))

    -- a name before the back has the number of the first that went out
    numbered : (x : ℕ) → Contains c.names x → (Contains back x → ⊥) → (n : ℕ) × (finmap.get old.numbers x ≡ Some n) × (slice_get outs 0 ≡ Some n)
    numbered x here out = elim (Contains-append_cases (take kept c.names) back x (subst (λ (xs : List ℕ). Contains xs x) (sym both_parts) here)) [
      | inr late ↦ absurd (out late)
      | inl (i, low, at) ↦
          let named = known x (from_last c x is here) in
          let place = placed_of old.at outs olds named.0 r.taken named.1 in
          let first = first_of outs _ place.number in
          let below : i < kept = omega (arith, low, length-take kept c.names) in
          let same : slice_index c.names i ≡ x =
          get_or_default c.names i 0 x (omega (arith, below, front.low)) ∙ sym (get_or-take kept c.names i x below) ∙ at in
          (first.0, ap (finmap.get old.numbers) (sym same) ∙ front.there first.0 i first.1 below, first.1)
    ]

    -- so it shares with the first name
    fronts_share : (x y : ℕ) → Contains c.names x → (Contains back x → ⊥) → Contains c.names y → (Contains back y → ⊥) → ShareMain cut x y
    fronts_share x y x_in x_out y_in y_out =
        let one = numbered x x_in x_out in let two = numbered y y_in y_out in
        let same : one.0 ≡ two.0 = same_Some one.0 two.0 (sym one.2 ∙ two.2) in
        (cuts.main x y).1 (inl (
          (forgets.main x y).1 (
            (right.zero x y).1 (inr (one.0, one.1, two.1 ∙ ap Some (sym same))),
            stays x (from_last c x is x_in),
            stays y (from_last c y is y_in),
          ),
          last_out c x is x_in,
          last_out c y is y_in,
        ))

    module _ (once : (Contains back head → ⊥)) where
      -- what comes to the first name is what the cluster has
      comes : (x : ℕ) → ComesToMain head back cut x ↔ Contains c.names x
      comes x = (
        λ either. elim either [
          | inl share ↦ elim ((cuts.main head x).0 share) [
            | inl away ↦
                let was = (forgets.main head x).0 away.0 in
                let named = share_olds most outs made olds news gone old new indexed now r before right head x (known head (from_last c head is head_in)) was.0 in
                let here = came x (named.0, named.1, named.3) was.2 in
                elim (cases here.0 here.1) [
                  | inl early ↦ absurd (away.2 (here.0, early, here.2))
                  | inr end ↦ subst (λ (e : Cluster). Contains e.names x) (same_Some here.0 c (sym end ∙ is)) here.2
                ]
            | inr of ↦ absurd (last_out c head is head_in (of.0, of.1, of.2))
          ]
          | inr here ↦ in_back x here
        ],
        λ here. elim (told_number back x) [ inl late ↦ inr late | inr early ↦ inl (fronts_share head x head_in once here early) ],
      )

      gathered : (after : Ringed) → JoinsLast kept c cut after → (x y : ℕ) → ShareMain after x y
          ↔ ((ShareMain before x y × (HasName olds x → ⊥) × (HasName olds y → ⊥)) ⊎ AreNamedOnce news x y)
      gathered after joins x y = (
        λ share. elim ((joins.main x y).0 share) [
          | inl away ↦ elim (told_number c.names x) [
            | inl here ↦ elim ((comes x).1 here) [
              | inl with_head ↦ inr (both x y here ((comes y).0 (inl (rung-linked cut.book 0 head x y with_head away.0))))
              | inr late ↦ absurd (away.1 late)
            ]
            | inr out ↦ beside x y away.0 (λ d end here. out (subst (λ (e : Cluster). Contains e.names x) (same_Some d c (sym end ∙ is)) here))
          ]
          | inr two ↦ inr (both x y ((comes x).0 two.0) ((comes y).0 two.1))
        ],
        λ wanted. (joins.main x y).1 (elim wanted [
          | inl was ↦ inl (
            still x y was,
            λ late. was.1 (known x (from_last c x is (in_back x late))),
            λ late. was.2 (known y (from_last c y is (in_back y late))),
          )
          | inr of ↦ elim (cases of.0 of.1) [
            | inl early ↦ inl (
              parted of.0 x y early of.2 of.3,
              λ late. last_out c x is (in_back x late) (of.0, early, of.2),
              λ late. last_out c y is (in_back y late) (of.0, early, of.3),
            )
            | inr end ↦
                let same : of.0 ≡ c = same_Some of.0 c (sym end ∙ is) in inr (
                  (comes x).1 (subst (λ (e : Cluster). Contains e.names x) same of.2),
                  (comes y).1 (subst (λ (e : Cluster). Contains e.names y) same of.3),
                )
          ]
        ]),
      )
        where
          both : (a b : ℕ) → Contains c.names a → Contains c.names b → AreNamedOnce news a b
          both a b a_in b_in = (c, Contains-append_right rest (option_to_list last) c (is_last last c is), a_in, b_in)

  -- ---- all of it

  module _ (front : IfSome last (λ c. HasFront kept outs c.names old.numbers)) (some : (c : Cluster) → last ≡ Some c → 1 ≤ kept)
      (once : (c : Cluster) → last ≡ Some c → Contains (drop kept c.names) (slice_index c.names 0) → ⊥)
      (after : Ringed) (ends : Ends kept last cut after) where
    shares : (o : Option Cluster) → last ≡ o → IfSome o (λ c. HasFront kept outs c.names old.numbers) → Ends kept o cut after
        → (x y : ℕ) → ShareMain after x y ↔ ((ShareMain before x y × (HasName olds x → ⊥) × (HasName olds y → ⊥)) ⊎ AreNamedOnce news x y)
    shares None is own same x y = (
      λ share. beside x y (subst (λ (k : Ringed). ShareMain k x y) same share) (λ c end here. none-some c (sym is ∙ end)),
      λ wanted. subst (λ (k : Ringed). ShareMain k x y) (sym same) (elim wanted [
        | inl was ↦ still x y was
        | inr of ↦ elim (cases of.0 of.1) [ inl early ↦ parted of.0 x y early of.2 of.3 | inr end ↦ absurd (none-some of.0 (sym is ∙ end)) ]
      ]),
    )
    shares (Some c) is own joins x y = gathered c is own (some c is) (once c is) after joins x y

    same_names : (o : Option Cluster) → Ends kept o cut after → after.book.names ≡ cut.book.names
    same_names None same = ap (λ (k : Ringed). k.book.names) same
    same_names (Some c) joins = joins.names

    pub same_marks : (o : Option Cluster) → Ends kept o cut after → (x : ℕ) → IsMarked after x → IsMarked cut x
    same_marks None same x marked = subst (λ (k : Ringed). IsMarked k x) same marked
    same_marks (Some c) joins x marked = (joins.touched x).0 marked

    names : after.book.names ≡ less.book.names
    names = same_names last ends ∙ cuts.names

    pub regrouped : Regroups olds news before after
    regrouped = record {
      names = λ x. (
        λ named.
            let was = (forgets.names x).0 (named-same after.book less.book (sym names) x named) in
            elim (decide_named olds x) [ inl here ↦ inr (came x here was.1) | inr out ↦ inl (was.0, out) ],
        λ wanted. named-same less.book after.book names x ((forgets.names x).1 (elim wanted [
          | inl was ↦ (was.0, not_lost x was.1)
          | inr here ↦ (named_olds most outs made olds news gone old new indexed now r before right x (known x here), stays x here)
        ])),
      );
      main = shares last refl front ends;
      touched = λ x marked. ((forgets.touched x).0 ((cuts.touched x).0 (same_marks last ends x marked))).0;
    }
