-- Trimming: that no component of what is left is over the limits, and that there is a set of names which it drops.
use Rattle.std.proofs.Common.{◌≡◌, ◌≢◌, ◌↔◌, ◌⊎◌, ℕ, suc, zero, ◌+◌, ◌<◌, ◌≤◌, length, length-append, Bool, true, false, List, [], ◌∷◌, ◌++◌, inl, inr, refl, sym, ap, ◌∙◌, subst, arith, true≢false}
use Rattle.std.specs.Prelude.{Contains, sum_by}
use Rattle.std.proofs.lemmas.Bool.{cases_eq, cases_lt, cases_order}
use Rattle.std.proofs.lemmas.Int.{ints}
use Rattle.std.proofs.lemmas.List.{map-append}
use Rattle.std.proofs.lemmas.List.Elements.{Contains-append_cases, Contains-push_cases}
use Rattle.lists.specs.Distinct.{AreDistinct}
use Rattle.lists.proofs.Distinct.{distinct_within, distinct_push}
use Rattle.lists.proofs.Told.{told_number}
use Rattle.lists.proofs.Entries.{Contains-head, Contains-later, Contains-cases, none_in_empty, push_cases}
use Rattle.fee_rate.specs.declared.rates.Sum.{Sum}
use Rattle.fee_rate.specs.Rates.{Same}
use Rattle.fee_rate.proofs.Orders.{total, below_at_most, same_at_most, same_back, at_most_below, below_at_most_chains, same_chains}
use Rattle.graphs.specs.Graphs.{Graph, IsGraph, Trail, AreConnected, Lists}
use Rattle.graphs.specs.Drops.{DropsNames}
use Rattle.graphs.specs.Rates.{HasSizes}
use Rattle.graphs.proofs.ListLemmas.{Lists-same, Lists-for}
use Rattle.graphs.proofs.WalkLemmas.{AreConnected-sym, AreConnected-trans}
use Rattle.graph_model.specs.Limits.{Bounds, AreOver}
use Rattle.graph_model.specs.Oversize.{HasOver, AreOfOneComponent}
use Rattle.graph_model.specs.Trims.{kept_of, IsCandidate, GoesFirst, StaysWithin, AreMarked, IsTrimmed}
use Rattle.graph_model.proofs.LevelLemmas.{IsTold, both_told, either_told, connected_told, some_list}
use Rattle.graph_model.proofs.TrimLemmas.{Marks, looked_at, kept_entry, entry_kept, told_some, along_trail, connected_more, some_among}

-- ---- lists that there are

not_told : (P : Type 0) → IsTold P → IsTold (P → ⊥)
not_told P (inl is) = inr (λ isnt. isnt is)
not_told P (inr isnt) = inl isnt

less_told : (a b : ℕ) → IsTold (a < b)
less_told a b = elim (cases_lt a b) [ inl less ↦ inl less | inr past ↦ inr (λ less. omega (arith, past, less)) ]

-- a number above all of a list
above_all : (xs : List ℕ) → (bound : ℕ) × ((q : ℕ) → Contains xs q → q < bound)
above_all [] = (0, λ q here. absurd (none_in_empty q here))
above_all (x ∷ xs) =
    let rest = above_all xs in (
      suc x + rest.0,
      λ q here. elim (Contains-cases x q xs here) [
        | inl same ↦ omega (arith, same)
        | inr later ↦ let low : q < rest.0 = rest.1 q later in omega (arith, low)
      ],
    )

above_ends : (pairs : List (ℕ × ℕ)) → (bound : ℕ) × ((x y : ℕ) → Contains pairs (x, y) → (x < bound) × (y < bound))
above_ends [] = (0, λ x y here. absurd (none_in_empty (x, y) here))
above_ends (p ∷ pairs) =
    let rest = above_ends pairs in (
      suc p.0 + suc p.1 + rest.0,
      λ x y here. elim (Contains-cases p (x, y) pairs here) [
        | inl same ↦
            let one : p.0 ≡ x = ap (λ (r : ℕ × ℕ). r.0) same in
            let two : p.1 ≡ y = ap (λ (r : ℕ × ℕ). r.1) same in
            (omega (arith, one), omega (arith, two))
        | inr later ↦ let low = rest.1 x y later in (omega (arith, low.0), omega (arith, low.1))
      ],
    )

-- the component of a name
some_component : (pairs : List (ℕ × ℕ)) (id : ℕ) → (ids : List ℕ) × Lists (AreConnected pairs id) ids
some_component pairs id =
    let bound = above_ends pairs in
    let top : ℕ = suc id + bound.0 in
    some_list (AreConnected pairs id) (λ q. connected_told pairs id q) top
    (λ q trail. along_trail (λ (n : ℕ). n < top) pairs
    (λ x y here. let low = bound.1 x y here in (omega (arith, low.0), omega (arith, low.1))) id q trail.0 (omega arith) trail.1)

-- ---- what is left has no component over the limits

-- the last entry with a property
last_of : {A : Type 0} (P : A → Type 0) → ((x : A) → IsTold (P x)) → (xs : List A) (x : A) → Contains xs x → P x
    → (before after : List A) × (last : A) × (xs ≡ before ++ last ∷ after) × P last × ((y : A) → Contains after y → P y → ⊥)
last_of P told [] x here is = absurd (none_in_empty x here)
last_of P told (a ∷ xs) x here is = elim (told_some P told xs) [
  | inl found ↦ let rest = last_of P told xs found.0 found.1 found.2 in (a ∷ rest.0, rest.1, rest.2, ap (λ zs. a ∷ zs) rest.3, rest.4, rest.5)
  | inr none ↦ elim (Contains-cases a x xs here) [
    | inl same ↦ ([], xs, a, refl, subst P (sym same) is, none)
    | inr later ↦ absurd (none x later is)
  ]
]

-- where other pairs have each pair between names of a component, that is connected along them too
inside_trail : (pairs others : List (ℕ × ℕ)) (a : ℕ)
    → ((x y : ℕ) → AreConnected pairs a x → AreConnected pairs a y → Contains pairs (x, y) → Contains others (x, y))
    → (b n : ℕ) → Trail pairs a b n → Trail others a b n
inside_trail pairs others a more b zero same = same
inside_trail pairs others a more b (suc n) trail =
    let near : AreConnected pairs a trail.0 = (n, trail.1) in
    let far : AreConnected pairs a b = (suc n, trail) in (
      trail.0,
      inside_trail pairs others a more trail.0 n trail.1,
      elim trail.2 [ inl down ↦ inl (more trail.0 b near far down) | inr up ↦ inr (more b trail.0 far near up) ],
    )

none_over_none : (bounds : Bounds) (size : ℕ → ℕ) → AreOver bounds size [] → ⊥
none_over_none bounds size (inl many) = omega (arith, many)
none_over_none bounds size (inr large) = omega (arith, large)

more_over : (bounds : Bounds) (size : ℕ → ℕ) (xs ys : List ℕ) → AreDistinct xs → ((q : ℕ) → Contains xs q → Contains ys q)
    → AreOver bounds size xs → AreOver bounds size ys
more_over bounds size xs ys once inside over =
    let fits = distinct_within size xs ys once inside in
    elim over [ inl many ↦ inl (omega (arith, many, fits.0)) | inr large ↦ inr (omega (arith, large, fits.1)) ]

module _ (bounds : Bounds) (rate : ℕ → Sum) (old new : Graph) (ids : List ℕ) (whole : IsGraph old) (trimmed : IsTrimmed bounds rate old ids)
    (drops : DropsNames old ids new) where
  left_kept : (id : ℕ) → Contains new.names id → Contains (kept_of trimmed.marked) id
  left_kept id here =
      let is = (drops.names id).0 here in
      elim (told_number (kept_of trimmed.marked) id) [ inl kept ↦ kept | inr unkept ↦ absurd (is.1 ((trimmed.rest.exact id).1 (is.0, unkept))) ]

  left_ends : (x y : ℕ) → Contains new.pairs (x, y) → Contains new.names x × Contains new.names y
  left_ends x y here =
      let is = (drops.pairs x y).0 here in
      let ends = whole.ends x y is.2 in ((drops.names x).1 (ends.0, is.0), (drops.names y).1 (ends.1, is.1))

  -- the last name of a component that is kept had all of it within the limits
  module _ (c : ℕ) (named : Contains new.names c) where
    abbrev IsOf : (ℕ × Bool) → Type 0
    IsOf entry = (entry.1 ≡ true) × AreConnected new.pairs c entry.0

    of_told : (entry : ℕ × Bool) → IsTold (IsOf entry)
    of_told entry = elim (bool_told entry.1) [
      | inl is ↦ elim (connected_told new.pairs c entry.0) [ inl joined ↦ inl (is, joined) | inr lone ↦ inr (λ both. lone both.1) ]
      | inr isnt ↦ inr (λ both. isnt both.0)
    ]
      where
        bool_told : (b : Bool) → IsTold (b ≡ true)
        bool_told true = inl refl
        bool_told false = inr (λ is. true≢false (sym is))

    of_marked : (q : ℕ) → AreConnected new.pairs c q → Contains trimmed.marked (q, true)
    of_marked q joined = kept_entry trimmed.marked q (left_kept q (along_trail (Contains new.names) new.pairs left_ends c q joined.0 named joined.1))

    component_fits : (cs : List ℕ) → AreDistinct cs → ((q : ℕ) → Contains cs q → AreConnected new.pairs c q) → AreOver bounds (λ id. (rate id).size) cs → ⊥
    component_fits cs once joined over =
        let last = last_of IsOf of_told trimmed.marked (c, true) (of_marked c (0, refl)) (refl, (0, refl)) in
        let before : Marks = last.0 in
        let after : Marks = last.1 in
        let id : ℕ = (last.2).0 in
        let mark : Bool = (last.2).1 in
        let turn = trimmed.marks.turns before after id mark last.3 in
        let stays : StaysWithin bounds rate old (kept_of before) id = turn.2.0 last.4.0 in
        let at : AreConnected new.pairs c id = last.4.1 in
        let front : (q : ℕ) → AreConnected new.pairs c q → Contains (id ∷ kept_of before) q = λ q is.
        elim (Contains-append_cases before ((id, mark) ∷ after) (q, true) (subst (λ zs. Contains zs (q, true)) last.3 (of_marked q is))) [
          | inl early ↦ Contains-later id q (kept_of before) (entry_kept before q early)
          | inr late ↦ elim (Contains-cases {X = ℕ × Bool} (id, mark) (q, true) after late) [
            | inl same ↦ subst (Contains (id ∷ kept_of before)) (ap (λ (e : ℕ × Bool). e.0) same) (Contains-head id (kept_of before))
            | inr behind ↦ absurd (last.5 (q, true) behind (refl, is))
          ]
        ] in
        let among = some_among old.pairs (id ∷ kept_of before) in
        let list = some_component among.0 id in
        let from : (q : ℕ) → AreConnected new.pairs id q → AreConnected new.pairs c q = λ q is. AreConnected-trans new.pairs c id q at is in
        let along : (x y : ℕ) → AreConnected new.pairs id x → AreConnected new.pairs id y → Contains new.pairs (x, y) → Contains among.0 (x, y) =
        λ x y near far here. (among.1 x y).1 (((drops.pairs x y).0 here).2, front x (from x near), front y (from y far)) in
        stays among.0 list.0 among.1 list.1
        (more_over bounds (λ id. (rate id).size) cs list.0 once
        (λ q here.
        let trail = AreConnected-trans new.pairs id c q (AreConnected-sym new.pairs c id at) (joined q here) in
        (list.1.exact q).1 (trail.0, inside_trail new.pairs among.0 id along q trail.0 trail.1))
        over)

  over_none : (cs : List ℕ) → AreOfOneComponent new cs → AreOver bounds (λ id. (rate id).size) cs → ⊥
  over_none [] of over = none_over_none bounds (λ id. (rate id).size) over
  over_none (c ∷ cs) of over =
      component_fits c (of.inside c (Contains-head c cs)) (c ∷ cs) of.once (λ q here. of.together c q (Contains-head c cs) here) over

-- without the names that trimming drops no component is over the limits
pub trimmed_within : (bounds : Bounds) (rate : ℕ → Sum) (old new : Graph) (ids : List ℕ) → IsGraph old → IsTrimmed bounds rate old ids
    → DropsNames old ids new → HasOver bounds (λ id. (rate id).size) new → ⊥
trimmed_within bounds rate old new ids whole trimmed drops over = over_none bounds rate old new ids whole trimmed drops over.0 over.1 over.2

-- ---- the first of the candidates, where each has a size of at least 1

goes_total : (rate : ℕ → Sum) (x y : ℕ) → x ≢ y → GoesFirst rate x y ⊎ GoesFirst rate y x
goes_total rate x y other = elim (total (rate x) (rate y)) [
  | inr above ↦ inl (inl above)
  | inl low ↦ elim (total (rate y) (rate x)) [
    | inr below ↦ inr (inl below)
    | inl high ↦
        let same : Same (rate x) (rate y) = record { crossed = omega (arith, ints, low.crossed, high.crossed) } in
        elim (cases_order x y) [
          | inl is ↦ absurd (other is)
          | inr differ ↦ elim differ [ inl less ↦ inl (inr (same, less)) | inr more ↦ inr (inr (same_back (rate x) (rate y) same, more)) ]
        ]
  ]
]

goes_chains : (rate : ℕ → Sum) (x y z : ℕ) → 1 ≤ (rate x).size → 1 ≤ (rate y).size → 1 ≤ (rate z).size
    → GoesFirst rate x y → GoesFirst rate y z → GoesFirst rate x z
goes_chains rate x y z p q r (inl one) (inl two) = inl (below_at_most_chains (rate z) (rate y) (rate x) q p two (below_at_most (rate y) (rate x) one))
goes_chains rate x y z p q r (inl one) (inr two) =
    inl (at_most_below (rate z) (rate y) (rate x) r q (same_at_most (rate z) (rate y) (same_back (rate y) (rate z) two.0)) one)
goes_chains rate x y z p q r (inr one) (inl two) =
    inl (below_at_most_chains (rate z) (rate y) (rate x) q p two (same_at_most (rate y) (rate x) (same_back (rate x) (rate y) one.0)))
goes_chains rate x y z p q r (inr one) (inr two) = inr (same_chains (rate x) (rate y) (rate z) q one.0 two.0, omega (arith, one.1, two.1))

module _ (rate : ℕ → Sum) (P : ℕ → Type 0) (told : (q : ℕ) → IsTold (P q)) (sized : (q : ℕ) → P q → 1 ≤ (rate q).size) where
  abbrev IsFirstOf : List ℕ → ℕ → Type 0
  IsFirstOf xs x = P x × ((y : ℕ) → Contains xs y → P y → y ≢ x → GoesFirst rate x y)

  first_of_two : (x z : ℕ) (xs : List ℕ) → P x → IsFirstOf xs z → (first : ℕ) × IsFirstOf (x ∷ xs) first
  first_of_two x z xs is best = elim (cases_eq x z) [
    | inl same ↦ (
      z,
      (
        best.0,
        λ y here holds other. elim (Contains-cases x y xs here) [
          | inl head ↦ absurd (other (sym head ∙ same))
          | inr later ↦ best.1 y later holds other
        ],
      ),
    )
    | inr differ ↦ elim (goes_total rate x z differ) [
      | inl before ↦ (
        x,
        (
          is,
          λ y here holds other. elim (Contains-cases x y xs here) [
            | inl head ↦ absurd (other (sym head))
            | inr later ↦ elim (cases_eq y z) [
              | inl same ↦ subst (GoesFirst rate x) (sym same) before
              | inr apart ↦ goes_chains rate x z y (sized x is) (sized z best.0) (sized y holds) before (best.1 y later holds apart)
            ]
          ],
        ),
      )
      | inr after ↦ (
        z,
        (
          best.0,
          λ y here holds other. elim (Contains-cases x y xs here) [
            | inl head ↦ subst (GoesFirst rate z) head after
            | inr later ↦ best.1 y later holds other
          ],
        ),
      )
    ]
  ]

  some_best : (xs : List ℕ) → ((first : ℕ) × IsFirstOf xs first) ⊎ ((y : ℕ) → Contains xs y → P y → ⊥)
  some_best [] = inr (λ y here. absurd (none_in_empty y here))
  some_best (x ∷ xs) = elim (told x) [
    | inl is ↦ elim (some_best xs) [
      | inl found ↦ inl (first_of_two x found.0 xs is found.1)
      | inr none ↦ inl (
        x,
        (
          is,
          λ y here holds other. elim (Contains-cases x y xs here) [
            | inl head ↦ absurd (other (sym head))
            | inr later ↦ absurd (none y later holds)
          ],
        ),
      )
    ]
    | inr isnt ↦ elim (some_best xs) [
      | inl found ↦ inl (
        found.0,
        (
          found.1.0,
          λ y here holds other. elim (Contains-cases x y xs here) [
            | inl head ↦ absurd (isnt (subst P (sym head) holds))
            | inr later ↦ found.1.1 y later holds other
          ],
        ),
      )
      | inr none ↦ inr (λ y here holds. elim (Contains-cases x y xs here) [
        | inl head ↦ isnt (subst P (sym head) holds)
        | inr later ↦ none y later holds
      ])
    ]
  ]

-- ---- there is a marking

over_told : (bounds : Bounds) (size : ℕ → ℕ) (ids : List ℕ) → IsTold (AreOver bounds size ids)
over_told bounds size ids = either_told _ _ (less_told bounds.count (length ids)) (less_told bounds.size (sum_by size ids))

module _ (bounds : Bounds) (rate : ℕ → Sum) (graph : Graph) (sizes : HasSizes rate graph.names) where
  candidate_told : (marked : Marks) (id : ℕ) → IsTold (IsCandidate graph marked id)
  candidate_told marked id =
      let Lacks : (ℕ × ℕ) → Type 0 = λ pair. (pair.1 ≡ id) × (Contains (kept_of marked) pair.0 → ⊥) in
      let lacks_told : (pair : ℕ × ℕ) → IsTold (Lacks pair) =
      λ pair. both_told (pair.1 ≡ id) (Contains (kept_of marked) pair.0 → ⊥) (cases_eq pair.1 id) (not_told _ (told_number (kept_of marked) pair.0)) in
      elim (told_number graph.names id) [
        | inr none ↦ inr (λ is. none is.named)
        | inl named ↦ elim (told_number (looked_at marked) id) [
          | inl seen ↦ inr (λ is. is.fresh seen)
          | inr fresh ↦ elim (told_some Lacks lacks_told graph.pairs) [
            | inl found ↦ inr (λ is. found.2.1 (is.parents (found.0).0
                (subst (Contains graph.pairs) (let same : ◌≡◌ {A = ℕ × ℕ} found.0 ((found.0).0, id) = λ i. ((found.0).0, found.2.0 i) in same) found.1)))
            | inr none ↦ inl (record {
              named = named;
              fresh = fresh;
              parents = λ parent pair. elim (told_number (kept_of marked) parent) [
                | inl is ↦ is
                | inr isnt ↦ absurd (none (parent, id) pair (refl, isnt))
              ];
            })
          ]
        ]
      ]

  stays_told : (kept : List ℕ) (id : ℕ) → IsTold (StaysWithin bounds rate graph kept id)
  stays_told kept id =
      let among = some_among graph.pairs (id ∷ kept) in
      let list = some_component among.0 id in
      elim (over_told bounds (λ q. (rate q).size) list.0) [
        | inl over ↦ inr (λ stays. stays among.0 list.0 among.1 list.1 over)
        | inr fits ↦ inl (λ pairs ids others lists over.
            let there : (x y : ℕ) → Contains pairs (x, y) → Contains among.0 (x, y) = λ x y here. (among.1 x y).1 ((others x y).0 here) in
            let back : (x y : ℕ) → Contains among.0 (x, y) → Contains pairs (x, y) = λ x y here. (others x y).1 ((among.1 x y).0 here) in
            let same : ids ≡ list.0 =
            Lists-same (AreConnected among.0 id) ids list.0
            (Lists-for (AreConnected pairs id) (AreConnected among.0 id) ids
            (connected_more pairs among.0 there id) (connected_more among.0 pairs back id) lists)
            list.1 in
            fits (subst (AreOver bounds (λ q. (rate q).size)) same over))
      ]

  some_mark : (kept : List ℕ) (id : ℕ) → (mark : Bool) × ((mark ≡ true) ↔ StaysWithin bounds rate graph kept id)
  some_mark kept id = elim (stays_told kept id) [
    | inl stays ↦ (true, (λ is. stays, λ holds. refl))
    | inr over ↦ (false, (λ is. absurd (true≢false (sym is)), λ stays. absurd (over stays)))
  ]

  abbrev AreTurns : Marks → Type 0
  AreTurns marked = (before after : Marks) (id : ℕ) (mark : Bool) → marked ≡ before ++ (id, mark) ∷ after → IsCandidate graph before id
      × ((other : ℕ) → IsCandidate graph before other → other ≢ id → GoesFirst rate id other)
      × ((mark ≡ true) ↔ StaysWithin bounds rate graph (kept_of before) id)

  one_more : (marked : Marks) → AreTurns marked → (id : ℕ) (mark : Bool) → IsCandidate graph marked id
      → ((other : ℕ) → IsCandidate graph marked other → other ≢ id → GoesFirst rate id other)
      → ((mark ≡ true) ↔ StaysWithin bounds rate graph (kept_of marked) id) → AreTurns (marked ++ (id, mark) ∷ [])
  one_more marked turns id mark is first stays before after other its e = elim (push_cases {A = ℕ × Bool} marked (id, mark) (other, its) before after e) [
    | inr found ↦ turns before found.0 other its found.1
    | inl found ↦
        let name : id ≡ other = ap (λ (entry : ℕ × Bool). entry.0) found.1 in
        let same : mark ≡ its = ap (λ (entry : ℕ × Bool). entry.1) found.1 in
        let front : marked ≡ before = sym found.0 in (
          subst (λ zs. IsCandidate graph zs other) front (subst (IsCandidate graph marked) name is),
          subst (λ zs. (q : ℕ) → IsCandidate graph zs q → q ≢ other → GoesFirst rate other q) front
              (subst (λ n. (q : ℕ) → IsCandidate graph marked q → q ≢ n → GoesFirst rate n q) name first),
          subst (λ zs. (its ≡ true) ↔ StaysWithin bounds rate graph (kept_of zs) other) front
              (subst (λ n. (its ≡ true) ↔ StaysWithin bounds rate graph (kept_of marked) n) name
              (subst (λ m. (m ≡ true) ↔ StaysWithin bounds rate graph (kept_of marked) id) same stays)),
        )
  ]

  best : (marked : Marks) → ((first : ℕ) × IsFirstOf rate (IsCandidate graph marked) (candidate_told marked) (λ q is. sizes q is.named) graph.names first)
      ⊎ ((q : ℕ) → Contains graph.names q → IsCandidate graph marked q → ⊥)
  best marked = some_best rate (IsCandidate graph marked) (candidate_told marked) (λ q is. sizes q is.named) graph.names

  -- turn by turn, until no name is a candidate
  all_marked : (fuel : ℕ) (marked : Marks) → AreTurns marked → AreDistinct (looked_at marked)
      → ((q : ℕ) → Contains (looked_at marked) q → Contains graph.names q) → length graph.names < fuel + length (looked_at marked)
      → (all : Marks) × AreMarked bounds rate graph all
  all_marked zero marked turns once inside long =
      let fits = distinct_within (λ q. q) (looked_at marked) graph.names once inside in absurd (omega (arith, fits.0, long))
  all_marked (suc fuel) marked turns once inside long = elim (best marked) [
    | inr none ↦ (marked, record { turns = turns; ended = λ q is. none q is.named is })
    | inl found ↦
        let id : ℕ = found.0 in
        let is : IsCandidate graph marked id = found.1.0 in
        let mark = some_mark (kept_of marked) id in
        let more : looked_at (marked ++ (id, mark.0) ∷ []) ≡ looked_at marked ++ id ∷ [] =
        map-append (λ (entry : ℕ × Bool). entry.0) marked ((id, mark.0) ∷ []) in
        all_marked fuel (marked ++ (id, mark.0) ∷ [])
        (one_more marked turns id mark.0 is (λ other candidate differ. found.1.1 other candidate.named candidate differ) mark.1)
        (subst AreDistinct (sym more) (distinct_push (looked_at marked) id once is.fresh))
        (λ q here. elim (Contains-push_cases (looked_at marked) id q (subst (λ zs. Contains zs q) more here)) [
          | inl before ↦ inside q before
          | inr same ↦ subst (Contains graph.names) same is.named
        ])
        (omega (arith, long, ap length more, length-append (looked_at marked) (id ∷ [])))
  ]

  pub marked_some : (marked : Marks) × AreMarked bounds rate graph marked
  marked_some = all_marked (suc (length graph.names)) []
      (λ before after id mark e. absurd (omega (arith, ap length e, length-append before ((id, mark) ∷ after)))) tt (λ q here. absurd (none_in_empty q here))
      (omega arith)

-- there is a set of names that trimming drops, where each name has a size
pub trimmed_some : (bounds : Bounds) (rate : ℕ → Sum) (graph : Graph) → HasSizes rate graph.names → (ids : List ℕ) × IsTrimmed bounds rate graph ids
trimmed_some bounds rate graph sizes =
    let marks = marked_some bounds rate graph sizes in
    let bound = above_all graph.names in
    let list = some_list (λ id. Contains graph.names id × (Contains (kept_of marks.0) id → ⊥))
    (λ id. both_told _ _ (told_number graph.names id) (not_told _ (told_number (kept_of marks.0) id))) bound.0 (λ id is. bound.1 id is.0) in
    (list.0, record { marked = marks.0; marks = marks.1; rest = list.1 })
