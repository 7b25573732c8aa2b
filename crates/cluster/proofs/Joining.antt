-- Two clusters in one, by the names that are linked.
use Rattle.std.proofs.Common.{◌≡◌, ℕ, ◌+◌, ◌-◌, ◌<◌, ◌≤◌, true, false, List, ◌++◌, length, slice_index, Contains, inl, inr, refl, sym, ap, ◌∙◌, subst, subst₂, arith, length-append, lt-ltb}
use Rattle.std.proofs.lemmas.List.{get_or_append_left, get_or-append_right}
use Rattle.std.proofs.lemmas.List.Elements.{Contains-append_left, Contains-append_right}
use Rattle.lists.proofs.Distinct.{one_place, distinct_joined}
use Rattle.lists.specs.Distinct.{AreDistinct}
use Rattle.graphs.specs.Closures.{Closure, is_member, is_ancestor, members_of, IsClosed, IsMerged, AddsPair}
use Rattle.bitset.specs.Places.{places}
use Rattle.cluster.specs.Changes.{Joins, AreAcross}
use Rattle.cluster.specs.Named.{named, IsNamed}
use Rattle.cluster.proofs.At.{IsAt}
use Rattle.cluster.proofs.Joined.{IsAcross, merged_member, across, IsNamed-joined, Joins-named}
use Rattle.cluster.proofs.Names.{Contains-stands}

module _ (n : ℕ) (xs ys : List ℕ) (f g h : Closure) (one : IsNamed n xs f) (two : IsNamed n ys g)
    (few : length xs + length ys ≤ n) (apart : (id : ℕ) → Contains xs id → Contains ys id → ⊥)
    (merged : IsMerged f g (places n (members_of f)) (places n (members_of g)) h) (a b parent child : ℕ)
    (above : IsAt (xs ++ ys) a parent) (below : IsAt (xs ++ ys) b child) (sides : AreAcross xs ys parent child) where
  once : AreDistinct (xs ++ ys)
  once = distinct_joined xs ys one.once two.once apart

  long : length (xs ++ ys) ≡ length xs + length ys
  long = length-append xs ys

  in_first : (p id : ℕ) → IsAt (xs ++ ys) p id → Contains xs id → p < length xs
  in_first p id at here =
      let stands = Contains-stands xs id here in
      let inside : stands.0 < length xs = stands.1 in
      let same : stands.0 ≡ p = one_place (xs ++ ys) stands.0 p 0 once (let l : length (xs ++ ys) ≡ length xs + length ys = long in omega arith) at.low
      (get_or_append_left xs ys 0 stands.0 stands.1 ∙ stands.2 ∙ sym at.here) in
      subst (λ (m : ℕ). m < length xs) same stands.1

  in_second : (p id : ℕ) → IsAt (xs ++ ys) p id → Contains ys id → length xs ≤ p
  in_second p id at here =
      let stands = Contains-stands ys id here in
      let inside : stands.0 < length ys = stands.1 in
      let there : slice_index (xs ++ ys) (length xs + stands.0) ≡ id =
      get_or-append_right xs ys (length xs) (length xs + stands.0) 0 refl (omega arith)
      ∙ ap (slice_index ys) (let e : length xs + stands.0 - length xs ≡ stands.0 = omega arith in e) ∙ stands.2 in
      let same : length xs + stands.0 ≡ p = one_place (xs ++ ys) (length xs + stands.0) p 0 once
      (let l : length (xs ++ ys) ≡ length xs + length ys = long in omega arith) at.low (there ∙ sym at.here) in
      omega arith

  placed_across : IsAcross (length xs) a b
  placed_across = elim sides [
    | inl up ↦ inl (in_first a parent above up.0, in_second b child below up.1)
    | inr down ↦ inr (in_second a parent above down.0, in_first b child below down.1)
  ]

  pub join_asks : (is_member h a ≡ true) × (is_member h b ≡ true) × (is_ancestor h b a ≡ false)
  join_asks = (
    merged_member n xs ys f g h one two few apart merged a ∙ lt-ltb a (length xs + length ys) (subst (λ (m : ℕ). a < m) long above.low),
    merged_member n xs ys f g h one two few apart merged b ∙ lt-ltb b (length xs + length ys) (subst (λ (m : ℕ). b < m) long below.low),
    elim placed_across [
      | inl up ↦ (across n xs ys f g h one two few apart merged a b up.0 up.1).1
      | inr down ↦ (across n xs ys f g h one two few apart merged b a down.1 down.0).0
    ],
  )

  module _ (new : Closure) (pair : AddsPair h new a b) where
    pub join_kept : IsClosed n new → IsNamed n (xs ++ ys) new
    join_kept closed = IsNamed-joined n xs ys f g h one two few apart merged new a b pair above.low below.low placed_across closed

    pub join_graph : Joins (named xs f) (named ys g) parent child (named (xs ++ ys) new)
    join_graph =
        subst₂ (λ (x y : ℕ). Joins (named xs f) (named ys g) x y (named (xs ++ ys) new)) above.here below.here
        (Joins-named n xs ys f g h one two few apart merged new a b pair above.low below.low)

pub in_both : (xs ys : List ℕ) (parent child : ℕ) → AreAcross xs ys parent child → Contains (xs ++ ys) parent × Contains (xs ++ ys) child
in_both xs ys parent child sides = elim sides [
  | inl up ↦ (Contains-append_left xs ys parent up.0, Contains-append_right xs ys child up.1)
  | inr down ↦ (Contains-append_right xs ys parent down.0, Contains-append_left xs ys child down.1)
]
