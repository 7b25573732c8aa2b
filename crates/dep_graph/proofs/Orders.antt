-- An order with one more member, with one more pair, and on fewer members, is an order.
use Rattle.std.proofs.Common.{◌≡◌, ℕ, Bool, true, false, ◌&&◌, ◌||◌, ◌⊎◌, nat_eq, inl, inr, sym, ap, ◌∙◌, eqb-true, true≢false}
use Rattle.std.proofs.lemmas.Bool.{and_parts, and_from, or_cases, or_left, or_right}
use Rattle.graphs.specs.Closures.{IsOrder}

-- the pairs (a, d) that one more pair (parent, child) brings
abbrev pub with_pair : (ℕ → ℕ → Bool) → ℕ → ℕ → ℕ → ℕ → Bool
with_pair r parent child a d = r a d || (r a parent && r child d)

abbrev pub with_place : (ℕ → ℕ → Bool) → ℕ → ℕ → ℕ → Bool
with_place r place a d = (nat_eq a place && nat_eq d place) || r a d

abbrev pub on : (ℕ → Bool) → (ℕ → ℕ → Bool) → ℕ → ℕ → Bool
on keep r a d = keep a && (keep d && r a d)

pub IsOrder-pair : (m : ℕ → Bool) (r : ℕ → ℕ → Bool) (parent child : ℕ) → IsOrder m r → r child parent ≡ false → IsOrder m (with_pair r parent child)
IsOrder-pair m r parent child o apart_so_far = record {
  among = λ a d e. elim (or_cases (r a d) (r a parent && r child d) e) as (λ _. (m a ≡ true) × (m d ≡ true)) [
    | inl f ↦ o.among a d f
    | inr f ↦ let both : (r a parent ≡ true) × (r child d ≡ true) = and_parts (r a parent) (r child d) f in
        ((o.among a parent both.0).0, (o.among child d both.1).1)
  ];
  reflexive = λ p e. or_left (r p p) (r p parent && r child p) (o.reflexive p e);
  transitive = λ a b c e f. chain a b c (or_cases (r a b) (r a parent && r child b) e) (or_cases (r b c) (r b parent && r child c) f);
  antisymmetric = λ a b e f. apart a b (or_cases (r a b) (r a parent && r child b) e) (or_cases (r b a) (r b parent && r child a) f);
}
  where
    through : (a d : ℕ) → r a parent ≡ true → r child d ≡ true → with_pair r parent child a d ≡ true
    through a d e f = or_right (r a d) (r a parent && r child d) (and_from (r a parent) (r child d) e f)

    chain : (a b c : ℕ) → (r a b ≡ true) ⊎ ((r a parent && r child b) ≡ true)
        → (r b c ≡ true) ⊎ ((r b parent && r child c) ≡ true) → with_pair r parent child a c ≡ true
    chain a b c (inl e) (inl f) = or_left (r a c) (r a parent && r child c) (o.transitive a b c e f)
    chain a b c (inl e) (inr f) =
        let both : (r b parent ≡ true) × (r child c ≡ true) = and_parts (r b parent) (r child c) f in through a c (o.transitive a b parent e both.0) both.1
    chain a b c (inr e) (inl f) =
        let both : (r a parent ≡ true) × (r child b ≡ true) = and_parts (r a parent) (r child b) e in through a c both.0 (o.transitive child b c both.1 f)
    chain a b c (inr e) (inr f) =
        let one : (r a parent ≡ true) × (r child b ≡ true) = and_parts (r a parent) (r child b) e in
        let two : (r b parent ≡ true) × (r child c ≡ true) = and_parts (r b parent) (r child c) f in
        through a c one.0 two.1

    never : {P : Type 0} → r child parent ≡ true → P
    never e = absurd (true≢false (sym e ∙ apart_so_far))

    apart : (a b : ℕ) → (r a b ≡ true) ⊎ ((r a parent && r child b) ≡ true) → (r b a ≡ true) ⊎ ((r b parent && r child a) ≡ true) → a ≡ b
    apart a b (inl e) (inl f) = o.antisymmetric a b e f
    apart a b (inl e) (inr f) =
        let both : (r b parent ≡ true) × (r child a ≡ true) = and_parts (r b parent) (r child a) f in
        never (o.transitive child a parent both.1 (o.transitive a b parent e both.0))
    apart a b (inr e) (inl f) =
        let both : (r a parent ≡ true) × (r child b ≡ true) = and_parts (r a parent) (r child b) e in
        never (o.transitive child b parent both.1 (o.transitive b a parent f both.0))
    apart a b (inr e) (inr f) =
        let one : (r a parent ≡ true) × (r child b ≡ true) = and_parts (r a parent) (r child b) e in
        let two : (r b parent ≡ true) × (r child a ≡ true) = and_parts (r b parent) (r child a) f in
        never (o.transitive child b parent one.1 two.0)

pub IsOrder-place : (m : ℕ → Bool) (r : ℕ → ℕ → Bool) (place : ℕ) → IsOrder m r → m place ≡ false → IsOrder (λ q. nat_eq q place || m q) (with_place r place)
IsOrder-place m r place o absent = record {
  among = λ a d e. elim (or_cases (nat_eq a place && nat_eq d place) (r a d) e) as (λ _. ((nat_eq a place || m a) ≡ true) × ((nat_eq d place || m d) ≡ true)) [
    | inl f ↦ let both : (nat_eq a place ≡ true) × (nat_eq d place ≡ true) = and_parts (nat_eq a place) (nat_eq d place) f in
        (or_left (nat_eq a place) (m a) both.0, or_left (nat_eq d place) (m d) both.1)
    | inr f ↦ let both : (m a ≡ true) × (m d ≡ true) = o.among a d f in (or_right (nat_eq a place) (m a) both.0, or_right (nat_eq d place) (m d) both.1)
  ];
  reflexive = λ p e. elim (or_cases (nat_eq p place) (m p) e) as (λ _. with_place r place p p ≡ true) [
    | inl f ↦ or_left (nat_eq p place && nat_eq p place) (r p p) (and_from (nat_eq p place) (nat_eq p place) f f)
    | inr f ↦ or_right (nat_eq p place && nat_eq p place) (r p p) (o.reflexive p f)
  ];
  transitive = λ a b c e f. chain a b c (or_cases (nat_eq a place && nat_eq b place) (r a b) e) (or_cases (nat_eq b place && nat_eq c place) (r b c) f);
  antisymmetric = λ a b e f. apart a b (or_cases (nat_eq a place && nat_eq b place) (r a b) e) (or_cases (nat_eq b place && nat_eq a place) (r b a) f);
}
  where
    new_below : {P : Type 0} → (a b : ℕ) → nat_eq b place ≡ true → r a b ≡ true → P
    new_below a b e f = absurd (true≢false (sym (o.among a b f).1 ∙ ap m (eqb-true b place e) ∙ absent))

    new_above : {P : Type 0} → (a b : ℕ) → nat_eq a place ≡ true → r a b ≡ true → P
    new_above a b e f = absurd (true≢false (sym (o.among a b f).0 ∙ ap m (eqb-true a place e) ∙ absent))

    chain : (a b c : ℕ) → ((nat_eq a place && nat_eq b place) ≡ true) ⊎ (r a b ≡ true)
        → ((nat_eq b place && nat_eq c place) ≡ true) ⊎ (r b c ≡ true) → with_place r place a c ≡ true
    chain a b c (inl e) (inl f) = or_left (nat_eq a place && nat_eq c place) (r a c)
        (and_from (nat_eq a place) (nat_eq c place) (and_parts (nat_eq a place) (nat_eq b place) e).0 (and_parts (nat_eq b place) (nat_eq c place) f).1)
    chain a b c (inl e) (inr f) = new_above {P = with_place r place a c ≡ true} b c (and_parts (nat_eq a place) (nat_eq b place) e).1 f
    chain a b c (inr e) (inl f) = new_below {P = with_place r place a c ≡ true} a b (and_parts (nat_eq b place) (nat_eq c place) f).0 e
    chain a b c (inr e) (inr f) = or_right (nat_eq a place && nat_eq c place) (r a c) (o.transitive a b c e f)

    apart : (a b : ℕ) → ((nat_eq a place && nat_eq b place) ≡ true) ⊎ (r a b ≡ true) → ((nat_eq b place && nat_eq a place) ≡ true) ⊎ (r b a ≡ true) → a ≡ b
    apart a b (inl e) f = eqb-true a place (and_parts (nat_eq a place) (nat_eq b place) e).0
        ∙ sym (eqb-true b place (and_parts (nat_eq a place) (nat_eq b place) e).1)
    apart a b (inr e) (inl f) = new_below {P = a ≡ b} a b (and_parts (nat_eq b place) (nat_eq a place) f).0 e
    apart a b (inr e) (inr f) = o.antisymmetric a b e f

pub IsOrder-on : (m keep : ℕ → Bool) (r : ℕ → ℕ → Bool) → IsOrder m r → IsOrder (λ q. keep q && m q) (on keep r)
IsOrder-on m keep r o = record {
  among = λ a d e. let p : (keep a ≡ true) × ((keep d && r a d) ≡ true) =
      and_parts (keep a) (keep d && r a d) e in let q : (keep d ≡ true) × (r a d ≡ true) = and_parts (keep d) (r a d) p.1 in
      (and_from (keep a) (m a) p.0 (o.among a d q.1).0, and_from (keep d) (m d) q.0 (o.among a d q.1).1);
  reflexive = λ p e. let both : (keep p ≡ true) × (m p ≡ true) = and_parts (keep p) (m p) e in
      and_from (keep p) (keep p && r p p) both.0 (and_from (keep p) (r p p) both.0 (o.reflexive p both.1));
  transitive = λ a b c e f.
      and_from (keep a) (keep c && r a c) (kept a b e).0 (and_from (keep c) (r a c) (kept b c f).1 (o.transitive a b c (kept a b e).2 (kept b c f).2));
  antisymmetric = λ a b e f. o.antisymmetric a b (kept a b e).2 (kept b a f).2;
}
  where
    kept : (a d : ℕ) → on keep r a d ≡ true → (keep a ≡ true) × (keep d ≡ true) × (r a d ≡ true)
    kept a d e = let p : (keep a ≡ true) × ((keep d && r a d) ≡ true) =
        and_parts (keep a) (keep d && r a d) e in let q : (keep d ≡ true) × (r a d ≡ true) = and_parts (keep d) (r a d) p.1 in (p.0, q.0, q.1)
