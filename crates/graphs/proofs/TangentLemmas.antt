-- Flat parts of falling rate: every closed set of the whole graph is on or below each part's line.
use Rattle.std.proofs.Common.{◌≡◌, ℕ, ◌+◌, ◌≤◌, List, [], ◌∷◌, ◌++◌, map, Bool, not, inl, inr, ℤ, pos, ◌+ℤ◌, ◌-ℤ◌, ◌*ℤ◌, ◌≤ℤ◌, refl, sym, ap, ◌∙◌, subst, arith}
use Rattle.std.specs.Prelude.{Contains, flat_map}
use Rattle.std.specs.List.{filter}
use Rattle.std.proofs.lemmas.Int.{ints}
use Rattle.std.proofs.lemmas.List.Sums.{sum_by-append}
use Rattle.std.proofs.lemmas.List.Filters.{sum_by-filter_both}
use Rattle.std.proofs.lemmas.List.Concat.{flat_map-append}
use Rattle.std.proofs.lemmas.List.Elements.{Contains-append_left, Contains-append_right, filter-append}
use Rattle.fee_rate.proofs.Orders.{at_most_chains}
use Rattle.lists.proofs.Entries.{Contains-head, Contains-later, Contains-cases, none_in_empty}
use Rattle.arithmetic.proofs.Sums.{total-append, total-filter}
use Rattle.arithmetic.proofs.Products.{mul-sub_left, mul-sub_right}
use Rattle.arithmetic.proofs.Rates.{sum_below, sum_above_back, sum_at_most, sum_at_least}
use Rattle.fee_rate.specs.declared.rates.Sum.{Sum}
use Rattle.fee_rate.specs.Rates.{AtMost}
use Rattle.graphs.specs.Rates.{sums, Falls}
use Rattle.graphs.specs.Linearizations.{IsUnderLine}

-- ---- falling rates, over positive sizes

pub falls-tail : (a : Sum) (rest : List Sum) → Falls (a ∷ rest) → Falls rest
falls-tail a [] falls = tt
falls-tail a (b ∷ rest) falls = falls.1

pub falls_after : (a : Sum) (rest : List Sum) → Falls (a ∷ rest) → ((b : Sum) → Contains rest b → 1 ≤ b.size) → (b : Sum) → Contains rest b → AtMost b a
falls_after a [] falls some b h = absurd (none_in_empty b h)
falls_after a (c ∷ rest) falls some b h = elim (Contains-cases c b rest h) [
  | inl same ↦ subst (λ z. AtMost z a) same falls.0
  | inr later ↦
      at_most_chains b c a (some c (Contains-head c rest)) (falls_after c rest falls.1 (λ d there. some d (Contains-later c d rest there)) b later) falls.0
]

pub falls_before : (before after : List Sum) (a : Sum) → Falls (before ++ a ∷ after)
    → ((b : Sum) → Contains (before ++ a ∷ after) b → 1 ≤ b.size) → (b : Sum) → Contains before b → AtMost a b
falls_before [] after a falls some b h = absurd (none_in_empty b h)
falls_before (c ∷ before) after a falls some b h =
    let later_some : (d : Sum) → Contains (before ++ a ∷ after) d → 1 ≤ d.size = λ d there. some d (Contains-later c d (before ++ a ∷ after) there) in
    elim (Contains-cases c b before h) [
      | inl same ↦ subst (λ z. AtMost a z) same
          (falls_after c (before ++ a ∷ after) falls later_some a (Contains-append_right before (a ∷ after) a (Contains-head a after)))
      | inr there ↦ falls_before before after a (falls-tail c (before ++ a ∷ after) falls) later_some b there
    ]

pub falls_behind : (before after : List Sum) (a : Sum) → Falls (before ++ a ∷ after)
    → ((b : Sum) → Contains (before ++ a ∷ after) b → 1 ≤ b.size) → (b : Sum) → Contains after b → AtMost b a
falls_behind [] after a falls some b h = falls_after a after falls (λ d there. some d (Contains-later a d after there)) b h
falls_behind (c ∷ before) after a falls some b h =
    falls_behind before after a (falls-tail c (before ++ a ∷ after) falls) (λ d there. some d (Contains-later c d (before ++ a ∷ after) there)) b h

-- ---- sums over parts
abbrev pub joined : List (List ℕ) → List ℕ
joined parts = flat_map (λ part. part) parts

pub sizes-filter : (rate : ℕ → Sum) (m : ℕ → Bool) (ids : List ℕ)
    → (sums rate ids).size ≡ (sums rate (filter m ids)).size + (sums rate (filter (λ id. not (m id)) ids)).size
sizes-filter rate m ids = sym (sum_by-filter_both m (λ id. not (m id)) (λ id. refl) (λ id. (rate id).size) ids)

pub fees-filter : (rate : ℕ → Sum) (m : ℕ → Bool) (ids : List ℕ)
    → (sums rate ids).fee ≡ (sums rate (filter m ids)).fee +ℤ (sums rate (filter (λ id. not (m id)) ids)).fee
fees-filter rate m ids = total-filter (λ id. (rate id).fee) m ids

pub fees-append : (rate : ℕ → Sum) (xs ys : List ℕ) → (sums rate (xs ++ ys)).fee ≡ (sums rate xs).fee +ℤ (sums rate ys).fee
fees-append rate xs ys = total-append (λ id. (rate id).fee) xs ys

pub sizes-append : (rate : ℕ → Sum) (xs ys : List ℕ) → (sums rate (xs ++ ys)).size ≡ (sums rate xs).size + (sums rate ys).size
sizes-append rate xs ys = sum_by-append (λ id. (rate id).size) xs ys

-- a set's share of each part has at most the part's rate
abbrev pub AreFlatIn : (ℕ → Sum) → (ℕ → Bool) → List (List ℕ) → Type 0
AreFlatIn rate m parts = (part : List ℕ) → Contains parts part → AtMost (sums rate (filter m part)) (sums rate part)

abbrev AreSome : (ℕ → Sum) → List (List ℕ) → Type 0
AreSome rate parts = (part : List ℕ) → Contains parts part → 1 ≤ (sums rate part).size

-- where parts have at most a slope, so has the set's share of them all
pub share_at_most : (rate : ℕ → Sum) (m : ℕ → Bool) (slope : Sum) (parts : List (List ℕ)) → AreFlatIn rate m parts → AreSome rate parts
    → ((part : List ℕ) → Contains parts part → AtMost (sums rate part) slope) → AtMost (sums rate (filter m (joined parts))) slope
share_at_most rate m slope [] flat some low = record { crossed = omega (arith, ints) }
share_at_most rate m slope (part ∷ parts) flat some low =
    let here = at_most_chains (sums rate (filter m part)) (sums rate part) slope (some part (Contains-head part parts))
    (flat part (Contains-head part parts)) (low part (Contains-head part parts)) in
    let rest = share_at_most rate m slope parts (λ p h. flat p (Contains-later part p parts h))
    (λ p h. some p (Contains-later part p parts h)) (λ p h. low p (Contains-later part p parts h)) in
    subst (λ ids. AtMost (sums rate ids) slope) (sym (filter-append m part (joined parts)))
    (let a = filter m part in
    let b = filter m (joined parts) in
    record {
      crossed = subst (λ (n : ℕ). ((sums rate (a ++ b)).fee *ℤ pos slope.size) ≤ℤ (slope.fee *ℤ pos n)) (sym (sizes-append rate a b))
          (subst (λ (z : ℤ). (z *ℤ pos slope.size) ≤ℤ (slope.fee *ℤ pos ((sums rate a).size + (sums rate b).size))) (sym (fees-append rate a b))
          (sum_at_most (sums rate a).fee (sums rate b).fee slope.fee (sums rate a).size (sums rate b).size slope.size here.crossed rest.crossed));
    })

-- what a set leaves of a part has at least the part's rate
left_at_least : (rate : ℕ → Sum) (m : ℕ → Bool) (part : List ℕ) → AtMost (sums rate (filter m part)) (sums rate part)
    → AtMost (sums rate part) (sums rate (filter (λ id. not (m id)) part))
left_at_least rate m part flat =
    let z = sums rate (filter m part) in
    let y = sums rate (filter (λ id. not (m id)) part) in
    let fees : (sums rate part).fee ≡ z.fee +ℤ y.fee = fees-filter rate m part in
    let sizes : (sums rate part).size ≡ z.size + y.size = sizes-filter rate m part in
    let low : (z.fee *ℤ pos (z.size + y.size)) ≤ℤ ((z.fee +ℤ y.fee) *ℤ pos z.size) =
    subst (λ (n : ℕ). (z.fee *ℤ pos n) ≤ℤ ((z.fee +ℤ y.fee) *ℤ pos z.size)) sizes
    (subst (λ (f : ℤ). (z.fee *ℤ pos (sums rate part).size) ≤ℤ (f *ℤ pos z.size)) fees flat.crossed) in
    let high : ((z.fee +ℤ y.fee) *ℤ pos y.size) ≤ℤ (y.fee *ℤ pos (z.size + y.size)) =
    sum_below z.fee y.fee z.size y.size (sum_above_back z.fee y.fee z.size y.size low) in
    record {
      crossed = subst (λ (n : ℕ). ((sums rate part).fee *ℤ pos y.size) ≤ℤ (y.fee *ℤ pos n)) (sym sizes)
          (subst (λ (f : ℤ). (f *ℤ pos y.size) ≤ℤ (y.fee *ℤ pos (z.size + y.size))) (sym fees) high);
    }

-- where parts have at least a slope, so has what the set leaves of them all
pub left_above : (rate : ℕ → Sum) (m : ℕ → Bool) (slope : Sum) (parts : List (List ℕ)) → AreFlatIn rate m parts → AreSome rate parts
    → ((part : List ℕ) → Contains parts part → AtMost slope (sums rate part)) → AtMost slope (sums rate (filter (λ id. not (m id)) (joined parts)))
left_above rate m slope [] flat some high = record { crossed = omega (arith, ints) }
left_above rate m slope (part ∷ parts) flat some high =
    let here = at_most_chains slope (sums rate part) (sums rate (filter (λ id. not (m id)) part)) (some part (Contains-head part parts))
    (high part (Contains-head part parts)) (left_at_least rate m part (flat part (Contains-head part parts))) in
    let rest = left_above rate m slope parts (λ p h. flat p (Contains-later part p parts h))
    (λ p h. some p (Contains-later part p parts h)) (λ p h. high p (Contains-later part p parts h)) in
    subst (λ ids. AtMost slope (sums rate ids)) (sym (filter-append (λ id. not (m id)) part (joined parts)))
    (let a = filter (λ id. not (m id)) part in
    let b = filter (λ id. not (m id)) (joined parts) in
    record {
      crossed = subst (λ (n : ℕ). (slope.fee *ℤ pos n) ≤ℤ ((sums rate (a ++ b)).fee *ℤ pos slope.size)) (sym (sizes-append rate a b))
          (subst (λ (z : ℤ). (slope.fee *ℤ pos ((sums rate a).size + (sums rate b).size)) ≤ℤ (z *ℤ pos slope.size)) (sym (fees-append rate a b))
          (sum_at_least (sums rate a).fee (sums rate b).fee slope.fee (sums rate a).size (sums rate b).size slope.size here.crossed rest.crossed));
    })

-- the numbers: a share of what is from here on, less what is left of what was before
on_line : (f cf F xa xl : ℤ) (s cs S ya yl : ℕ) → (xa *ℤ pos s) ≤ℤ (f *ℤ pos ya) → (f *ℤ pos yl) ≤ℤ (xl *ℤ pos s)
    → cf +ℤ xl ≡ F +ℤ xa → cs + yl ≡ S + ya → ((cf -ℤ F) *ℤ pos s) ≤ℤ (f *ℤ (pos cs -ℤ pos S))
on_line f cf F xa xl s cs S ya yl low high fees sizes =
    let x : cf -ℤ F ≡ xa -ℤ xl = omega (arith, ints, fees) in
    let y : pos cs -ℤ pos S ≡ pos ya -ℤ pos yl = omega (arith, ints, sizes) in
    let left : (cf -ℤ F) *ℤ pos s ≡ (xa *ℤ pos s) -ℤ (xl *ℤ pos s) = ap (λ (z : ℤ). z *ℤ pos s) x ∙ mul-sub_left xa xl (pos s) in
    let right : f *ℤ (pos cs -ℤ pos S) ≡ (f *ℤ pos ya) -ℤ (f *ℤ pos yl) = ap (λ (z : ℤ). f *ℤ z) y ∙ mul-sub_right f (pos ya) (pos yl) in
    omega (arith, ints, left, right, low, high)

-- the set's share of all parts is on or below the line of each
pub tangent : (rate : ℕ → Sum) (m : ℕ → Bool) (before after : List (List ℕ)) (part : List ℕ)
    → Falls (map (sums rate) (before ++ part ∷ after)) → AreSome rate (before ++ part ∷ after) → AreFlatIn rate m (before ++ part ∷ after)
    → IsUnderLine (sums rate (joined before)) (sums rate part) (sums rate (filter m (joined (before ++ part ∷ after))))
tangent rate m before after part falls some flat =
    let list : map (sums rate) (before ++ part ∷ after) ≡ map (sums rate) before ++ sums rate part ∷ map (sums rate) after = map-append before (part ∷ after) in
    let falls' = subst Falls list falls in
    let some' : (b : Sum) → Contains (map (sums rate) before ++ sums rate part ∷ map (sums rate) after) b → 1 ≤ b.size =
    subst (λ zs. (b : Sum) → Contains zs b → 1 ≤ b.size) list
    (λ b h. let found = from_map (before ++ part ∷ after) b h in subst (λ (z : Sum). 1 ≤ z.size) found.2 (some found.0 found.1)) in
    let here : (p : List ℕ) → Contains before p → Contains (before ++ part ∷ after) p = λ p h. Contains-append_left before (part ∷ after) p h in
    let there : (p : List ℕ) → Contains (part ∷ after) p → Contains (before ++ part ∷ after) p = λ p h. Contains-append_right before (part ∷ after) p h in
    let left = left_above rate m (sums rate part) before (λ p h. flat p (here p h)) (λ p h. some p (here p h))
    (λ p h. falls_before (map (sums rate) before) (map (sums rate) after) (sums rate part) falls' some' (sums rate p) (into_map before p h)) in
    let share = share_at_most rate m (sums rate part) (part ∷ after) (λ p h. flat p (there p h)) (λ p h. some p (there p h))
    (λ p h. elim (Contains-cases part p after h) [
      | inl same ↦ subst (λ (z : List ℕ). AtMost (sums rate z) (sums rate part)) same (record { crossed = omega (arith, ints) })
      | inr later ↦ falls_behind (map (sums rate) before) (map (sums rate) after) (sums rate part) falls' some' (sums rate p) (into_map after p later)
    ]) in
    let whole : filter m (joined (before ++ part ∷ after)) ≡ filter m (joined before) ++ filter m (joined (part ∷ after)) =
    ap (filter m) (flat_map-append (λ p. p) before (part ∷ after)) ∙ filter-append m (joined before) (joined (part ∷ after)) in
    subst (λ ids. IsUnderLine (sums rate (joined before)) (sums rate part) (sums rate ids)) (sym whole)
    (let a = filter m (joined before) in
    let b = filter m (joined (part ∷ after)) in
    let l = sums rate (filter (λ id. not (m id)) (joined before)) in
    on_line (sums rate part).fee (sums rate (a ++ b)).fee (sums rate (joined before)).fee (sums rate b).fee l.fee
    (sums rate part).size (sums rate (a ++ b)).size (sums rate (joined before)).size (sums rate b).size l.size
    share.crossed left.crossed
    (omega (arith, ints, fees-append rate a b, fees-filter rate m (joined before)))
    (omega (arith, sizes-append rate a b, sizes-filter rate m (joined before))))
  where
    map-append : (xs ys : List (List ℕ)) → map (sums rate) (xs ++ ys) ≡ map (sums rate) xs ++ map (sums rate) ys
    map-append [] ys = refl
    map-append (x ∷ xs) ys = ap (λ zs. sums rate x ∷ zs) (map-append xs ys)

    from_map : (xs : List (List ℕ)) (b : Sum) → Contains (map (sums rate) xs) b → (p : List ℕ) × Contains xs p × (sums rate p ≡ b)
    from_map [] b h = absurd (none_in_empty b h)
    from_map (x ∷ xs) b h = elim (Contains-cases (sums rate x) b (map (sums rate) xs) h) [
      | inl same ↦ (x, Contains-head x xs, same)
      | inr later ↦ let found = from_map xs b later in (found.0, Contains-later x found.0 xs found.1, found.2)
    ]

    into_map : (xs : List (List ℕ)) (p : List ℕ) → Contains xs p → Contains (map (sums rate) xs) (sums rate p)
    into_map [] p h = absurd (none_in_empty p h)
    into_map (x ∷ xs) p h = elim (Contains-cases x p xs h) [
      | inl same ↦ subst (λ (z : List ℕ). Contains (sums rate x ∷ map (sums rate) xs) (sums rate z)) same (Contains-head (sums rate x) (map (sums rate) xs))
      | inr later ↦ Contains-later (sums rate x) (sums rate p) (map (sums rate) xs) (into_map xs p later)
    ]
