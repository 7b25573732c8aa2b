-- Which keys are fresh, position by position.
use Rattle.std.proofs.Common.{◌≡◌, ℕ, ℤ, zero, suc, ◌+◌, ◌<◌, ◌≤◌, Bool, true, false, not, ◌&&◌, ◌||◌, List, [], ◌∷◌, take, nat_eq, Some, None, inl, inr, refl, sym, ap, ◌∙◌, arith}
use Rattle.std.proofs.lemmas.Bool.{cases_eq, cases_lt, false_from_ne_true, and_parts}
use Rattle.std.specs.List.{slice_get}
use Rattle.std.specs.Ordering.{int_eq}
use Rattle.std.specs.Cmp.{signed_Decides, unsigned_Decides}
use Rattle.lists.proofs.Cases.{or_false}
use Rattle.graphs.specs.Certificates.{Part}
use Rattle.chunk_index.specs.declared.key.Key.{Key}
use Rattle.cluster_store.specs.Keys.{key_part}
use Rattle.cluster_store.specs.Kept.{same_key, is_rate, has_rate, fresh}
use Rattle.cluster_store.proofs.Founds.{same_is, same_self}

pub take_below : (ps : List Part) (j p : ℕ) → p < j → slice_get (take j ps) p ≡ slice_get ps p
take_below [] zero p below = refl
take_below [] (suc j) p below = refl
take_below (x ∷ ps) zero p below = absurd (omega arith)
take_below (x ∷ ps) (suc j) zero below = refl
take_below (x ∷ ps) (suc j) (suc p) below = take_below ps j p (omega arith)

pub take_past : (ps : List Part) (j p : ℕ) → j ≤ p → slice_get (take j ps) p ≡ None
take_past [] zero p past = refl
take_past [] (suc j) p past = refl
take_past (x ∷ ps) zero p past = refl
take_past (x ∷ ps) (suc j) zero past = absurd (omega arith)
take_past (x ∷ ps) (suc j) (suc p) past = take_past ps j p (omega arith)

-- the key of a part has its rate, and no other key under its number and position does
pub rate_here : (part : Part) → is_rate (record { fee = part.rate.fee; size = part.rate.size }) (Some part) ≡ true
rate_here part =
    ap (λ b. b && nat_eq part.rate.size part.rate.size) ((signed_Decides part.rate.fee part.rate.fee).1 refl)
    ∙ (unsigned_Decides part.rate.size part.rate.size).1 refl

of_fields : ℤ → ℕ → ℕ → ℕ → Key
of_fields fee size serial position = record { rate = record { fee = fee; size = size }; serial = serial; position = position }

pub key_here : (number position : ℕ) (part : Part) (k : Key) → k.serial ≡ number
    → k.position ≡ position → is_rate k.rate (Some part) ≡ true → key_part number position part ≡ k
unfolding of_fields
key_here number position part k serial at is =
    let both = and_parts (int_eq part.rate.fee k.rate.fee) (nat_eq part.rate.size k.rate.size) is in
    let fee : part.rate.fee ≡ k.rate.fee = (signed_Decides part.rate.fee k.rate.fee).0 both.0 in
    let size : part.rate.size ≡ k.rate.size = (unsigned_Decides part.rate.size k.rate.size).0 both.1 in
    let same : of_fields part.rate.fee part.rate.size number position ≡ of_fields k.rate.fee k.rate.size k.serial k.position =
    ap (λ (f : ℤ). of_fields f part.rate.size number position) fee
    ∙ ap (λ (s : ℕ). of_fields k.rate.fee s number position) size
    ∙ ap (λ (s : ℕ). of_fields k.rate.fee k.rate.size s position) (sym serial)
    ∙ ap (λ (s : ℕ). of_fields k.rate.fee k.rate.size k.serial s) (sym at) in
    same

-- one part more
pub has_rate-more : (n i : ℕ) (ps : List Part) (part : Part) (k : Key) → slice_get ps i ≡ Some part → k.serial ≡ n
    → has_rate (take (i + 1) ps) k ≡ (has_rate (take i ps) k || same_key (key_part n i part) k)
unfolding has_rate
has_rate-more n i ps part k here serial = elim (cases_eq k.position i) [
  | inl at ↦ by (same_key (key_part n i part) k) refl at
  | inr other ↦
      let more : slice_get (take (i + 1) ps) k.position ≡ slice_get (take i ps) k.position = around k.position other in
      let apart : same_key (key_part n i part) k ≡ false =
      false_from_ne_true (same_key (key_part n i part) k) (λ s. other (sym (ap (λ (l : Key). l.position) (same_is (key_part n i part) k s)))) in
      ap (is_rate k.rate) more ∙ rw apart (sym (or_false (is_rate k.rate (slice_get (take i ps) k.position))))
]
  where
    around : (p : ℕ) → (p ≡ i → ⊥) → slice_get (take (i + 1) ps) p ≡ slice_get (take i ps) p
    around p other = elim (cases_lt p i) [
      | inl low ↦ take_below ps (i + 1) p (omega arith) ∙ sym (take_below ps i p low)
      | inr high ↦ take_past ps (i + 1) p (next p other high) ∙ sym (take_past ps i p high)
    ]
      where
        next : (p : ℕ) → (p ≡ i → ⊥) → i ≤ p → i + 1 ≤ p
        next p other high = elim (cases_eq p i) [ inl same ↦ absurd (other same) | inr apart ↦ omega (arith, apart) ]

    now : k.position ≡ i → slice_get (take (i + 1) ps) k.position ≡ Some part
    now at = ap (slice_get (take (i + 1) ps)) at ∙ take_below ps (i + 1) i (omega arith) ∙ here

    past : k.position ≡ i → slice_get (take i ps) k.position ≡ None
    past at = ap (slice_get (take i ps)) at ∙ take_past ps i i (omega arith)

    same_rate : same_key (key_part n i part) k ≡ true → is_rate k.rate (Some part) ≡ true
    same_rate s = ap (λ (l : Key). is_rate l.rate (Some part)) (sym (same_is (key_part n i part) k s)) ∙ rate_here part

    other_rate : k.position ≡ i → same_key (key_part n i part) k ≡ false → is_rate k.rate (Some part) ≡ false
    other_rate at s = false_from_ne_true (is_rate k.rate (Some part))
        (λ r. clash (sym (ap (same_key (key_part n i part)) (key_here n i part k serial at r)) ∙ same_self (key_part n i part)) s)
      where
        clash : same_key (key_part n i part) k ≡ true → same_key (key_part n i part) k ≡ false → ⊥
        clash a b = cc

    by : (b : Bool) → same_key (key_part n i part) k ≡ b → k.position ≡ i
        → is_rate k.rate (slice_get (take (i + 1) ps) k.position) ≡ (is_rate k.rate (slice_get (take i ps) k.position) || same_key (key_part n i part) k)
    by true s at = ap (is_rate k.rate) (now at) ∙ same_rate s ∙ sym (ap (λ o. is_rate k.rate o || same_key (key_part n i part) k) (past at) ∙ s)
    by false s at = ap (is_rate k.rate) (now at) ∙ other_rate at s ∙ sym (ap (λ o. is_rate k.rate o || same_key (key_part n i part) k) (past at) ∙ s)

-- ---- fresh keys

pub fresh-more : (n i : ℕ) (ps qs : List Part) (part : Part) (k : Key) → slice_get ps i ≡ Some part
    → fresh n (take (i + 1) ps) qs k ≡ (fresh n (take i ps) qs k || (same_key (key_part n i part) k && not (has_rate qs (key_part n i part))))
unfolding fresh
fresh-more n i ps qs part k here = by (nat_eq k.serial n) refl (same_key (key_part n i part) k) refl
  where
    all : (b : Bool) → nat_eq k.serial n ≡ true → has_rate (take (i + 1) ps) k ≡ (has_rate (take i ps) k || same_key (key_part n i part) k)
    all b s = has_rate-more n i ps part k here ((unsigned_Decides k.serial n).0 s)

    spread : (a q : Bool) → ((a || true) && not q) ≡ ((a && not q) || (true && not q))
    spread true true = refl
    spread true false = refl
    spread false true = refl
    spread false false = refl

    alone : (a q : Bool) → ((a || false) && not q) ≡ ((a && not q) || false)
    alone true true = refl
    alone true false = refl
    alone false true = refl
    alone false false = refl

    clash : false ≡ true → ⊥
    clash e = cc

    by : (serial : Bool) → nat_eq k.serial n ≡ serial → (same : Bool) → same_key (key_part n i part) k ≡ same
        → (nat_eq k.serial n && (has_rate (take (i + 1) ps) k && not (has_rate qs k)))
        ≡ ((nat_eq k.serial n && (has_rate (take i ps) k && not (has_rate qs k))) || (same_key (key_part n i part) k && not (has_rate qs (key_part n i part))))
    by true e true s =
        let whole : has_rate (take (i + 1) ps) k ≡ (has_rate (take i ps) k || true) = all true e ∙ ap (λ b. has_rate (take i ps) k || b) s in
        let others : has_rate qs (key_part n i part) ≡ has_rate qs k = ap (has_rate qs) (same_is (key_part n i part) k s) in
        rw (e, s, whole, others) (spread (has_rate (take i ps) k) (has_rate qs k))
    by true e false s =
        let whole : has_rate (take (i + 1) ps) k ≡ (has_rate (take i ps) k || false) = all true e ∙ ap (λ b. has_rate (take i ps) k || b) s in
        rw (e, s, whole) (alone (has_rate (take i ps) k) (has_rate qs k))
    by false e true s = absurd (clash (sym e ∙ ap (λ (l : Key). nat_eq l.serial n) (sym (same_is (key_part n i part) k s)) ∙ (unsigned_Decides n n).1 refl))
    by false e false s = rw (e, s) refl
