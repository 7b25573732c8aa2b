-- A walk along a ring gives each of its keys once.
use Rattle.std.proofs.Common.{◌≡◌, ◌≢◌, ℕ, zero, suc, ◌+◌, ◌-◌, ◌^◌, ◌<◌, ◌≤◌, List, [], ◌∷◌, length, get_or, slice_get, Option, Some, None, IsSome, refl, sym, ap, subst, ◌∙◌, inl, inr, arith, cond, true≢false}
use Rattle.std.proofs.lemmas.Bool.{cases_eq}
use Rattle.std.proofs.lemmas.Bool.Decides.{eqb_tells, leb_tells}
use Rattle.std.proofs.lemmas.Option.{slice_get_within, get_or_from_slice_get}
use Rattle.node_pool.specs.Cycles.{walked, GoesAlong}
use Rattle.node_pool.proofs.Cycles.{walked-add, Reaches-sym}
use Rattle.node_pool.specs.declared.pool.Key.{Key}
use Rattle.node_pool.specs.declared.pool.Node.{Node}
use Rattle.node_pool.specs.Nodes.{Nodes, numbered, number_of, node_at, key_in, HasNode, IsLive, next_slot, next_key}
use Rattle.node_pool.specs.RingKeys.{keys_from, IsRing}
use Rattle.node_pool.proofs.RingLemmas.{numbered-some, numbered-same}

module _ {T : Type 0} (n : Nodes T) (r : ℕ) where
  abbrev f : ℕ → ℕ
  f = next_slot n r

  -- what a walk of keys gives: the keys where its steps lead, of which none but the first is at the slot `first`
  record Walks (first slot : ℕ) (keys : List Key) : Type 0 where
    reads : (i : ℕ) → i < length keys → slice_get keys i ≡ Some (key_in n (walked f i slot))
    before : (i : ℕ) → suc i < length keys → walked f (suc i) slot ≢ first

  Walks-keys : (first left slot : ℕ) → Walks first slot (keys_from n r first left slot)
  Walks-keys first zero slot = record { reads = λ i below. absurd (omega arith); before = λ i below. absurd (omega arith) }
  Walks-keys first (suc left) slot =
      elim (eqb_tells (f slot) first) [
        | inl back ↦ subst (λ b. Walks first slot (key_in n slot ∷ cond b [] (keys_from n r first left (f slot)))) (sym back.0) (one)
        | inr on ↦ subst (λ b. Walks first slot (key_in n slot ∷ cond b [] (keys_from n r first left (f slot))))
            (sym on.0) (more on.1 (Walks-keys first left (f slot)))
      ]
    where
      one : Walks first slot (key_in n slot ∷ [])
      one = record { reads = one_reads; before = λ i below. absurd (omega arith) }
        where
          one_reads : (i : ℕ) → i < 1 → slice_get (key_in n slot ∷ []) i ≡ Some (key_in n (walked f i slot))
          one_reads zero below = refl
          one_reads (suc i) below = absurd (omega arith)

      more : f slot ≢ first → Walks first (f slot) (keys_from n r first left (f slot)) → Walks first slot (key_in n slot ∷ keys_from n r first left (f slot))
      more on rest = record { reads = more_reads; before = more_before }
        where
          more_reads : (i : ℕ) → i < suc (length (keys_from n r first left (f slot)))
              → slice_get (key_in n slot ∷ keys_from n r first left (f slot)) i ≡ Some (key_in n (walked f i slot))
          more_reads zero below = refl
          more_reads (suc i) below = rest.reads i (omega arith)

          more_before : (i : ℕ) → suc i < suc (length (keys_from n r first left (f slot))) → walked f (suc i) slot ≢ first
          more_before zero below = on
          more_before (suc i) below = rest.before i (omega arith)

  -- a walk with steps enough to come back has as many keys as it has steps
  returns-keys : (first left k slot : ℕ) → k < left → walked f (suc k) slot ≡ first
      → (walked f (length (keys_from n r first left slot)) slot ≡ first) × (0 < length (keys_from n r first left slot))
  returns-keys first zero k slot below back = absurd (omega arith)
  returns-keys first (suc left) k slot below back =
      elim (eqb_tells (f slot) first) [
        | inl here ↦ subst (λ b. Back (key_in n slot ∷ cond b [] (keys_from n r first left (f slot)))) (sym here.0) (here.1, omega arith)
        | inr on ↦ subst (λ b. Back (key_in n slot ∷ cond b [] (keys_from n r first left (f slot)))) (sym on.0)
            (later on.1 k below back (λ j j_below j_back. returns-keys first left j (f slot) j_below j_back))
      ]
    where
      Back : List Key → Type 0
      Back keys = (walked f (length keys) slot ≡ first) × (0 < length keys)

      later : f slot ≢ first → (k : ℕ) → k < suc left → walked f (suc k) slot ≡ first
          → ((j : ℕ) → j < left → walked f (suc j) (f slot) ≡ first
          → (walked f (length (keys_from n r first left (f slot))) (f slot) ≡ first) × (0 < length (keys_from n r first left (f slot))))
          → Back (key_in n slot ∷ keys_from n r first left (f slot))
      later on zero k_below k_back rest = absurd (on k_back)
      later on (suc k) k_below k_back rest = let found = rest k (omega arith) k_back in (found.0, omega arith)

  -- no more keys than the steps that the walk may take
  length-keys_from : (first left slot : ℕ) → length (keys_from n r first left slot) ≤ left
  length-keys_from first zero slot = omega arith
  length-keys_from first (suc left) slot =
      elim (eqb_tells (f slot) first) [
        | inl here ↦ subst (λ b. suc (length (cond b [] (keys_from n r first left (f slot)))) ≤ suc left) (sym here.0) (omega arith)
        | inr on ↦ subst (λ b. suc (length (cond b [] (keys_from n r first left (f slot)))) ≤ suc left)
            (sym on.0) (omega (arith, length-keys_from first left (f slot)))
      ]

  -- a live key is the key of its slot
  pub key_in-live : (x : Key) → IsLive n x → key_in n x.slot ≡ x
  key_in-live x live =
      let here = numbered-some x.number (node_at n x.slot) live in
      λ j. record { slot = x.slot; number = (ap number_of here.1 ∙ here.2) j }

  live-key_in : (slot : ℕ) → HasNode n slot → IsLive n (key_in n slot)
  live-key_in slot held = by_cases (node_at n slot) held
    where
      by_cases : (o : Option (Node T)) → IsSome o → IsSome (numbered (number_of o) o)
      by_cases None held = absurd (true≢false (sym held))
      by_cases (Some node) held = subst IsSome (sym (numbered-same node.number node refl)) refl

  -- keys that stand where steps lead follow one another
  along-reads : (keys : List Key) (x : Key) → key_in n x.slot ≡ x → ((i : ℕ) → i < length keys → slice_get keys i ≡ Some (key_in n (walked f i x.slot)))
      → GoesAlong (next_key n r) x keys (key_in n (walked f (length keys) x.slot))
  along-reads [] x own reads = sym own
  along-reads (y ∷ keys) x own reads =
      let first : Some y ≡ Some (key_in n x.slot) = reads 0 (omega arith) in
      (sym own ∙ cc, along-reads keys (next_key n r x) refl (λ i below. reads (suc i) (omega arith)))

  module _ (a : Key) (live : IsLive n a) (left : ℕ) (back : (k : ℕ) × (k < left) × (walked f (suc k) a.slot ≡ a.slot))
      (one_to_one : (s t : ℕ) → f s ≡ f t → s ≡ t) (stays : (s : ℕ) → HasNode n s → HasNode n (f s)) where
    abbrev keys : List Key
    keys = keys_from n r a.slot left a.slot

    walked-one_to_one : (k s t : ℕ) → walked f k s ≡ walked f k t → s ≡ t
    walked-one_to_one zero s t same = same
    walked-one_to_one (suc k) s t same = one_to_one s t (walked-one_to_one k (f s) (f t) same)

    walked-held : (k s : ℕ) → HasNode n s → HasNode n (walked f k s)
    walked-held zero s held = held
    walked-held (suc k) s held = walked-held k (f s) (stays s held)

    a-held : HasNode n a.slot
    a-held = subst IsSome (sym (numbered-some a.number (node_at n a.slot) live).1) refl

    round : (walked f (length keys) a.slot ≡ a.slot) × (0 < length keys)
    round = returns-keys a.slot left back.0 a.slot back.1 back.2

    apart : (i j : ℕ) → i < j → j < length keys → walked f i a.slot ≡ walked f j a.slot → ⊥
    apart i j below within same =
        let m = j - i - 1 in
        let split : suc m + i ≡ j = omega arith in
        let early : walked f (suc m) a.slot ≡ a.slot =
        sym (walked-one_to_one i a.slot (walked f (suc m) a.slot) (same ∙ ap (λ k. walked f k a.slot) (sym split) ∙ walked-add f (suc m) i a.slot)) in
        (Walks-keys a.slot left a.slot).before m (omega arith) early

    abbrev slot_or : Option Key → ℕ
    slot_or None = 0
    slot_or (Some key) = key.slot

    slot-read : (i : ℕ) (x : Key) → slice_get keys i ≡ Some x → (i < length keys) × (walked f i a.slot ≡ x.slot)
    slot-read i x found =
        let within = slice_get_within keys i x found in
        (within, ap slot_or (sym ((Walks-keys a.slot left a.slot).reads i within) ∙ found))

    reduced : (fuel k : ℕ) → k ≤ fuel → (m : ℕ) × (m < length keys) × (walked f m a.slot ≡ walked f k a.slot)
    reduced zero zero small = (0, round.1, refl)
    reduced zero (suc k) small = absurd (omega arith)
    reduced (suc fuel) k small =
        elim (leb_tells (suc k) (length keys)) [
          | inl below ↦ (k, below.1, refl)
          | inr past ↦
              let rest = k - length keys in
              let split : length keys + rest ≡ k = let p = past.1 in omega arith in
              let less = reduced fuel rest (let p = past.1 in omega (arith, round.1)) in
              (less.0, less.1, less.2 ∙ sym (ap (λ m. walked f m a.slot) (sym split) ∙ walked-add f (length keys) rest a.slot ∙ ap (walked f rest) round.0))
        ]

    pub IsRing-of : left < 2 ^ 32 → IsRing n r a keys
    IsRing-of fits =
        record {
          first = (Walks-keys a.slot left a.slot).reads 0 round.1 ∙ ap Some (key_in-live a live);
          once = λ i j x at_i at_j.
              let first = slot-read i x at_i in
              let second = slot-read j x at_j in
              elim (cases_eq i j) [
                | inl same ↦ same
                | inr differs ↦ elim (leb_tells (suc i) j) [
                  | inl below ↦ absurd (apart i j below.1 second.0 (first.1 ∙ sym second.1))
                  | inr above ↦ absurd (apart j i (let p = above.1 in omega arith) first.0 (second.1 ∙ sym first.1))
                ]
              ];
          members = λ x. (
            λ listed.
                let k = listed.0 in
                let read : get_or keys k x ≡ key_in n (walked f k a.slot) =
                get_or_from_slice_get keys k _ x ((Walks-keys a.slot left a.slot).reads k listed.1) in
                let is : key_in n (walked f k a.slot) ≡ x = sym read ∙ listed.2 in
                record {
                  from = live;
                  to = subst (IsLive n) is (live-key_in (walked f k a.slot) (walked-held k a.slot a-held));
                  steps = (k, ap (λ (y : Key). y.slot) is);
                  back = Reaches-sym f a.slot x.slot (back.0, back.2) (k, ap (λ (y : Key). y.slot) is);
                },
            λ ring.
                let less = reduced ring.steps.0 ring.steps.0 (omega arith) in
                let read : get_or keys less.0 x ≡ key_in n (walked f less.0 a.slot) =
                get_or_from_slice_get keys less.0 _ x ((Walks-keys a.slot left a.slot).reads less.0 less.1) in
                (less.0, less.1, read ∙ ap (key_in n) (less.2 ∙ ring.steps.1) ∙ key_in-live x ring.to),
          );
          along = subst (GoesAlong (next_key n r) a keys) (ap (key_in n) round.0 ∙ key_in-live a live)
              (along-reads keys a (key_in-live a live) (Walks-keys a.slot left a.slot).reads);
          few = omega (arith, length-keys_from a.slot left a.slot);
        }
