-- For the callers of a pool: its rings are the parts of an equivalence, and a new key is apart from the others.
use Rattle.std.proofs.Common.{◌≡◌, ◌≢◌, ℕ, suc, List, [], ◌∷◌, Option, Some, None, IsSome, slice_get, refl, sym, ap, subst, ◌∙◌, arith, true≢false}
use Rattle.std.specs.Prelude.{Contains}
use Rattle.node_pool.specs.declared.pool.Key.{Key}
use Rattle.node_pool.specs.Nodes.{Nodes, value_at, IsLive, next_key, SameRing, Updates, PartsFrom}
use Rattle.node_pool.specs.Cycles.{GoesAlong}
use Rattle.node_pool.specs.RingKeys.{IsRing}

module _ {T : Type 0} where
  pub SameRing-refl : (n : Nodes T) (r : ℕ) (a : Key) → IsLive n a → SameRing n r a a
  SameRing-refl n r a live = record { from = live; to = live; steps = (0, refl); back = (0, refl) }

  pub SameRing-sym : (n : Nodes T) (r : ℕ) (a b : Key) → SameRing n r a b → SameRing n r b a
  SameRing-sym n r a b ring = record { from = ring.to; to = ring.from; steps = ring.back; back = ring.steps }

  -- a key that had no node is none that had one
  pub fresh-differs : (n : Nodes T) (old fresh : Key) → IsLive n old → value_at n fresh ≡ None → old ≢ fresh
  fresh-differs n old fresh live none same = true≢false (sym (subst IsSome (ap (value_at n) same ∙ none) live))

  -- the key of an update with a value is live, and so is each other key that was
  pub live-updated : (old new : Nodes T) (key : Key) (value : T) → Updates old new key (Some value) → IsLive new key
  live-updated old new key value updates = subst IsSome (sym updates.changed) refl

  pub live-other : (old new : Nodes T) (key other : Key) (value : Option T) → Updates old new key value → other ≢ key → IsLive old other → IsLive new other
  live-other old new key other value updates differs live = subst IsSome (sym (updates.others other differs)) live

  -- a key that is parted shares no ring with another
  pub apart-parted : (old new : Nodes T) (r : ℕ) (key other : Key) → PartsFrom old new r key → other ≢ key → SameRing new r other key → ⊥
  apart-parted old new r key other parts differs ring = differs (parts.alone other (SameRing-sym new r other key ring))

  -- a ring is of live keys, so the key after a live one is live
  pub ring-live : (n : Nodes T) (r : ℕ) (a : Key) (keys : List Key) → IsRing n r a keys → (x : Key) → Contains keys x → IsLive n x
  ring-live n r a keys ring x listed = ((ring.members x).0 listed).to

  pub next-live : (n : Nodes T) (r : ℕ) (a : Key) (keys : List Key) → IsRing n r a keys → IsLive n a → IsLive n (next_key n r a)
  next-live n r a keys ring live = from keys ring.first ring.along (ring-live n r a keys ring)
    where
      later : (ys : List Key) → GoesAlong (next_key n r) (next_key n r a) ys a → ((x : Key) → Contains ys x → IsLive n x) → IsLive n (next_key n r a)
      later [] goes all = subst (IsLive n) (sym goes) live
      later (y ∷ ys) goes all = subst (IsLive n) (sym goes.0) (all y (0, omega arith, refl))

      from : (xs : List Key) → slice_get xs 0 ≡ Some a → GoesAlong (next_key n r) a xs a → ((x : Key) → Contains xs x → IsLive n x) → IsLive n (next_key n r a)
      from [] first goes all = absurd (cc)
      from (x ∷ xs) first goes all = later xs goes.1 (λ y listed. all y (suc listed.0, omega arith, listed.2))
