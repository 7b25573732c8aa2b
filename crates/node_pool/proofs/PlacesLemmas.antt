-- Where the blocks of a row have the item of a slot, and room for one more.
use Rattle.std.proofs.Common.{◌≡◌, ℕ, ◌+◌, ◌*◌, ◌^◌, ◌<◌, ◌≤◌, List, [], ◌∷◌, ◌++◌, length, set, slice_get, Option, Some, zero, suc, cond, refl, sym, ap, ◌∙◌, subst, inl, inr, arith}
use Rattle.std.proofs.lemmas.Nat.{mul-add-lt}
use Rattle.std.proofs.lemmas.List.{length_push}
use Rattle.std.proofs.Math.Nat.{mul-le-mul_right, add-mul, mul_comm, pow-suc, mul-lt-mul_of_pos_right}
use Rattle.std.proofs.Math.Pow.{pow_mono, pow_pos}
use Rattle.std.proofs.lemmas.Bool.Decides.{leb_tells, eqb_tells}
use Rattle.node_pool.specs.Chunk.{Chunk, chunk}
use Rattle.node_pool.specs.Laid.{flat, AreLaid, is_full_block, next_open}
use Rattle.node_pool.specs.Places.{ArePlaces}
use Rattle.node_pool.specs.declared.places.Places.TheInside.{Inside}
use Rattle.node_pool.proofs.LaidLemmas.{Found, find, flat-bounded, Rewritten, rewrite, Open, open_block, advance, more-laid}

module _ {S : Type 0} (p : Inside S) (are : ArePlaces p) where
  abbrev bs : List (Chunk S)
  bs = p.blocks.items

  abbrev w : ℕ
  w = p.width

  -- there are no more items than there is room for
  pub bounded : length (flat bs) ≤ p.room * w
  bounded =
      let most = flat-bounded 0 w p.full bs are.laid in
      let e : 0 + length bs ≡ length bs = omega arith in
      let same : 2 ^ (0 + length bs) * w ≡ 2 ^ length bs * w = ap (λ n. 2 ^ n * w) e in
      let room : 2 ^ length bs * w ≡ p.room * w + w = ap (λ n. n * w) (sym are.room.0) ∙ add-mul p.room 1 w ∙ (omega arith) in
      omega arith

  pub slot-room : (slot column : ℕ) → column < w → slot * w + column < length (flat bs) → slot < p.room
  slot-room slot column in_row within =
      elim (leb_tells p.room slot) [
        | inl past ↦ let rows = mul-le-mul_right w past.1 in absurd (omega (arith, bounded))
        | inr below ↦ below.1
      ]

  pub found : (slot column j o : ℕ) → column < w → slot * w + column < length (flat bs)
      → slot + 1 ≡ 2 ^ j + o → o < 2 ^ j → Found bs j (o * w + column) (slot * w + column)
  found slot column j o in_row within place small =
      let zero_plus : 0 + j ≡ j = omega arith in
      let same : 2 ^ (0 + j) * w ≡ 2 ^ j * w = ap (λ n. 2 ^ n * w) zero_plus in
      let rows : slot * w + w ≡ 2 ^ j * w + o * w = sym (add-mul slot 1 w ∙ (omega arith)) ∙ ap (λ n. n * w) place ∙ add-mul (2 ^ j) o w in
      let inside : o * w + column < 2 ^ j * w = subst (λ n. o * w + column < n) (mul_comm w (2 ^ j)) (mul-add-lt o w column (2 ^ j) small in_row) in
      find 0 w p.full bs are.laid j (o * w + column) (slot * w + column) (omega arith) (omega arith) within

  pub slot-room_one : w ≡ 1 → (slot : ℕ) → slot < length (flat bs) → slot < p.room
  slot-room_one one slot within =
      let at : slot * w + 0 ≡ slot = ap (λ n. slot * n + 0) one ∙ (omega arith) in slot-room slot 0 (omega arith) (omega arith)

  pub found_one : w ≡ 1 → (slot j o : ℕ) → slot < length (flat bs) → slot + 1 ≡ 2 ^ j + o → o < 2 ^ j → Found bs j o slot
  found_one one slot j o within place small =
      let at : slot * w + 0 ≡ slot = ap (λ n. slot * n + 0) one ∙ (omega arith) in
      let cell : o * w + 0 ≡ o = ap (λ n. o * n + 0) one ∙ (omega arith) in
      subst (λ (c : ℕ × ℕ). Found bs j c.0 c.1) (λ i. (cell i, at i)) (found slot 0 j o (omega arith) (omega arith) place small)

  -- a block written in place keeps the row
  pub ArePlaces-write : (j x i : ℕ) → i + w ≡ 2 ^ j * w + x → (b : Chunk S) → slice_get bs j ≡ Some b
      → x < length b.items → (y : S) → Rewritten 0 w p.full bs (set bs j (chunk (set b.items x y) b.capacity)) i y
  ArePlaces-write j x i place b at inside y =
      let zero_plus : 0 + j ≡ j = omega arith in
      let same : 2 ^ (0 + j) * w ≡ 2 ^ j * w = ap (λ n. 2 ^ n * w) zero_plus in
      rewrite 0 w p.full bs are.laid j x i (omega arith) b at inside y

  -- in a row of `width` items a slot, the index of an item from the place of its slot
  pub index-of : (slot column j o : ℕ) → slot + 1 ≡ 2 ^ j + o → slot * w + column + w ≡ 2 ^ j * w + (o * w + column)
  index-of slot column j o place =
      let rows : slot * w + w ≡ 2 ^ j * w + o * w = sym (add-mul slot 1 w ∙ (omega arith)) ∙ ap (λ n. n * w) place ∙ add-mul (2 ^ j) o w in
      omega arith

  -- the block that takes the next item has room for it
  pub record TakesNext (full : ℕ) : Type 0 where
    pub laid : AreLaid 0 w full bs
    pub block : Chunk S
    pub at : slice_get bs full ≡ Some block
    pub room : length block.items < block.capacity

  total : length (flat bs) < p.room * w → length (flat bs) + 2 ^ 0 * w < 2 ^ (0 + length bs) * w
  total room =
      let e : 0 + length bs ≡ length bs = omega arith in
      let same : 2 ^ (0 + length bs) * w ≡ 2 ^ length bs * w = ap (λ n. 2 ^ n * w) e in
      let rows : 2 ^ length bs * w ≡ p.room * w + w = ap (λ n. n * w) (sym are.room.0) ∙ add-mul p.room 1 w ∙ (omega arith) in
      omega arith

  pub first-open : length (flat bs) < p.room * w → Open p.full bs
  first-open room = open_block 0 w p.full bs are.laid (total room)

  pub next_takes : length (flat bs) < p.room * w → TakesNext (next_open bs p.full)
  next_takes room =
      let here = first-open room in
      subst (λ (o : Option (Chunk S)). TakesNext (cond (is_full_block o) (p.full + 1) p.full))
      (sym here.at) (elim (eqb_tells (length here.block.items) here.block.capacity) [
        | inl whole ↦
            let later = advance 0 w p.full bs are.laid (total room) here.block here.at whole.1 in
            let next : suc p.full ≡ p.full + 1 = omega arith in
            let wide : 0 < w = positive room in
            let cells = mul-lt-mul_of_pos_right (pow_pos (0 + suc p.full)) wide in
            let none = ap length later.empty in
            subst (λ b. TakesNext (cond b (p.full + 1) p.full)) (sym whole.0)
            (subst TakesNext next (record { laid = later.laid; block = later.block; at = later.at; room = omega (arith, later.capacity, cells) }))
        | inr spare ↦
            let differs = spare.1 in let most = here.bounded in
            subst (λ b. TakesNext (cond b (p.full + 1) p.full)) (sym spare.0) (record { laid = are.laid; block = here.block; at = here.at; room = omega arith })
      ])
    where
      positive : length (flat bs) < p.room * w → 0 < w
      positive room = by_width w refl
        where
          by_width : (n : ℕ) → w ≡ n → 0 < w
          by_width zero none = let nothing : p.room * w ≡ 0 = ap (λ n. p.room * n) none ∙ (omega arith) in absurd (omega arith)
          by_width (suc n) some = omega arith

  -- one block more
  pub record Grown (new : List (Chunk S)) : Type 0 where
    pub laid : AreLaid 0 w p.full new
    pub room : (p.room + (p.room + 1) + 1 ≡ 2 ^ length new) × (length new ≤ 32)

  pub grow_one : (e : Chunk S) → e.items ≡ [] → e.capacity ≡ (p.room + 1) * w → e.capacity < 2 ^ 63 → p.room + 1 < 2 ^ 32 → Grown (bs ++ e ∷ [])
  grow_one e none capacity small room =
      let zero_plus : 0 + length bs ≡ length bs = omega arith in
      let sized : e.capacity ≡ 2 ^ (0 + length bs) * w = capacity ∙ ap (λ n. n * w) are.room.0 ∙ ap (λ n. 2 ^ n * w) (sym zero_plus) in
      let longer = length_push bs e in
      let more : length bs + 1 ≡ suc (length bs) = omega arith in
      let twice : 2 ^ length (bs ++ e ∷ []) ≡ 2 ^ length bs * 2 = ap (λ n. 2 ^ n) (longer ∙ more) ∙ pow-suc 2 (length bs) in
      record {
        laid = more-laid 0 w p.full bs are.laid e (sized, small) none;
        room = (
          omega (arith, are.room.0),
          elim (leb_tells 32 (length bs)) [
            | inl many ↦ let big = pow_mono many.1 in absurd (omega (arith, are.room.0))
            | inr few ↦ let f = few.1 in omega arith
          ],
        );
      }
