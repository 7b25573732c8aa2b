-- What a read, a write, one more item and one more block do to the items of a row's blocks.
use Rattle.std.proofs.Common.{◌≡◌, ℕ, zero, suc, ◌+◌, ◌-◌, ◌*◌, ◌^◌, ◌<◌, ◌≤◌, List, [], ◌∷◌, ◌++◌, length, set, slice_get, Option, Some, None, refl, sym, ap, ◌∙◌, subst, arith, append_assoc, append-nil}
use Rattle.std.proofs.lemmas.List.{length-append, length_push}
use Rattle.std.proofs.Math.Nat.{mul-le-mul_right, add-mul, pow-suc}
use Rattle.std.proofs.Math.Pow.{pow_mono}
use Rattle.node_pool.specs.Chunk.{Chunk, chunk}
use Rattle.node_pool.specs.Laid.{flat, IsSized, AreEmpty, AreLaid}
use Rattle.node_pool.proofs.BlockLemmas.{length-set_same}

-- the next block has twice the room
pub doubled : (k w : ℕ) → 2 ^ (k + 1) * w ≡ 2 ^ k * w + 2 ^ k * w
doubled k w = let e : 2 ^ (k + 1) ≡ 2 ^ k + 2 ^ k = let more : k + 1 ≡ suc k = omega arith in
    ap (λ n. 2 ^ n) more ∙ pow-suc 2 k ∙ (omega arith) in ap (λ n. n * w) e ∙ add-mul (2 ^ k) (2 ^ k) w

module _ {X : Type 0} where
  slice_get-left : (xs ys : List X) (i : ℕ) → i < length xs → slice_get (xs ++ ys) i ≡ slice_get xs i
  slice_get-left [] ys i within = absurd (omega arith)
  slice_get-left (x ∷ xs) ys zero within = refl
  slice_get-left (x ∷ xs) ys (suc i) within = slice_get-left xs ys i (omega arith)

  slice_get-right : (xs ys : List X) (i k : ℕ) → i ≡ length xs + k → slice_get (xs ++ ys) i ≡ slice_get ys k
  slice_get-right [] ys i k e = let same : i ≡ k = omega arith in ap (slice_get ys) same
  slice_get-right (x ∷ xs) ys zero k e = absurd (omega arith)
  slice_get-right (x ∷ xs) ys (suc i) k e = slice_get-right xs ys i k (omega arith)

  set-left : (xs ys : List X) (i : ℕ) (x : X) → i < length xs → set (xs ++ ys) i x ≡ set xs i x ++ ys
  set-left [] ys i x within = absurd (omega arith)
  set-left (y ∷ xs) ys zero x within = refl
  set-left (y ∷ xs) ys (suc i) x within = ap (λ l. y ∷ l) (set-left xs ys i x (omega arith))

  set-right : (xs ys : List X) (i k : ℕ) (x : X) → i ≡ length xs + k → set (xs ++ ys) i x ≡ xs ++ set ys k x
  set-right [] ys i k x e = let same : i ≡ k = omega arith in ap (λ j. set ys j x) same
  set-right (y ∷ xs) ys zero k x e = absurd (omega arith)
  set-right (y ∷ xs) ys (suc i) k x e = ap (λ l. y ∷ l) (set-right xs ys i k x (omega arith))

module _ {S : Type 0} where
  flat-empty : (k w : ℕ) (bs : List (Chunk S)) → AreEmpty k w bs → flat bs ≡ []
  flat-empty k w [] empty = refl
  flat-empty k w (b ∷ bs) empty = ap (λ l. l ++ flat bs) empty.1 ∙ flat-empty (k + 1) w bs empty.2

  -- the blocks have no more items than they have room for
  pub flat-bounded : (k w full : ℕ) (bs : List (Chunk S)) → AreLaid k w full bs → length (flat bs) + 2 ^ k * w ≤ 2 ^ (k + length bs) * w
  flat-bounded k w zero [] laid = let e : k + 0 ≡ k = omega arith in let same : 2 ^ (k + 0) * w ≡ 2 ^ k * w = ap (λ j. 2 ^ j * w) e in omega arith
  flat-bounded k w (suc full) [] laid = absurd laid
  flat-bounded k w zero (b ∷ bs) laid =
      let none = ap length (flat-empty (k + 1) w bs laid.2) in
      let whole = length-append b.items (flat bs) in
      let further : k + 1 ≤ k + suc (length bs) = omega arith in
      let most = mul-le-mul_right w (pow_mono further) in
      omega (arith, doubled k w, laid.0.0, laid.1)
  flat-bounded k w (suc full) (b ∷ bs) laid =
      let rest = flat-bounded (k + 1) w full bs laid.2 in
      let whole = length-append b.items (flat bs) in
      let e : k + suc (length bs) ≡ k + 1 + length bs = omega arith in
      let same : 2 ^ (k + suc (length bs)) * w ≡ 2 ^ (k + 1 + length bs) * w = ap (λ j. 2 ^ j * w) e in
      omega (arith, doubled k w, laid.0.0, laid.1)

  -- where the item of an index lies: in this block at this place
  pub record Found (bs : List (Chunk S)) (j x i : ℕ) : Type 0 where
    pub block : Chunk S
    pub at : slice_get bs j ≡ Some block
    pub within : x < length block.items
    pub small : block.capacity < 2 ^ 63
    pub bounded : length block.items ≤ block.capacity
    pub read : slice_get (flat bs) i ≡ slice_get block.items x

  pub find : (k w full : ℕ) (bs : List (Chunk S)) → AreLaid k w full bs → (j x i : ℕ)
      → i + 2 ^ k * w ≡ 2 ^ (k + j) * w + x → x < 2 ^ (k + j) * w → i < length (flat bs) → Found bs j x i
  find k w full [] laid j x i place small within = absurd (omega arith)
  find k w zero (b ∷ bs) laid zero x i place small within =
      let e : k + 0 ≡ k = omega arith in
      let same : 2 ^ (k + 0) * w ≡ 2 ^ k * w = ap (λ n. 2 ^ n * w) e in
      let none = ap length (flat-empty (k + 1) w bs laid.2) in
      let whole = length-append b.items (flat bs) in
      let here : i ≡ x = omega arith in
      let inside : x < length b.items = omega arith in
      record {
        block = b;
        at = refl;
        within = inside;
        small = laid.0.1;
        bounded = laid.1;
        read = ap (slice_get (b.items ++ flat bs)) here ∙ slice_get-left b.items (flat bs) x inside;
      }
  find k w (suc full) (b ∷ bs) laid zero x i place small within =
      let e : k + 0 ≡ k = omega arith in
      let same : 2 ^ (k + 0) * w ≡ 2 ^ k * w = ap (λ n. 2 ^ n * w) e in
      let here : i ≡ x = omega arith in
      let inside : x < length b.items = omega (arith, laid.0.0, laid.1) in
      record {
        block = b;
        at = refl;
        within = inside;
        small = laid.0.1;
        bounded = omega (arith, laid.1);
        read = ap (slice_get (b.items ++ flat bs)) here ∙ slice_get-left b.items (flat bs) x inside;
      }
  find k w zero (b ∷ bs) laid (suc j) x i place small within =
      let none = ap length (flat-empty (k + 1) w bs laid.2) in
      let whole = length-append b.items (flat bs) in
      let further : k + 1 ≤ k + suc j = omega arith in
      let most = mul-le-mul_right w (pow_mono further) in
      absurd (omega (arith, doubled k w, laid.0.0, laid.1))
  find k w (suc full) (b ∷ bs) laid (suc j) x i place small within =
      let e : k + suc j ≡ k + 1 + j = omega arith in
      let same : 2 ^ (k + suc j) * w ≡ 2 ^ (k + 1 + j) * w = ap (λ n. 2 ^ n * w) e in
      let further : k + 1 ≤ k + 1 + j = omega arith in
      let most = mul-le-mul_right w (pow_mono further) in
      let whole = length-append b.items (flat bs) in
      let rest = i - 2 ^ k * w in
      let beyond : i ≡ length b.items + rest = omega (arith, doubled k w, laid.0.0, laid.1) in
      let found = find (k + 1) w full bs laid.2 j x rest (omega (arith, doubled k w)) (omega arith) (omega (arith, doubled k w)) in
      record {
        block = found.block;
        at = found.at;
        within = found.within;
        small = found.small;
        bounded = found.bounded;
        read = slice_get-right b.items (flat bs) i rest beyond ∙ found.read;
      }

  -- a block's item was written
  pub record Rewritten (k w full : ℕ) (bs new : List (Chunk S)) (i : ℕ) (y : S) : Type 0 where
    pub laid : AreLaid k w full new
    pub items : flat new ≡ set (flat bs) i y

  empty-rewritten : (k w : ℕ) (bs : List (Chunk S)) → AreEmpty k w bs → (j : ℕ) (b : Chunk S) (x : ℕ) → slice_get bs j ≡ Some b → x < length b.items → ⊥
  empty-rewritten k w [] empty j b x found inside = cc
  empty-rewritten k w (c ∷ bs) empty zero b x found inside =
      let none : length c.items ≡ 0 = ap length empty.1 in
      let same : length c.items ≡ length b.items = items-of (Some c) (Some b) found in
      omega arith
    where
      count_or : Option (Chunk S) → ℕ
      count_or None = 0
      count_or (Some b) = length b.items

      items-of : (a b : Option (Chunk S)) → a ≡ b → count_or a ≡ count_or b
      items-of a b e = ap count_or e
  empty-rewritten k w (c ∷ bs) empty (suc j) b x found inside = empty-rewritten (k + 1) w bs empty.2 j b x found inside

  pub rewrite : (k w full : ℕ) (bs : List (Chunk S)) → AreLaid k w full bs → (j x i : ℕ)
      → i + 2 ^ k * w ≡ 2 ^ (k + j) * w + x → (b : Chunk S) → slice_get bs j ≡ Some b → x < length b.items → (y : S)
      → Rewritten k w full bs (set bs j (chunk (set b.items x y) b.capacity)) i y
  rewrite k w full [] laid j x i place b found inside y = absurd (cc)
  rewrite k w zero (c ∷ bs) laid zero x i place b found inside y =
      let e : k + 0 ≡ k = omega arith in
      let same : 2 ^ (k + 0) * w ≡ 2 ^ k * w = ap (λ n. 2 ^ n * w) e in
      let here : i ≡ x = omega arith in
      let one : c ≡ b = cc in
      let inside_c : x < length c.items = subst (λ (d : Chunk S). x < length d.items) (sym one) inside in
      subst (λ (d : Chunk S). Rewritten k w zero (c ∷ bs) (chunk (set d.items x y) d.capacity ∷ bs) i y) one (record {
        laid = (laid.0, omega (arith, laid.1, length-set_same c.items x y), laid.2);
        items = sym (ap (λ n. set (c.items ++ flat bs) n y) here ∙ set-left c.items (flat bs) x y inside_c);
      })
  rewrite k w (suc full) (c ∷ bs) laid zero x i place b found inside y =
      let e : k + 0 ≡ k = omega arith in
      let same : 2 ^ (k + 0) * w ≡ 2 ^ k * w = ap (λ n. 2 ^ n * w) e in
      let here : i ≡ x = omega arith in
      let one : c ≡ b = cc in
      let inside_c : x < length c.items = subst (λ (d : Chunk S). x < length d.items) (sym one) inside in
      subst (λ (d : Chunk S). Rewritten k w (suc full) (c ∷ bs) (chunk (set d.items x y) d.capacity ∷ bs) i y) one (record {
        laid = (laid.0, length-set_same c.items x y ∙ laid.1, laid.2);
        items = sym (ap (λ n. set (c.items ++ flat bs) n y) here ∙ set-left c.items (flat bs) x y inside_c);
      })
  rewrite k w zero (c ∷ bs) laid (suc j) x i place b found inside y = absurd (empty-rewritten (k + 1) w bs laid.2 j b x found inside)
  rewrite k w (suc full) (c ∷ bs) laid (suc j) x i place b found inside y =
      let e : k + suc j ≡ k + 1 + j = omega arith in
      let same : 2 ^ (k + suc j) * w ≡ 2 ^ (k + 1 + j) * w = ap (λ n. 2 ^ n * w) e in
      let further : k + 1 ≤ k + 1 + j = omega arith in
      let most = mul-le-mul_right w (pow_mono further) in
      let rest = i - 2 ^ k * w in
      let beyond : i ≡ length c.items + rest = omega (arith, doubled k w, laid.0.0, laid.1) in
      let later = rewrite (k + 1) w full bs laid.2 j x rest (omega (arith, doubled k w)) b found inside y in
      record {
        laid = (laid.0, laid.1, later.laid);
        items = ap (λ l. c.items ++ l) later.items ∙ sym (set-right c.items (flat bs) i rest y beyond);
      }

  laid-from_empty : (k w : ℕ) (bs : List (Chunk S)) → AreEmpty k w bs → AreLaid k w 0 bs
  laid-from_empty k w [] empty = tt
  laid-from_empty k w (b ∷ bs) empty = let none = ap length empty.1 in (empty.0, omega arith, empty.2)

  -- the block that takes the next item
  pub record Open (full : ℕ) (bs : List (Chunk S)) : Type 0 where
    pub block : Chunk S
    pub at : slice_get bs full ≡ Some block
    pub bounded : length block.items ≤ block.capacity

  pub open_block : (k w full : ℕ) (bs : List (Chunk S)) → AreLaid k w full bs → length (flat bs) + 2 ^ k * w < 2 ^ (k + length bs) * w → Open full bs
  open_block k w zero [] laid room =
      let e : k + 0 ≡ k = omega arith in let same : 2 ^ (k + 0) * w ≡ 2 ^ k * w = ap (λ n. 2 ^ n * w) e in absurd (omega arith)
  open_block k w (suc full) [] laid room = absurd laid
  open_block k w zero (b ∷ bs) laid room = record { block = b; at = refl; bounded = laid.1 }
  open_block k w (suc full) (b ∷ bs) laid room =
      let whole = length-append b.items (flat bs) in
      let e : k + suc (length bs) ≡ k + 1 + length bs = omega arith in
      let same : 2 ^ (k + suc (length bs)) * w ≡ 2 ^ (k + 1 + length bs) * w = ap (λ n. 2 ^ n * w) e in
      let later = open_block (k + 1) w full bs laid.2 (omega (arith, doubled k w, laid.0.0, laid.1)) in
      record { block = later.block; at = later.at; bounded = later.bounded }

  -- a full block is done with, and the next one is empty
  pub record Advanced (k w full : ℕ) (bs : List (Chunk S)) : Type 0 where
    pub laid : AreLaid k w (suc full) bs
    pub block : Chunk S
    pub at : slice_get bs (suc full) ≡ Some block
    pub empty : block.items ≡ []
    pub capacity : block.capacity ≡ 2 ^ (k + suc full) * w

  pub advance : (k w full : ℕ) (bs : List (Chunk S)) → AreLaid k w full bs → length (flat bs) + 2 ^ k * w < 2 ^ (k + length bs) * w
      → (b : Chunk S) → slice_get bs full ≡ Some b → length b.items ≡ b.capacity → Advanced k w full bs
  advance k w full [] laid room b found whole = absurd (cc)
  advance k w zero (c ∷ []) laid room b found whole =
      let one : c ≡ b = cc in
      let whole_c : length c.items ≡ c.capacity = subst (λ (d : Chunk S). length d.items ≡ d.capacity) (sym one) whole in
      let sum = length-append c.items [] in
      absurd (omega (arith, doubled k w, laid.0.0))
  advance k w zero (c ∷ d ∷ bs) laid room b found whole =
      let one : c ≡ b = cc in
      let whole_c : length c.items ≡ c.capacity = subst (λ (d : Chunk S). length d.items ≡ d.capacity) (sym one) whole in
      record { laid = (laid.0, whole_c, laid-from_empty (k + 1) w (d ∷ bs) laid.2); block = d; at = refl; empty = laid.2.1; capacity = laid.2.0.0 }
  advance k w (suc full) (c ∷ bs) laid room b found whole =
      let sum = length-append c.items (flat bs) in
      let e : k + suc (length bs) ≡ k + 1 + length bs = omega arith in
      let same : 2 ^ (k + suc (length bs)) * w ≡ 2 ^ (k + 1 + length bs) * w = ap (λ n. 2 ^ n * w) e in
      let later = advance (k + 1) w full bs laid.2 (omega (arith, doubled k w, laid.0.0, laid.1)) b found whole in
      let f : k + 1 + suc full ≡ k + suc (suc full) = omega arith in
      record { laid = (laid.0, laid.1, later.laid); block = later.block; at = later.at; empty = later.empty; capacity = later.capacity ∙ ap (λ n. 2 ^ n * w) f }

  -- an item came
  pub record Pushed (k w full : ℕ) (bs new : List (Chunk S)) (y : S) : Type 0 where
    pub laid : AreLaid k w full new
    pub items : flat new ≡ flat bs ++ y ∷ []

  pub push : (k w full : ℕ) (bs : List (Chunk S)) → AreLaid k w full bs → (b : Chunk S) → slice_get bs full ≡ Some b
      → length b.items < b.capacity → (y : S) → Pushed k w full bs (set bs full (chunk (b.items ++ y ∷ []) b.capacity)) y
  push k w full [] laid b found room y = absurd (cc)
  push k w zero (c ∷ bs) laid b found room y =
      let one : c ≡ b = cc in
      let room_c : length c.items < c.capacity = subst (λ (d : Chunk S). length d.items < d.capacity) (sym one) room in
      let none = flat-empty (k + 1) w bs laid.2 in
      subst (λ (d : Chunk S). Pushed k w zero (c ∷ bs) (chunk (d.items ++ y ∷ []) d.capacity ∷ bs) y) one (record {
        laid = (laid.0, omega (arith, length_push c.items y), laid.2);
        items = ap (λ l. (c.items ++ y ∷ []) ++ l) none ∙ append-nil (c.items ++ y ∷ [])
            ∙ ap (λ l. l ++ y ∷ []) (sym (ap (λ l. c.items ++ l) none ∙ append-nil c.items));
      })
  push k w (suc full) (c ∷ bs) laid b found room y =
      let later = push (k + 1) w full bs laid.2 b found room y in
      record {
        laid = (laid.0, laid.1, later.laid);
        items = ap (λ l. c.items ++ l) later.items ∙ sym (append_assoc c.items (flat bs) (y ∷ []));
      }

  empty-more : (k w : ℕ) (bs : List (Chunk S)) → AreEmpty k w bs → (e : Chunk S) → IsSized (k + length bs) w e → e.items ≡ [] → AreEmpty k w (bs ++ e ∷ [])
  empty-more k w [] empty e sized none = let same : k + 0 ≡ k = omega arith in (subst (λ n. IsSized n w e) same sized, none, tt)
  empty-more k w (b ∷ bs) empty e sized none =
      let same : k + suc (length bs) ≡ k + 1 + length bs = omega arith in
      (empty.0, empty.1, empty-more (k + 1) w bs empty.2 e (subst (λ n. IsSized n w e) same sized) none)

  -- an empty block more
  pub more-laid : (k w full : ℕ) (bs : List (Chunk S)) → AreLaid k w full bs → (e : Chunk S)
      → IsSized (k + length bs) w e → e.items ≡ [] → AreLaid k w full (bs ++ e ∷ [])
  more-laid k w zero [] laid e sized none =
      let same : k + 0 ≡ k = omega arith in let few = ap length none in (subst (λ n. IsSized n w e) same sized, omega arith, tt)
  more-laid k w (suc full) [] laid e sized none = absurd laid
  more-laid k w zero (b ∷ bs) laid e sized none =
      let same : k + suc (length bs) ≡ k + 1 + length bs = omega arith in
      (laid.0, laid.1, empty-more (k + 1) w bs laid.2 e (subst (λ n. IsSized n w e) same sized) none)
  more-laid k w (suc full) (b ∷ bs) laid e sized none =
      let same : k + suc (length bs) ≡ k + 1 + length bs = omega arith in
      (laid.0, laid.1, more-laid (k + 1) w full bs laid.2 e (subst (λ n. IsSized n w e) same sized) none)

  pub flat-more : (bs : List (Chunk S)) (e : Chunk S) → e.items ≡ [] → flat (bs ++ e ∷ []) ≡ flat bs
  flat-more [] e none = ap (λ l. l ++ []) none
  flat-more (b ∷ bs) e none = ap (λ l. b.items ++ l) (flat-more bs e none)
