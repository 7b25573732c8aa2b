-- A list in key order, cut at one of its items: what a search goes on in, and what a change leaves.
use Rattle.std.proofs.Common.{◌≡◌, ◌≤◌, Bool, true, false, ◌||◌, List, [], ◌∷◌, ◌++◌, length, refl, sym, ap, ◌∙◌, subst, append_assoc, arith}
use Rattle.std.proofs.lemmas.List.{append-nil}
use Rattle.std.proofs.lemmas.List.Elements.{filter-append}
use Rattle.std.proofs.lemmas.List.Folds.{list_any-append}
use Rattle.std.specs.List.{filter, list_any, AllByRecursion}
use Rattle.std.specs.declared.cmp.Ordering.{Ordering}
use Rattle.std.specs.declared.cmp.Ordering.TheVariants.{Less, Equal, Greater}
use Rattle.std.specs.Ordering.{is_lt, is_eq, is_ne, is_gt, ordering_reverse}
use Rattle.lists.proofs.Cases.{or_false, or_true}
use Rattle.std.proofs.lemmas.Bool.{or_parts}
use Rattle.chunk_index.specs.declared.key.Key.{Key}
use Rattle.chunk_index.specs.KeyOrder.{key_cmp}
use Rattle.chunk_index.specs.KeyLaws.{key_cmp_total, level_keys}
use Rattle.chunk_index.specs.Keys.{IsInOrder, has_key, before, behind, put, without}

-- the other way round
pub turned : (a b : Key) (o : Ordering) → key_cmp a b ≡ o → key_cmp b a ≡ ordering_reverse o
turned a b o e = key_cmp_total.antisymm b a ∙ ap ordering_reverse e

-- what stands behind what stands behind k stands behind k
pub chain_greater : (a b k : Key) → key_cmp a b ≡ Greater → key_cmp b k ≡ Greater → key_cmp a k ≡ Greater
chain_greater a b k p q = turned k a Less (key_cmp_total.trans k b a (turned b k Greater q) (turned a b Greater p))

pub unequal : (o : Ordering) → is_eq o ≡ false → is_ne o ≡ true
unequal Less e = refl
unequal Equal e = sym e
unequal Greater e = refl

pub unlevel : (o : Ordering) → is_ne o ≡ true → is_eq o ≡ false
unlevel Less e = refl
unlevel Equal e = sym e
unlevel Greater e = refl

module _ {A : Type 0} (key : A → Key) where
  -- every key stands so to k
  abbrev pub AllStand : List A → Key → Ordering → Type 0
  AllStand xs k o = AllByRecursion (λ x. key_cmp (key x) k ≡ o) xs

  pub all-less : (xs : List A) (h k : Key) → AllStand xs h Less → key_cmp h k ≡ Less → AllStand xs k Less
  all-less [] h k all e = tt
  all-less (x ∷ xs) h k all e = (key_cmp_total.trans (key x) h k all.0 e, all-less xs h k all.1 e)

  pub all-greater : (xs : List A) (h k : Key) → AllStand xs h Greater → key_cmp h k ≡ Greater → AllStand xs k Greater
  all-greater [] h k all e = tt
  all-greater (x ∷ xs) h k all e = (chain_greater (key x) h k all.0 e, all-greater xs h k all.1 e)

  -- those that a test of what their keys are to k keeps
  abbrev pub kept_by : (Ordering → Bool) → Key → List A → List A
  kept_by f k xs = filter (λ x. f (key_cmp (key x) k)) xs

  pub kept-all : (f : Ordering → Bool) (k : Key) (o : Ordering) (xs : List A) → f o ≡ true → AllStand xs k o → kept_by f k xs ≡ xs
  kept-all f k o [] keeps all = refl
  kept-all f k o (x ∷ xs) keeps all = let here = ap f all.0 ∙ keeps in rw here (ap (λ (t : List A). x ∷ t) (kept-all f k o xs keeps all.1))

  pub kept-none : (f : Ordering → Bool) (k : Key) (o : Ordering) (xs : List A) → f o ≡ false → AllStand xs k o → kept_by f k xs ≡ []
  kept-none f k o [] drops all = refl
  kept-none f k o (x ∷ xs) drops all = let here = ap f all.0 ∙ drops in rw here (kept-none f k o xs drops all.1)

  pub any-none : (k : Key) (o : Ordering) (xs : List A) → is_eq o ≡ false → AllStand xs k o → has_key key xs k ≡ false
  unfolding has_key
  any-none k o [] drops all = refl
  any-none k o (x ∷ xs) drops all = let here = ap is_eq all.0 ∙ drops in rw here (any-none k o xs drops all.1)

  -- where no item has the key, none is taken out
  pub without_absent : (xs : List A) (k : Key) → has_key key xs k ≡ false → without key xs k ≡ xs
  unfolding has_key without
  without_absent [] k lacks = refl
  without_absent (x ∷ xs) k lacks =
      let both = or_parts (is_eq (key_cmp (key x) k)) (list_any (λ y. is_eq (key_cmp (key y) k)) xs) lacks in
      let stays = unequal (key_cmp (key x) k) both.0 in
      rw stays (ap (λ (t : List A). x ∷ t) (without_absent xs k both.1))

  -- ---- what is left without a key
  pub lacks_without : (xs : List A) (k : Key) → has_key key (without key xs k) k ≡ false
  unfolding has_key without
  lacks_without [] k = refl
  lacks_without (x ∷ xs) k = by (is_ne (key_cmp (key x) k)) refl (lacks_without xs k)
    where
      by : (stays : Bool) → is_ne (key_cmp (key x) k) ≡ stays → has_key key (without key xs k) k ≡ false → has_key key (without key (x ∷ xs) k) k ≡ false
      by true e rest = let differs = unlevel (key_cmp (key x) k) e in rw e (rw differs rest)
      by false e rest = rw e rest

  pub length_without : (xs : List A) (k : Key) → length (without key xs k) ≤ length xs
  unfolding without
  length_without [] k = omega arith
  length_without (x ∷ xs) k = by (is_ne (key_cmp (key x) k)) refl (length_without xs k)
    where
      by : (stays : Bool) → is_ne (key_cmp (key x) k) ≡ stays → length (without key xs k) ≤ length xs → length (without key (x ∷ xs) k) ≤ length (x ∷ xs)
      by true e rest = rw e (omega (arith, rest))
      by false e rest = rw e (omega (arith, rest))

  pub all-filter : (P : A → Type 0) (test : A → Bool) (xs : List A) → AllByRecursion P xs → AllByRecursion P (filter test xs)
  all-filter P test [] all = tt
  all-filter P test (x ∷ xs) all = by (test x) refl (all-filter P test xs all.1)
    where
      by : (stays : Bool) → test x ≡ stays → AllByRecursion P (filter test xs) → AllByRecursion P (filter test (x ∷ xs))
      by true e rest = rw e (all.0, rest)
      by false e rest = rw e rest

  pub filter_in_order : (test : A → Bool) (xs : List A) → IsInOrder key xs → IsInOrder key (filter test xs)
  unfolding IsInOrder
  filter_in_order test [] order = tt
  filter_in_order test (x ∷ xs) order = by (test x) refl (filter_in_order test xs order.1)
    where
      by : (stays : Bool) → test x ≡ stays → IsInOrder key (filter test xs) → IsInOrder key (filter test (x ∷ xs))
      by true e rest = rw e (all-filter (λ y. key_cmp (key x) (key y) ≡ Less) test xs order.0, rest)
      by false e rest = rw e rest

  pub without_in_order : (xs : List A) (k : Key) → IsInOrder key xs → IsInOrder key (without key xs k)
  unfolding without
  without_in_order xs k order = filter_in_order (λ x. is_ne (key_cmp (key x) k)) xs order

  -- ---- what a cut of a list in order is
  pub record IsCut (l : List A) (h : A) (r : List A) : Type 0 where
    pub left : IsInOrder key l
    pub right : IsInOrder key r
    pub less : AllStand l (key h) Less
    pub greater : AllStand r (key h) Greater

  pub all-turned : (h : Key) (xs : List A) → AllByRecursion (λ y. key_cmp h (key y) ≡ Less) xs → AllStand xs h Greater
  all-turned h [] all = tt
  all-turned h (x ∷ xs) all = (turned h (key x) Less all.0, all-turned h xs all.1)

  pub all-front : (P : A → Type 0) (xs ys : List A) → AllByRecursion P (xs ++ ys) → AllByRecursion P xs × AllByRecursion P ys
  all-front P [] ys all = (tt, all)
  all-front P (x ∷ xs) ys all = let rest = all-front P xs ys all.1 in ((all.0, rest.0), rest.1)

  pub cut : (l : List A) (h : A) (r : List A) → IsInOrder key (l ++ h ∷ r) → IsCut l h r
  unfolding IsInOrder
  cut [] h r order = record { left = tt; right = order.1; less = tt; greater = all-turned (key h) r order.0 }
  cut (x ∷ l) h r order =
      let rest = cut l h r order.1 in
      let split = all-front (λ y. key_cmp (key x) (key y) ≡ Less) l (h ∷ r) order.0 in
      record { left = (split.0, rest.left); right = rest.right; less = (split.1.0, rest.less); greater = rest.greater }

  module _ (l : List A) (h : A) (r : List A) (c : IsCut l h r) (k : Key) where
    whole : (f : Ordering → Bool) → kept_by f k (l ++ h ∷ r) ≡ kept_by f k l ++ kept_by f k (h ∷ r)
    whole f = filter-append (λ x. f (key_cmp (key x) k)) l (h ∷ r)

    -- where k stands before the item, what is from there on is all kept or all not
    low-kept : (f : Ordering → Bool) → f Greater ≡ true → key_cmp k (key h) ≡ Less → kept_by f k (l ++ h ∷ r) ≡ kept_by f k l ++ h ∷ r
    low-kept f keeps e =
        let here = turned k (key h) Less e in
        whole f ∙ ap (λ (t : List A). kept_by f k l ++ t) (kept-all f k Greater (h ∷ r) keeps (here, all-greater r (key h) k c.greater here))

    low-dropped : (f : Ordering → Bool) → f Greater ≡ false → key_cmp k (key h) ≡ Less → kept_by f k (l ++ h ∷ r) ≡ kept_by f k l
    low-dropped f drops e =
        let here = turned k (key h) Less e in
        whole f ∙ ap (λ (t : List A). kept_by f k l ++ t) (kept-none f k Greater (h ∷ r) drops (here, all-greater r (key h) k c.greater here))
        ∙ append-nil (kept_by f k l)

    -- where it stands behind the item, so is what is up to there
    high-kept : (f : Ordering → Bool) → f Less ≡ true → key_cmp k (key h) ≡ Greater → kept_by f k (l ++ h ∷ r) ≡ l ++ h ∷ kept_by f k r
    high-kept f keeps e =
        let here = turned k (key h) Greater e in
        let now = ap f here ∙ keeps in
        whole f ∙ ap (λ (t : List A). t ++ kept_by f k (h ∷ r)) (kept-all f k Less l keeps (all-less l (key h) k c.less here)) ∙ rw now refl

    high-dropped : (f : Ordering → Bool) → f Less ≡ false → key_cmp k (key h) ≡ Greater → kept_by f k (l ++ h ∷ r) ≡ kept_by f k r
    high-dropped f drops e =
        let here = turned k (key h) Greater e in
        let now = ap f here ∙ drops in
        whole f ∙ ap (λ (t : List A). t ++ kept_by f k (h ∷ r)) (kept-none f k Less l drops (all-less l (key h) k c.less here)) ∙ rw now refl

    -- where it is the item's key, the item alone has it
    level : key_cmp k (key h) ≡ Equal → AllStand l k Less × AllStand r k Greater
    level e =
        let same = level_keys k (key h) e in
        (subst (λ (q : Key). AllStand l q Less) (sym same) c.less, subst (λ (q : Key). AllStand r q Greater) (sym same) c.greater)

    -- ---- what is put, taken out and looked for there
    pub put-low : (x : A) → key x ≡ k → key_cmp k (key h) ≡ Less → put key (l ++ h ∷ r) x ≡ put key l x ++ h ∷ r
    unfolding put before behind
    put-low x is e =
        rw is (ap (λ (t : List A). t ++ x ∷ kept_by is_gt k (l ++ h ∷ r)) (low-dropped is_lt refl e)
        ∙ ap (λ (t : List A). kept_by is_lt k l ++ x ∷ t) (low-kept is_gt refl e)
        ∙ sym (append_assoc (kept_by is_lt k l) (x ∷ kept_by is_gt k l) (h ∷ r)))

    pub put-high : (x : A) → key x ≡ k → key_cmp k (key h) ≡ Greater → put key (l ++ h ∷ r) x ≡ l ++ h ∷ put key r x
    unfolding put before behind
    put-high x is e =
        rw is (ap (λ (t : List A). t ++ x ∷ kept_by is_gt k (l ++ h ∷ r)) (high-kept is_lt refl e)
        ∙ ap (λ (t : List A). (l ++ h ∷ kept_by is_lt k r) ++ x ∷ t) (high-dropped is_gt refl e)
        ∙ append_assoc l (h ∷ kept_by is_lt k r) (x ∷ kept_by is_gt k r))

    pub without-low : key_cmp k (key h) ≡ Less → without key (l ++ h ∷ r) k ≡ without key l k ++ h ∷ r
    unfolding without
    without-low e = low-kept is_ne refl e

    pub without-high : key_cmp k (key h) ≡ Greater → without key (l ++ h ∷ r) k ≡ l ++ h ∷ without key r k
    unfolding without
    without-high e = high-kept is_ne refl e

    pub without-level : key_cmp k (key h) ≡ Equal → without key (l ++ h ∷ r) k ≡ l ++ r
    unfolding without
    without-level e =
        let sides = level e in
        let gone : is_ne (key_cmp (key h) k) ≡ false = ap is_ne (turned k (key h) Equal e) in
        whole is_ne ∙ ap (λ (t : List A). t ++ kept_by is_ne k (h ∷ r)) (kept-all is_ne k Less l refl sides.0)
        ∙ rw gone (ap (λ (t : List A). l ++ t) (kept-all is_ne k Greater r refl sides.1))

    pub has-low : key_cmp k (key h) ≡ Less → has_key key (l ++ h ∷ r) k ≡ has_key key l k
    unfolding has_key
    has-low e =
        let here = turned k (key h) Less e in
        list_any-append (λ x. is_eq (key_cmp (key x) k)) l (h ∷ r)
        ∙ ap (λ b. has_key key l k || b) (any-none k Greater (h ∷ r) refl (here, all-greater r (key h) k c.greater here))
        ∙ or_false (has_key key l k)

    pub has-high : key_cmp k (key h) ≡ Greater → has_key key (l ++ h ∷ r) k ≡ has_key key r k
    unfolding has_key
    has-high e =
        let here = turned k (key h) Greater e in
        let apart = ap is_eq here in
        list_any-append (λ x. is_eq (key_cmp (key x) k)) l (h ∷ r)
        ∙ ap (λ b. b || has_key key (h ∷ r) k) (any-none k Less l refl (all-less l (key h) k c.less here))
        ∙ rw apart refl

    pub has-level : key_cmp k (key h) ≡ Equal → has_key key (l ++ h ∷ r) k ≡ true
    unfolding has_key
    has-level e =
        let same = ap is_eq (turned k (key h) Equal e) in
        list_any-append (λ x. is_eq (key_cmp (key x) k)) l (h ∷ r) ∙ rw same (or_true (has_key key l k))

    pub before-level : key_cmp k (key h) ≡ Equal → before key (l ++ h ∷ r) k ≡ l
    unfolding before
    before-level e =
        let sides = level e in
        let gone : is_lt (key_cmp (key h) k) ≡ false = ap is_lt (turned k (key h) Equal e) in
        whole is_lt ∙ ap (λ (t : List A). t ++ kept_by is_lt k (h ∷ r)) (kept-all is_lt k Less l refl sides.0)
        ∙ rw gone (ap (λ (t : List A). l ++ t) (kept-none is_lt k Greater r refl sides.1)) ∙ append-nil l

    pub behind-level : key_cmp k (key h) ≡ Equal → behind key (l ++ h ∷ r) k ≡ r
    unfolding behind
    behind-level e =
        let sides = level e in
        let gone : is_gt (key_cmp (key h) k) ≡ false = ap is_gt (turned k (key h) Equal e) in
        whole is_gt ∙ ap (λ (t : List A). t ++ kept_by is_gt k (h ∷ r)) (kept-none is_gt k Less l refl sides.0)
        ∙ rw gone (kept-all is_gt k Greater r refl sides.1)

    pub put-level : (x : A) → key x ≡ k → key_cmp k (key h) ≡ Equal → put key (l ++ h ∷ r) x ≡ l ++ x ∷ r
    unfolding put
    put-level x is e =
        rw is (ap (λ (t : List A). t ++ x ∷ behind key (l ++ h ∷ r) k) (before-level e) ∙ ap (λ (t : List A). l ++ x ∷ t) (behind-level e))

    pub lacks-level : key_cmp k (key h) ≡ Equal → has_key key r k ≡ false
    lacks-level e = let sides = level e in any-none k Greater r refl sides.1

  -- what stands before a key, and what stands behind it, is all but what has it
  pub around : (xs : List A) (k : Key) → IsInOrder key xs → kept_by is_lt k xs ++ kept_by is_gt k xs ≡ without key xs k
  unfolding without before behind
  around [] k order = refl
  around (x ∷ xs) k order = by (key_cmp k (key x)) refl (around xs k c.right)
    where
      c : IsCut [] x xs
      c = cut [] x xs order

      by : (o : Ordering) → key_cmp k (key x) ≡ o → kept_by is_lt k xs ++ kept_by is_gt k xs ≡ without key xs k
          → kept_by is_lt k (x ∷ xs) ++ kept_by is_gt k (x ∷ xs) ≡ without key (x ∷ xs) k
      by Less is rest =
          ap (λ (t : List A). t ++ kept_by is_gt k (x ∷ xs)) (low-dropped [] x xs c k is_lt refl is) ∙ low-kept [] x xs c k is_gt refl is
          ∙ sym (low-kept [] x xs c k is_ne refl is)
      by Equal is rest =
          ap (λ (t : List A). t ++ kept_by is_gt k (x ∷ xs)) (before-level [] x xs c k is) ∙ behind-level [] x xs c k is ∙ sym (without-level [] x xs c k is)
      by Greater is rest =
          ap (λ (t : List A). t ++ kept_by is_gt k (x ∷ xs)) (high-kept [] x xs c k is_lt refl is)
          ∙ ap (λ (t : List A). (x ∷ kept_by is_lt k xs) ++ t) (high-dropped [] x xs c k is_gt refl is)
          ∙ ap (λ (t : List A). x ∷ t) rest ∙ sym (high-kept [] x xs c k is_ne refl is)

  -- a test that passes nothing that another doesn't, after that one
  twice : (f g : Ordering → Bool) → ((o : Ordering) → g o ≡ false → f o ≡ false) → (k : Key) (xs : List A) → kept_by f k (kept_by g k xs) ≡ kept_by f k xs
  twice f g narrower k [] = refl
  twice f g narrower k (x ∷ xs) = by (g (key_cmp (key x) k)) refl (f (key_cmp (key x) k)) refl (twice f g narrower k xs)
    where
      by : (b : Bool) → g (key_cmp (key x) k) ≡ b → (a : Bool) → f (key_cmp (key x) k) ≡ a → kept_by f k (kept_by g k xs) ≡ kept_by f k xs
          → kept_by f k (kept_by g k (x ∷ xs)) ≡ kept_by f k (x ∷ xs)
      by true e true d rest = rw e (rw d (ap (λ (t : List A). x ∷ t) rest))
      by true e false d rest = rw e (rw d rest)
      by false e a d rest = let drops = narrower (key_cmp (key x) k) e in rw (e, drops) rest

  -- so what is put where its key was taken out is put as it would be anyway
  pub put-without : (xs : List A) (x : A) → put key (without key xs (key x)) x ≡ put key xs x
  unfolding put before behind without
  put-without xs x =
      ap (λ (t : List A). t ++ x ∷ kept_by is_gt (key x) (kept_by is_ne (key x) xs)) (twice is_lt is_ne lower (key x) xs)
      ∙ ap (λ (t : List A). kept_by is_lt (key x) xs ++ x ∷ t) (twice is_gt is_ne higher (key x) xs)
    where
      lower : (o : Ordering) → is_ne o ≡ false → is_lt o ≡ false
      lower Less e = e
      lower Equal e = refl
      lower Greater e = refl

      higher : (o : Ordering) → is_ne o ≡ false → is_gt o ≡ false
      higher Less e = refl
      higher Equal e = refl
      higher Greater e = e
