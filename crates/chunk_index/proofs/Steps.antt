-- Where a search goes on at the root of a tree: to the left, to the right, or not at all.
use Rattle.std.proofs.Common.{Some, ◌≡◌, ◌+◌, ◌≤◌, arith, true, false, List, [], ◌∷◌, ◌++◌, length, refl, sym, ap, ◌∙◌, subst}
use Rattle.std.proofs.lemmas.List.{length-append}
use Rattle.std.specs.declared.cmp.Ordering.TheVariants.{Less, Equal, Greater}
use Rattle.chunk_index.specs.declared.entry.Entry.{Entry}
use Rattle.chunk_index.specs.declared.key.Key.{Key}
use Rattle.chunk_index.specs.KeyOrder.{key_cmp}
use Rattle.chunk_index.specs.Keys.{key_of, IsInOrder, has_key, number_at, before, behind, put, without}
use Rattle.chunk_index.specs.Trees.{AreBalanced, AreNearlyBalanced}
use Rattle.chunk_index.proofs.Finds.{number-low, number-high, number-level}
use Rattle.chunk_index.proofs.Lists.{cut, put-low, put-high, without-low, without-high, without-level, has-low, has-high, has-level}

pub record GoesLeft (xs l : List Entry) (h : Entry) (r : List Entry) (k : Key) : Type 0 where
  pub order : IsInOrder key_of l
  pub has : has_key key_of l k ≡ has_key key_of xs k
  pub number : number_at l k ≡ number_at xs k
  pub put : (x : Entry) → key_of x ≡ k → put key_of l x ++ h ∷ r ≡ put key_of xs x
  pub without : without key_of l k ++ h ∷ r ≡ without key_of xs k

pub record GoesRight (xs l : List Entry) (h : Entry) (r : List Entry) (k : Key) : Type 0 where
  pub order : IsInOrder key_of r
  pub has : has_key key_of r k ≡ has_key key_of xs k
  pub number : number_at r k ≡ number_at xs k
  pub put : (x : Entry) → key_of x ≡ k → l ++ h ∷ put key_of r x ≡ put key_of xs x
  pub without : l ++ h ∷ without key_of r k ≡ without key_of xs k

pub record Stops (xs l : List Entry) (h : Entry) (r : List Entry) (k : Key) : Type 0 where
  pub has : has_key key_of xs k ≡ true
  pub number : number_at xs k ≡ Some h.number
  pub without : l ++ r ≡ without key_of xs k

module _ (xs l : List Entry) (h : Entry) (r : List Entry) (whole : xs ≡ l ++ h ∷ r) (order : IsInOrder key_of xs) (k : Key) where
  pub goes_left : Less ≡ key_cmp k (key_of h) → GoesLeft xs l h r k
  goes_left e =
      let c = cut key_of l h r (subst (λ (t : List Entry). IsInOrder key_of t) whole order) in
      let low = sym e in
      record {
        order = c.left;
        has = sym (ap (λ (t : List Entry). has_key key_of t k) whole ∙ has-low key_of l h r c k low);
        number = sym (ap (λ (t : List Entry). number_at t k) whole ∙ number-low l h r k c low);
        put = λ x is_k. sym (ap (λ (t : List Entry). put key_of t x) whole ∙ put-low key_of l h r c k x is_k low);
        without = sym (ap (λ (t : List Entry). without key_of t k) whole ∙ without-low key_of l h r c k low);
      }

  pub goes_right : Greater ≡ key_cmp k (key_of h) → GoesRight xs l h r k
  goes_right e =
      let c = cut key_of l h r (subst (λ (t : List Entry). IsInOrder key_of t) whole order) in
      let high = sym e in
      record {
        order = c.right;
        has = sym (ap (λ (t : List Entry). has_key key_of t k) whole ∙ has-high key_of l h r c k high);
        number = sym (ap (λ (t : List Entry). number_at t k) whole ∙ number-high l h r k c high);
        put = λ x is_k. sym (ap (λ (t : List Entry). put key_of t x) whole ∙ put-high key_of l h r c k x is_k high);
        without = sym (ap (λ (t : List Entry). without key_of t k) whole ∙ without-high key_of l h r c k high);
      }

  pub stops : Equal ≡ key_cmp k (key_of h) → Stops xs l h r k
  stops e =
      let c = cut key_of l h r (subst (λ (t : List Entry). IsInOrder key_of t) whole order) in
      let level = sym e in
      record {
        has = ap (λ (t : List Entry). has_key key_of t k) whole ∙ has-level key_of l h r c k level;
        number = ap (λ (t : List Entry). number_at t k) whole ∙ number-level l h r k c level;
        without = sym (ap (λ (t : List Entry). without key_of t k) whole ∙ without-level key_of l h r c k level);
      }

-- in no entries there is no key, and an entry put there is alone
pub none-has : (xs : List Entry) (k : Key) → xs ≡ [] → has_key key_of xs k ≡ true → ⊥
unfolding has_key
none-has xs k none has = let e : false ≡ true = sym (ap (λ (t : List Entry). has_key key_of t k) none) ∙ has in absurd (apart e)
  where
    apart : false ≡ true → ⊥
    apart e = cc

pub empty-has : (xs : List Entry) (k : Key) → length xs ≡ 0 → false ≡ has_key key_of xs k
unfolding has_key
empty-has [] k none = refl
empty-has (x ∷ xs) k none = absurd (omega (arith, none))

pub none-put : (xs : List Entry) (x : Entry) → xs ≡ [] → [] ++ x ∷ [] ≡ put key_of xs x
unfolding put before behind
none-put xs x none = sym (ap (λ (t : List Entry). put key_of t x) none)

-- each side is shorter than the whole
pub shorter_left : (xs l : List Entry) (h : Entry) (r : List Entry) → xs ≡ l ++ h ∷ r → length l + 1 ≤ length xs
shorter_left xs l h r whole = omega (arith, ap length whole, length-append l (h ∷ r))

pub shorter_right : (xs l : List Entry) (h : Entry) (r : List Entry) → xs ≡ l ++ h ∷ r → length r + 1 ≤ length xs
shorter_right xs l h r whole = omega (arith, ap length whole, length-append l (h ∷ r))

-- ---- a side has grown by an entry
pub record HasGrown (xs : List Entry) (x : Entry) (l : List Entry) (h : Entry) (r : List Entry) : Type 0 where
  pub put : l ++ h ∷ r ≡ put key_of xs x
  pub nearly : AreNearlyBalanced (length l) (length r)
  pub longer : length l + length r ≡ length xs

module _ (xs l : List Entry) (h : Entry) (r : List Entry) (whole : xs ≡ l ++ h ∷ r) (order : IsInOrder key_of xs)
    (balanced : AreBalanced (length l) (length r)) (x : Entry) where
  pub grows_left : Less ≡ key_cmp (key_of x) (key_of h) → (l2 : List Entry) → l2 ≡ put key_of l x → length l2 ≡ length l + 1 → HasGrown xs x l2 h r
  grows_left e l2 is longer = record {
    put = ap (λ (t : List Entry). t ++ h ∷ r) is ∙ (goes_left xs l h r whole order (key_of x) e).put x refl;
    nearly = record { left = omega (arith, balanced.left, longer); right = omega (arith, balanced.right, longer) };
    longer = omega (arith, longer, ap length whole, length-append l (h ∷ r));
  }

  pub grows_right : Greater ≡ key_cmp (key_of x) (key_of h) → (r2 : List Entry) → r2 ≡ put key_of r x → length r2 ≡ length r + 1 → HasGrown xs x l h r2
  grows_right e r2 is longer = record {
    put = ap (λ (t : List Entry). l ++ h ∷ t) is ∙ (goes_right xs l h r whole order (key_of x) e).put x refl;
    nearly = record { left = omega (arith, balanced.left, longer); right = omega (arith, balanced.right, longer) };
    longer = omega (arith, longer, ap length whole, length-append l (h ∷ r));
  }
