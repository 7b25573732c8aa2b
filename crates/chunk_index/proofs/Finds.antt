-- The number that is found under a key.
use Rattle.std.proofs.Common.{◌≡◌, ℕ, Bool, true, false, List, [], ◌∷◌, ◌++◌, Option, Some, None, is_some, refl, subst, sym, ap, ◌∙◌}
use Rattle.std.specs.declared.cmp.Ordering.TheVariants.{Less, Equal, Greater}
use Rattle.std.specs.Ordering.{is_eq}
use Rattle.std.proofs.lemmas.Bool.{or_parts}
use Rattle.chunk_index.specs.declared.entry.Entry.{Entry}
use Rattle.chunk_index.specs.declared.key.Key.{Key}
use Rattle.chunk_index.specs.KeyOrder.{key_cmp}
use Rattle.chunk_index.specs.KeyLaws.{level_keys}
use Rattle.chunk_index.specs.Keys.{key_of, has_key, number_at}
use Rattle.chunk_index.proofs.Lists.{turned, AllStand, IsCut, any-none, all-less, all-greater}
use Rattle.chunk_index.proofs.Merges.{either, either-none}

pub number-append : (xs ys : List Entry) (k : Key) → number_at (xs ++ ys) k ≡ either (number_at xs k) (number_at ys k)
unfolding number_at
number-append [] ys k = refl
number-append (x ∷ xs) ys k = by (is_eq (key_cmp (key_of x) k)) refl (number-append xs ys k)
  where
    by : (same : Bool) → is_eq (key_cmp (key_of x) k) ≡ same → number_at (xs ++ ys) k ≡ either (number_at xs k) (number_at ys k)
        → number_at (x ∷ xs ++ ys) k ≡ either (number_at (x ∷ xs) k) (number_at ys k)
    by true s rest = rw s refl
    by false s rest = rw s rest

pub number-lacks : (xs : List Entry) (k : Key) → has_key key_of xs k ≡ false → number_at xs k ≡ None
unfolding number_at has_key
number-lacks [] k lacks = refl
number-lacks (x ∷ xs) k lacks =
    let both = or_parts (is_eq (key_cmp (key_of x) k)) (has_key key_of xs k) lacks in
    rw both.0 (number-lacks xs k both.1)

pub number-has : (xs : List Entry) (k : Key) → has_key key_of xs k ≡ is_some (number_at xs k)
unfolding number_at has_key
number-has [] k = refl
number-has (x ∷ xs) k = by (is_eq (key_cmp (key_of x) k)) refl (number-has xs k)
  where
    by : (same : Bool) → is_eq (key_cmp (key_of x) k) ≡ same → has_key key_of xs k ≡ is_some (number_at xs k)
        → has_key key_of (x ∷ xs) k ≡ is_some (number_at (x ∷ xs) k)
    by true s rest = rw s refl
    by false s rest = rw s rest

module _ (l : List Entry) (h : Entry) (r : List Entry) (k : Key) (c : IsCut key_of l h r) where
  pub number-low : key_cmp k (key_of h) ≡ Less → number_at (l ++ h ∷ r) k ≡ number_at l k
  number-low e =
      let here = turned k (key_of h) Less e in
      number-append l (h ∷ r) k
      ∙ ap (either (number_at l k)) (number-lacks (h ∷ r) k (any-none key_of k Greater (h ∷ r) refl (here, all-greater key_of r (key_of h) k c.greater here)))
      ∙ either-none (number_at l k)

  pub number-high : key_cmp k (key_of h) ≡ Greater → number_at (l ++ h ∷ r) k ≡ number_at r k
  unfolding number_at
  number-high e =
      let here = turned k (key_of h) Greater e in
      let apart = ap is_eq here in
      number-append l (h ∷ r) k
      ∙ ap (λ (o : Option ℕ). either o (number_at (h ∷ r) k)) (number-lacks l k (any-none key_of k Less l refl (all-less key_of l (key_of h) k c.less here)))
      ∙ rw apart refl

  pub number-level : key_cmp k (key_of h) ≡ Equal → number_at (l ++ h ∷ r) k ≡ Some h.number
  unfolding number_at
  number-level e =
      let here = turned k (key_of h) Equal e in
      let same = ap is_eq here in
      let low = subst (λ (q : Key). AllStand key_of l q Less) (sym (level_keys k (key_of h) e)) c.less in
      number-append l (h ∷ r) k
      ∙ ap (λ (o : Option ℕ). either o (number_at (h ∷ r) k)) (number-lacks l k (any-none key_of k Less l refl low))
      ∙ rw same refl
