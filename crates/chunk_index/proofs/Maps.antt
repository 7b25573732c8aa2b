-- What each change of the map is on the items that its entries stand for, whatever the trees are.
use Rattle.std.proofs.Common.{◌≡◌, ℕ, Bool, true, false, cond, ◌||◌, List, [], ◌∷◌, length, Option, Some, None, MatchOption, is_some, option_map, refl, sym, ap, ◌∙◌, arith}
use Rattle.std.specs.declared.cmp.Ordering.{Ordering}
use Rattle.std.specs.declared.cmp.Ordering.TheVariants.{Less, Equal, Greater}
use Rattle.std.specs.Ordering.{is_eq, ordering_reverse}
use Rattle.std.specs.Map.{lookup}
use Rattle.std.specs.BTreeMap.{is_at}
use Rattle.chunk_index.specs.declared.entry.Entry.{Entry}
use Rattle.chunk_index.specs.declared.entry.Tag.{Tag}
use Rattle.chunk_index.specs.declared.key.Key.{Key}
use Rattle.chunk_index.specs.KeyOrder.{key_cmp}
use Rattle.chunk_index.specs.KeyLaws.{level_keys}
use Rattle.chunk_index.specs.Keys.{has_key}
use Rattle.chunk_index.specs.Items.{item_key, found}
use Rattle.chunk_index.specs.Kept.{tag_in, items_of}
use Rattle.chunk_index.proofs.Lists.{turned}

abbrev pub Numbers : Type 0
Numbers = List (Key × ℕ)

-- what a look-up of a key compares
abbrev pub test : Key → Key → Bool
test k = is_at (key_cmp k)

pub false_true : false ≡ true → ⊥
false_true b = cc

turn_eq : (o : Ordering) → is_eq (ordering_reverse o) ≡ is_eq o
turn_eq Less = refl
turn_eq Equal = refl
turn_eq Greater = refl

pub same_test : (k : Key) (q : Key) → is_eq (key_cmp q k) ≡ test k q
same_test k q = ap is_eq (turned k q (key_cmp k q) refl) ∙ turn_eq (key_cmp k q)

some_cond : (b : Bool) (n : ℕ) (o : Option ℕ) → is_some (cond b (Some n) o) ≡ (b || is_some o)
some_cond true n o = refl
some_cond false n o = refl

module _ (m t : List Entry) where
  pub length-items : (es : Numbers) → length (items_of es m t) ≡ length es
  length-items [] = refl
  length-items (e ∷ es) = omega (arith, length-items es)

  -- ---- a look-up
  pub has-lookup : (k : Key) (es : Numbers) → has_key item_key (items_of es m t) k ≡ is_some (lookup (test k) es)
  unfolding has_key
  has-lookup k [] = refl
  has-lookup k (e ∷ es) =
      ap (λ b. b || has_key item_key (items_of es m t) k) (same_test k e.0)
      ∙ ap (λ b. test k e.0 || b) (has-lookup k es)
      ∙ sym (some_cond (test k e.0) e.1 (lookup (test k) es))

  -- ---- what a look-up finds is what the items have
  pub found-lookup : (es : Numbers) (k : Key) → found (items_of es m t) k ≡ option_map (λ n. (n, tag_in m t k)) (lookup (test k) es)
  unfolding found
  found-lookup [] k = refl
  found-lookup (e ∷ es) k = by (key_cmp k e.0) refl (found-lookup es k)
    where
      other : (o : Ordering) → key_cmp k e.0 ≡ o → is_eq o ≡ false
          → found (items_of es m t) k ≡ option_map (λ n. (n, tag_in m t k)) (lookup (test k) es)
          → found (items_of (e ∷ es) m t) k ≡ option_map (λ n. (n, tag_in m t k)) (lookup (test k) (e ∷ es))
      other o is differs rest =
          let here = ap is_eq is ∙ differs in
          let there = same_test k e.0 ∙ here in
          rw (here, there) rest

      by : (o : Ordering) → key_cmp k e.0 ≡ o → found (items_of es m t) k ≡ option_map (λ n. (n, tag_in m t k)) (lookup (test k) es)
          → found (items_of (e ∷ es) m t) k ≡ option_map (λ n. (n, tag_in m t k)) (lookup (test k) (e ∷ es))
      by Less is rest = other Less is refl rest
      by Equal is rest =
          let here : test k e.0 ≡ true = ap is_eq is in
          let there = same_test k e.0 ∙ here in
          rw (here, there) (ap (λ (q : Key). Some (e.1, tag_in m t q)) (sym (level_keys k e.0 is)))
      by Greater is rest = other Greater is refl rest

  pub number_told : (es : Numbers) (k : Key) (o : Option ℕ) → o ≡ lookup (test k) es
      → MatchOption o (has_key item_key (items_of es m t) k ≡ false) (λ n. (tag : Tag) × (found (items_of es m t) k ≡ Some (n, tag)))
  number_told es k None at = has-lookup k es ∙ ap is_some (sym at)
  number_told es k (Some n) at = (tag_in m t k, found-lookup es k ∙ ap (option_map (λ n. (n, tag_in m t k))) (sym at))
