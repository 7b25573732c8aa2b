-- Names with the numbers of their clusters, one more after another, and by rising number.
use Rattle.std.proofs.Common.{◌≡◌, ℕ, ◌+◌, ◌<◌, List, [], ◌∷◌, ◌++◌, length, get_or, take, map, Contains, Some, inl, inr, sym, subst, arith}
use Rattle.std.specs.FinMap as finmap
use Rattle.std.specs.List.Sorted.{IsNonDecreasingBy, IsPermutation}
use Rattle.std.proofs.lemmas.List.{map-append, take_more}
use Rattle.std.proofs.lemmas.List.Elements.{Contains-append_left, Contains-append_right, Contains-append_cases}
use Rattle.std.proofs.lemmas.List.Sorted.{Contains-permutation, IsPermutation-map, IsPermutation-sym}
use Rattle.lists.proofs.Entries.{Contains-one}
use Rattle.graphs.specs.declared.names.Level.TheVariants.{Top}
use Rattle.levels.specs.Lefts.{AreListed, AreNumbered}
use Rattle.levels.specs.Shelves.{Shelf, numbers_at}

-- one name more
pub one_numbered : (shelf : Shelf) (ids : List ℕ) (listed : List (ℕ × ℕ)) (i d number : ℕ) → i < length ids
    → finmap.get (numbers_at Top shelf) (get_or ids i d) ≡ Some number → AreNumbered shelf (take i ids) listed
    → AreNumbered shelf (take (i + 1) ids) (listed ++ (number, get_or ids i d) ∷ [])
one_numbered shelf ids listed i d number low at are =
    let id : ℕ = get_or ids i d in
    let next : take (i + 1) ids ≡ take i ids ++ id ∷ [] = take_more ids i d low in
    let names : map (λ e. e.1) (listed ++ (number, id) ∷ []) ≡ map (λ e. e.1) listed ++ id ∷ [] =
    map-append (λ (e : ℕ × ℕ). e.1) listed ((number, id) ∷ []) in
    record {
      exact = λ q. (
        λ here. subst (λ (xs : List ℕ). Contains xs q) (sym names)
            (elim (Contains-append_cases (take i ids) (id ∷ []) q (subst (λ (xs : List ℕ). Contains xs q) next here)) [
              | inl old ↦ Contains-append_left (map (λ (e : ℕ × ℕ). e.1) listed) (id ∷ []) q ((are.exact q).0 old)
              | inr new ↦ Contains-append_right (map (λ (e : ℕ × ℕ). e.1) listed) (id ∷ []) q new
            ]),
        λ there. subst (λ (xs : List ℕ). Contains xs q) (sym next)
            (elim (Contains-append_cases (map (λ (e : ℕ × ℕ). e.1) listed) (id ∷ []) q (subst (λ (xs : List ℕ). Contains xs q) names there)) [
              | inl old ↦ Contains-append_left (take i ids) (id ∷ []) q ((are.exact q).1 old)
              | inr new ↦ Contains-append_right (take i ids) (id ∷ []) q new
            ]),
      );
      there = λ e here. elim (Contains-append_cases listed ((number, id) ∷ []) e here) [
        | inl old ↦ are.there e old
        | inr new ↦ subst (λ (x : ℕ × ℕ). finmap.get (numbers_at Top shelf) x.1 ≡ Some x.0) (Contains-one (number, id) e new) at
      ];
    }

-- in another order, by rising number
pub listed_sorted : (shelf : Shelf) (ids : List ℕ) (xs ys : List (ℕ × ℕ)) → AreNumbered shelf ids xs → IsPermutation xs ys
    → IsNonDecreasingBy (λ e. e.0) ys → AreListed shelf ids ys
listed_sorted shelf ids xs ys are moved rises =
    let names : IsPermutation (map (λ e. e.1) xs) (map (λ e. e.1) ys) = IsPermutation-map (λ (e : ℕ × ℕ). e.1) xs ys moved in
    let back : IsPermutation (map (λ e. e.1) ys) (map (λ e. e.1) xs) =
    IsPermutation-sym (map (λ (e : ℕ × ℕ). e.1) xs) (map (λ (e : ℕ × ℕ). e.1) ys) names in
    record {
      numbered = record {
        exact = λ id. (
          λ here. Contains-permutation (map (λ (e : ℕ × ℕ). e.1) xs) (map (λ (e : ℕ × ℕ). e.1) ys) id names ((are.exact id).0 here),
          λ there. (are.exact id).1 (Contains-permutation (map (λ (e : ℕ × ℕ). e.1) ys) (map (λ (e : ℕ × ℕ). e.1) xs) id back there),
        );
        there = λ e here. are.there e (Contains-permutation ys xs e (IsPermutation-sym xs ys moved) here);
      };
      rising = λ i j d before low. rises i j d (omega (arith, before)) low;
    }
