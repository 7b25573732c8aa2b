-- Entries taken from the end of a walk, one after another.
use Rattle.std.proofs.Common.{◌≡◌, ◌⊎◌, ℕ, ◌+◌, ◌≤◌, true, false, List, [], ◌∷◌, ◌++◌, map, Option, None, Some, inl, inr, refl, sym, ap, ◌∙◌, subst, append_assoc, arith}
use Rattle.std.proofs.lemmas.List.{append-nil, map-append}
use Rattle.std.proofs.lemmas.List.Elements.{Contains-append_right}
use Rattle.std.specs.Cmp.{tied_itself}
use Rattle.std.specs.List.{filter, AllByRecursion}
use Rattle.std.specs.Ordering.{is_ge}
use Rattle.std.specs.declared.cmp.Ordering.TheVariants.{Less}
use Rattle.lists.proofs.Entries.{Contains-head}
use Rattle.fee_rate.specs.declared.rates.Sum.{Sum}
use Rattle.graphs.specs.Rates.{sum_of}
use Rattle.graphs.proofs.CornerLemmas.{size_of-cons}
use Rattle.chunk_index.specs.declared.entry.Entry.{Entry}
use Rattle.chunk_index.specs.declared.key.Key.{Key}
use Rattle.chunk_index.specs.KeyLaws.{key_cmp_total}
use Rattle.chunk_index.specs.KeyOrder.{key_cmp}
use Rattle.chunk_index.specs.Keys.{IsInOrder, key_of, not_before}
use Rattle.chunk_index.proofs.Lists.{turned}
use Rattle.cluster_store.specs.Rates.{AreTaken, EndPaid, IsFirstOfTail, IsTail, entry_rate}
use Rattle.cluster_store.proofs.Walks.{all_at}

at_itself : (k : Key) → is_ge (key_cmp k k) ≡ true
at_itself k = ap is_ge (tied_itself key_cmp_total k)

stands_before : (k l : Key) → key_cmp k l ≡ Less → is_ge (key_cmp k l) ≡ false
stands_before k l less = ap is_ge less

is_behind : (k l : Key) → key_cmp k l ≡ Less → is_ge (key_cmp l k) ≡ true
is_behind k l less = ap is_ge (turned k l Less less)

pub taken_none : (size : ℕ) (all : List Entry) → AreTaken size size all all None
taken_none size all = record { tail = []; is = sym (append-nil all); starts = refl; sizes = omega arith }

pub taken_more : (size short less : ℕ) (all left more : List Entry) (first : Option Entry) (entry : Entry) → AreTaken size short all left first
    → left ≡ more ++ entry ∷ [] → short ≤ less + entry.rate.size → AreTaken size less all more (Some entry)
taken_more size short less all left more first entry taken is lacks = record {
  tail = entry ∷ taken.tail;
  is = taken.is ∙ ap (λ (xs : List Entry). xs ++ taken.tail) is ∙ append_assoc more (entry ∷ []) taken.tail;
  starts = (taken.tail, refl);
  sizes = omega (arith, taken.sizes, lacks, size_of-cons (entry_rate entry) (map entry_rate taken.tail));
}

pub taken_enough : (size short : ℕ) (all left : List Entry) (first : Option Entry) → AreTaken size short all left first
    → (short ≡ 0) ⊎ EndPaid (map entry_rate left) → IsFirstOfTail size all first
taken_enough size short all left first taken why = record {
  upper = left;
  tail = taken.tail;
  is = taken.is;
  starts = taken.starts;
  enough = elim why [ inl none ↦ inr (omega (arith, taken.sizes, none)) | inr paid ↦ inl paid ];
}

-- ---- a walk from the first of them on

-- what stands in key order is behind a key from its item on
pub from_first : (upper rest : List Entry) (first : Entry) → IsInOrder key_of (upper ++ first ∷ rest)
    → not_before key_of (upper ++ first ∷ rest) (key_of first) ≡ first ∷ rest
unfolding not_before IsInOrder
from_first [] rest first order = rw (at_itself (key_of first)) (ap (λ (xs : List Entry). first ∷ xs) (all_behind rest order.0))
  where
    all_behind : (ys : List Entry) → AllByRecursion (λ (y : Entry). key_cmp (key_of first) (key_of y) ≡ Less) ys
        → filter (λ (y : Entry). is_ge (key_cmp (key_of y) (key_of first))) ys ≡ ys
    all_behind [] less = refl
    all_behind (y ∷ ys) less = rw (is_behind (key_of first) (key_of y) less.0) (ap (λ (xs : List Entry). y ∷ xs) (all_behind ys less.1))
from_first (x ∷ upper) rest first order =
    rw (stands_before (key_of x) (key_of first) (all_at (λ (y : Entry). key_cmp (key_of x) (key_of y) ≡ Less) (upper ++ first ∷ rest) first order.0
    (Contains-append_right upper (first ∷ rest) first (Contains-head first rest)))) (from_first upper rest first order.1)

-- such a walk shows the tail
pub walk_is_tail : (size : ℕ) (all : List Entry) (first : Entry) → IsInOrder key_of all → (at_end : IsFirstOfTail size all (Some first))
    → not_before key_of all (key_of first) ≡ at_end.tail
walk_is_tail size all first order at_end =
    let is : all ≡ at_end.upper ++ first ∷ at_end.starts.0 = at_end.is ∙ ap (λ (xs : List Entry). at_end.upper ++ xs) at_end.starts.1 in
    ap (λ (xs : List Entry). not_before key_of xs (key_of first)) is
    ∙ from_first at_end.upper at_end.starts.0 first (subst (IsInOrder key_of) is order) ∙ sym at_end.starts.1

-- the rates of such entries are a tail of the rates of all
pub rates_are_tail : (size : ℕ) (all : List Entry) (rates walk : List Sum) (first : Option Entry) → map entry_rate all ≡ rates
    → (at_end : IsFirstOfTail size all first) → walk ≡ map entry_rate at_end.tail → IsTail size rates walk
rates_are_tail size all rates walk first told at_end same = record {
  upper = map entry_rate at_end.upper;
  is = sym told ∙ ap (map entry_rate) at_end.is ∙ map-append entry_rate at_end.upper at_end.tail
      ∙ ap (λ (xs : List Sum). map entry_rate at_end.upper ++ xs) (sym same);
  enough = elim at_end.enough [
    | inl paid ↦ inl paid
    | inr large ↦ inr (subst (λ (xs : List Sum). size ≤ (sum_of xs).size) (sym same) large)
  ];
}
