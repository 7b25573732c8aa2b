-- Rows as they are read in a slice, and as a slice gives them back to its list.
use Rattle.std.proofs.Common.{◌≡◌, ℕ, ◌*◌, ◌^◌, ◌<◌, ◌≤◌, List, [], ◌∷◌, ◌++◌, length, set, slice_index_or, take, drop, inl, refl, sym, ap, ◌∙◌, arith}
use Rattle.std.proofs.Math.Nat.{mul-le-mul_left}
use Rattle.std.proofs.lemmas.List.{get_or_read_under, get_or-set_same, get_or-set_other, length-set}
use Rattle.std.proofs.Math.Seq.{take-append_seam}
use Rattle.std.specs.List.{refill}
use Rattle.dep_graph.specs.declared.rows.Row.{Row}
use Rattle.dep_graph.specs.Rows.{no_row, row_at}
use Rattle.dep_graph.specs.Changes.{PutsAt}

pub row_read : {W : ℕ} (rows : List (Row W)) (p : ℕ) (row : Row W) → row ≡ slice_index_or rows p row → p < length rows → row ≡ row_at rows p
row_read rows p row e low = get_or_read_under rows p (length rows) row no_row e low refl

-- where the slice is the list
pub row_lent : {W : ℕ} (slice rows : List (Row W)) (p : ℕ) (row : Row W) → slice ≡ rows → row ≡ slice_index_or slice p row → p < length rows
    → row ≡ row_at rows p
row_lent slice rows p row same e low = row_read rows p row (e ∙ ap (λ xs. slice_index_or xs p row) same) low

pub row_there_lent : {W : ℕ} (slice rows : List (Row W)) (p : ℕ) → slice ≡ rows → p < length rows → p < length slice
row_there_lent slice rows p same low = omega (arith, ap length same)

-- the row of an index that is written, whatever stands behind the end
pub row_written : {W : ℕ} (rows : List (Row W)) (p : ℕ) (row : Row W) → row ≡ slice_index_or rows p row → p < length rows
    → slice_index_or rows p row ≡ row_at rows p
row_written rows p row e low = sym e ∙ row_read rows p row e low

-- a slice of the same length takes the place of the whole list
pub refilled : {W : ℕ} (n : ℕ) (old new : List (Row W)) → n ≡ length old → length new ≡ length old → refill n old new ≡ new
refilled n old new long same = ap (λ m. take m (new ++ drop (length new) old)) (long ∙ sym same) ∙ take-append_seam new (drop (length new) old)

pub written_lent : {W : ℕ} (slice rows : List (Row W)) (p : ℕ) (row : Row W) → slice ≡ rows → p < length rows
    → refill (length rows) rows (set slice p row) ≡ set rows p row
written_lent slice rows p row same low =
    refilled (length rows) rows (set slice p row) refl (length-set slice p row ∙ ap length same) ∙ ap (λ xs. set xs p row) same

pub PutsAt-set : {W : ℕ} (rows : List (Row W)) (p : ℕ) (row : Row W) → p < length rows → PutsAt p row rows (set rows p row)
PutsAt-set rows p row low = record {
  long = omega (arith, length-set rows p row);
  here = get_or-set_same rows p row no_row low;
  there = omega (arith, length-set rows p row);
  most = inl (omega (arith, length-set rows p row));
  others = λ q ne. get_or-set_other rows p q row no_row ne;
}

-- rows that take fewer than 2^63 bytes are few
pub few_rows : (len size : ℕ) → 16 ≤ size → len * size < 2 ^ 63 → len < 2 ^ 59
few_rows len size some bytes = let less : len * 16 ≤ len * size = mul-le-mul_left len some in omega arith
