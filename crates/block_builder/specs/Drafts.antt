-- A block that is being filled: parts in their order, each with the mark whether it is taken.
use Rattle.std.specs.Prelude.{◌≡◌, ◌↔◌, ℕ, ℤ, ◌+◌, ◌*◌, ◌≤◌, unsigned_abs, Bool, true, List, [], ◌∷◌, ◌++◌, map, sum_by, Contains}
use Rattle.fee_rate.specs.declared.limits.TheConstants.{MAX_FEE}
use Rattle.graphs.specs.Certificates.{Part}
use Rattle.graphs.specs.Rates.{sum_of}
use Rattle.graph_model.specs.declared.names.Picked.{Picked}
use Rattle.graph_model.specs.Answers.{order_of}
use Rattle.graph_model.specs.Blocks.{taken_of}
use Rattle.cluster_store.specs.Stores.{Shown}
use Rattle.diagram.specs.Parts.{sums_of}
use Rattle.block_builder.specs.Building.{seen, TellsLeftOut}
use Rattle.block_builder.specs.declared.draft.Draft.{Draft}

-- what is told of the parts that were picked: their names in their order, with their fee and size together
pub record ArePicked (taken : List Part) (picked : Picked) : Type 0 where
  pub fee : picked.fee ≡ (sum_of (sums_of taken)).fee
  pub size : picked.size ≡ (sum_of (sums_of taken)).size
  pub ids : picked.ids ≡ order_of taken

-- the parts that are taken
abbrev pub took : List (Shown × Bool) → List Part
took gone = taken_of (map seen gone)

abbrev pub size_of : List Part → ℕ
size_of parts = sum_by (λ p. p.rate.size) parts

-- A part is to be taken behind others: each of them that is of its cluster was taken, and it fits into what those taken leave of the size.
abbrev pub MayTake : ℕ → List (Shown × Bool) → Shown → Type 0
MayTake limit before s =
    ((t : Shown) (was : Bool) → Contains before (t, was) → t.number ≡ s.number → was ≡ true) × (size_of (took before) + s.part.rate.size ≤ limit)

-- each part is taken exactly where it is to be
abbrev pub AreMarked : ℕ → List (Shown × Bool) → Type 0
AreMarked limit gone =
    (before after : List (Shown × Bool)) (s : Shown) (mark : Bool) → gone ≡ before ++ (s, mark) ∷ after → (mark ≡ true) ↔ MayTake limit before s

-- These names, this fee and what is left of the size are those of what is taken of some parts.
pub record Tells (limit : ℕ) (ids : List ℕ) (fee : ℤ) (left : ℕ) (gone : List (Shown × Bool)) : Type 0 where
  pub marked : AreMarked limit gone
  pub ids_are : ids ≡ order_of (took gone)
  pub fee_is : fee ≡ (sum_of (sums_of (took gone))).fee
  pub size_is : left + size_of (took gone) ≡ limit

-- And the fee is in range for the size, and the clusters are marked of which a part wasn't taken.
pub record IsDraft (limit : ℕ) (ids : List ℕ) (fee : ℤ) (left : ℕ) (marks : List Bool) (gone : List (Shown × Bool)) : Type 0 where
  pub tells : Tells limit ids fee left gone
  pub pays : unsigned_abs fee ≤ MAX_FEE * size_of (took gone)
  pub left_out : TellsLeftOut marks gone

-- so it is with a draft
abbrev pub Drafts : Draft → List (Shown × Bool) → Type 0
Drafts draft gone = IsDraft draft.limit draft.ids.items draft.fee draft.left draft.marks.items gone

-- a draft of some parts is one of these and one more
abbrev pub Offers : Shown → Draft → Draft → Type 0
Offers s old new = (gone : List (Shown × Bool)) → Drafts old gone → (mark : Bool) × Drafts new (gone ++ (s, mark) ∷ [])

-- the draft tells of all of some parts
abbrev pub IsFilled : Draft → List Shown → Type 0
IsFilled draft shown = (gone : List (Shown × Bool)) × (map (λ e. e.0) gone ≡ shown) × Tells draft.limit draft.ids.items draft.fee draft.left gone
