-- What is said of a slot.
use Rattle.std.proofs.Common.{◌≡◌, ℕ, Option, Some, sym, subst}
use Rattle.desk.specs.declared.desk.Desk.{Desk}
use Rattle.txgraph_c.specs.Slots.{OfSlot}

-- a slot that has a desk before and after
pub of_slot : (old new : Option Desk) (code : ℕ) (Rest : Type 0) (Does : Desk → Desk → Type 0) (o n : Desk) → old ≡ Some o → new ≡ Some n → Does o n
    → OfSlot old new code Rest Does
of_slot old new code Rest Does o n was is does =
    subst (λ (s : Option Desk). OfSlot s new code Rest Does) (sym was) (subst (λ (s : Option Desk). OfSlot (Some o) s code Rest Does) (sym is) does)
