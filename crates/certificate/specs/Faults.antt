-- Answers of a test: the test passes, or it fails, or there was no memory.
use Rattle.std.specs.Prelude.{◌≡◌}
use Rattle.certificate.specs.declared.fault.CheckFault.{CheckFault}
use Rattle.certificate.specs.declared.fault.CheckFault.TheVariants.{Order, Falling, Flow, Graph, Memory}

-- The fault is want of memory; or the fault is this one, and the tested statement doesn't hold.
abbrev pub Says : CheckFault → Type 0 → CheckFault → Type 0
Says mine Tested Memory = Unit {0}
Says mine Tested Order = (mine ≡ Order) × (Tested → ⊥)
Says mine Tested Falling = (mine ≡ Falling) × (Tested → ⊥)
Says mine Tested Flow = (mine ≡ Flow) × (Tested → ⊥)
Says mine Tested Graph = (mine ≡ Graph) × (Tested → ⊥)
