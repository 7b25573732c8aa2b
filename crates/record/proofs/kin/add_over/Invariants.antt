-- some were put behind the list, and the others are still to come
use Rattle.std.proofs.Common.{ℕ, Contains}
use Rattle.graphs.specs.Unions.{IsKin}
use Rattle.links.specs.Kept.{coming}
use Rattle.record.proofs.Kins.{IsPartway}
use Rattle.record.proofs.kin.add_over.Given as goal

abbrev pub invariant-loop-id : goal.invariant-loop-id
invariant-loop-id l = record {
  way : IsPartway (λ a. (id : ℕ) × Contains l.fn.ids id × IsKin l.fn.kin l.fn.links.pairs a id) l.yielded (coming l.id-iterator) l.fn.out.ids l.out.ids
      l.fn.out.room l.out.room;
}
