-- Parts as the definitions see them.
use Rattle.std.specs.Prelude.{ℕ, List, [], map, flat_map, slice_index_or}
use Rattle.graphs.specs.declared.names.Flow.{Flow}
use Rattle.graphs.specs.Certificates as model
use Rattle.certificate.specs.declared.owned.Part.{Part}

abbrev pub part_of : Part → model.Part
part_of part = record { rate = part.rate; ids = part.ids; flows = part.flows }

abbrev pub parts_of : List Part → List model.Part
parts_of parts = map part_of parts

-- The names of all parts, in their order.
abbrev pub order_of : List Part → List ℕ
order_of parts = flat_map (λ part. part.ids) parts

-- The names of the part at a position.
abbrev pub ids_at : List Part → ℕ → List ℕ
ids_at parts k = slice_index_or (map (λ part. part.ids) parts) k []

-- The flows of the part at a position.
abbrev pub flows_at : List Part → ℕ → List Flow
flows_at parts k = slice_index_or (map (λ part. part.flows) parts) k []
