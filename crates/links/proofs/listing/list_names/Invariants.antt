use Rattle.std.proofs.Common.{◌≡◌, map, slice_index, take}
use Rattle.std.specs.Prelude.{vec_capacity}
use Rattle.links.specs.Kept.{names_of}
use Rattle.links.proofs.listing.list_names.Given as goal

abbrev pub invariant-loop-place : goal.invariant-loop-place
invariant-loop-place l = record {
  names : l.listed.items ≡ map (slice_index (names_of l.txs)) (take l.place-index l.places);
  room : vec_capacity l.listed ≡ vec_capacity l.fn.listed;
}
