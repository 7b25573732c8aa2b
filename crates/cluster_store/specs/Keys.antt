-- The key of a part.
use Rattle.std.specs.Prelude.{ℕ}
use Rattle.graphs.specs.Certificates.{Part}
use Rattle.chunk_index.specs.declared.key.Key.{Key}

abbrev pub key_part : ℕ → ℕ → Part → Key
key_part number position part = record {
  rate = record { fee = part.rate.fee; size = part.rate.size };
  serial = number;
  position = position;
}
