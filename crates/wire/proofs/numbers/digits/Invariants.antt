use Rattle.std.proofs.Common.{◌≡◌, ◌<◌, drop}
use Rattle.std.specs.Str.{all_ascii_digits}
use Rattle.wire.specs.Digits.{read_on}
use Rattle.wire.proofs.numbers.digits.Given as goal

-- what was read is digits, and reading on from its value gives the value of all
abbrev pub invariant-loop-byte : goal.invariant-loop-byte
invariant-loop-byte g l = record {
  digits : all_ascii_digits l.bytes ≡ all_ascii_digits (drop l.byte-index l.bytes);
  value : read_on 0 l.bytes ≡ read_on (g.N.Magnitude.value l.value) (drop l.byte-index l.bytes);
  small : g.N.Magnitude.value l.value < g.N.Magnitude.limit;
}
