-- What numbers there are.
use Rattle.std.specs.Prelude.{ℕ, ◌+◌, List, length}
use Rattle.chunk_index.specs.declared.key.Key.{Key}
use Rattle.chunk_index.specs.declared.numbers.Numbers.{Numbers}
use Rattle.chunk_index.specs.declared.numbers.NumberSpan.{NumberSpan}
use Rattle.chunk_index.specs.Pairs.{all_numbers}
use Rattle.chunk_index.specs.Parts.{part_left}

abbrev pub listed : Numbers → List (Key × ℕ)
listed n = all_numbers n.map.entries n.late

-- how many there are, those counted twice that stand in both
abbrev pub count : Numbers → ℕ
count n = length n.map.entries + length n.late

abbrev pub span_left : NumberSpan → List (Key × ℕ)
span_left s = all_numbers s.map (part_left s.late)
