-- How the parts of one level stand to those of another.
use Rattle.std.specs.Prelude.{List}
use Rattle.fee_rate.specs.declared.rates.Sum.{Sum}
use Rattle.graphs.specs.declared.names.Verdict.{Verdict}
use Rattle.graphs.specs.Certificates.{Part}
use Rattle.graphs.specs.Diagrams.{corners_of, Compares, JoinsEqualRates}
use Rattle.diagram.specs.Parts.{sums_of}

-- This is the verdict of the second parts' diagram over the first ones', where equal rates are joined.
abbrev pub ComparesParts : List Part → List Part → Verdict → Type 0
ComparesParts main top verdict =
    (before after : List Sum) → JoinsEqualRates (sums_of main) before → JoinsEqualRates (sums_of top) after
    → Compares (corners_of after) (corners_of before) verdict
