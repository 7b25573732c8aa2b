use Rattle.std.proofs.Common.{rules, arith, FitsSigned, w64}
use Rattle.std.proofs.lemmas.Int.{ints}
use Rattle.replacement.proofs.PartLists.{ends_by_last}
use Rattle.replacement.proofs.ends_non_negative.Goals as goal

pub returns-in-Some : goal.returns-in-Some
returns-in-Some c =
    let fits : FitsSigned w64 c.in-Some.last.now.fee = search rules in
    let both = ends_by_last c.args.parts.now c.in-Some.field-0-1.now c.in-Some.last.now c.in-Some.ensures.cases.0 in
    (λ h. both.0 (grind (arith, ints, h)), λ ends. let pays = both.1 ends in grind (arith, ints, pays))
