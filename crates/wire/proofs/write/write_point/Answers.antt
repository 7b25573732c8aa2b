use Rattle.std.proofs.Common.{◌++◌, ◌∷◌, ap, sym, refl, rules, append_assoc, codes, decimal, FitsSigned}
use Rattle.std.specs.Int.{w128}
use Rattle.std.specs.Fmt.{signed_decimal}
use Rattle.std.proofs.lemmas.Int.{to_z-of_z}
use Rattle.wire.proofs.WriteLemmas.{writes_on}
use Rattle.wire.proofs.write.write_point.Goals as goal

pub returns : goal.returns
returns g c =
    let fits : FitsSigned w128 c.args.fee = search rules in
    let front = codes "point" ++ 32 ∷ decimal c.args.size in
    let one = writes_on _ _ _ _ _ _ _ _ _ _ _ c.write_all-so_far.ensures c.more_number-so_far.ensures refl in
    let two = writes_on _ _ _ _ _ _ _ _ _ _ _ one c.more_number-so_far-2.ensures
    (ap (λ z. front ++ 32 ∷ signed_decimal z) (sym (to_z-of_z w128 c.args.fee fits))) in
    writes_on _ _ _ _ _ _ _ _ _ _ _ two c.more.ensures (simp append_assoc)
