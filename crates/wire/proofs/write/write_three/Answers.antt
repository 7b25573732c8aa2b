use Rattle.std.proofs.Common.{◌≡◌, List, ℕ, ◌++◌, ◌∷◌, [], ap, refl, append_assoc}
use Rattle.wire.proofs.WriteLemmas.{writes_on}
use Rattle.wire.proofs.write.write_three.Goals as goal

pub returns : goal.returns
returns g c =
    let head = c.args.head.now in
    let a = g.A.Integer.text c.args.first in
    let b = g.B.Integer.text c.args.second in
    let d = g.C.Integer.text c.args.third in
    let text : head ++ 32 ∷ (a ++ 32 ∷ (b ++ 32 ∷ d)) ≡ ((c.as_bytes.result.now ++ 32 ∷ a) ++ 32 ∷ b) ++ 32 ∷ d =
    rw c.as_bytes.ensures.value (simp append_assoc) in
    let one = writes_on _ _ _ _ _ _ _ _ _ _ _ c.write_all-so_far.ensures c.more_number-so_far.ensures refl in
    let two = writes_on _ _ _ _ _ _ _ _ _ _ _ one c.more_number-so_far-2.ensures refl in
    let three = writes_on _ _ _ _ _ _ _ _ _ _ _ two c.more_number-so_far-3.ensures refl in
    writes_on _ _ _ _ _ _ _ _ _ _ _ three c.more.ensures (ap (λ (xs : List ℕ). xs ++ 10 ∷ []) text)
