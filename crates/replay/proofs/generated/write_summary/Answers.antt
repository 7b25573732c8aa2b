use Rattle.std.proofs.Common.{Ok, List, ℕ, [], ◌∷◌, codes, decimal, refl}
use Rattle.std.specs.Fmt.{signed_decimal}
use Rattle.graph_model.specs.Words.{spaced}
use Rattle.replay.proofs.WritingLemmas.{lines_on}
use Rattle.replay.proofs.generated.write_summary.Goals as goal

pub returns : goal.returns
returns g c =
    let t = c.args.tally.now in
    let m = c.args.totals.now in
    let accepted : List ℕ = spaced (codes "accepted" ∷ decimal t.accepted ∷ []) in
    let refused : List ℕ = spaced (codes "refused" ∷ decimal t.refused ∷ []) in
    let memory : List ℕ = spaced (codes "memory" ∷ decimal t.memory ∷ []) in
    let count : List ℕ = spaced (codes "count" ∷ decimal m.count ∷ []) in
    let total : List ℕ = spaced (codes "total" ∷ signed_decimal m.total.fee ∷ decimal m.total.size ∷ []) in
    let corners : List ℕ = spaced (codes "corners" ∷ decimal m.corners ∷ []) in
    let two = lines_on _ _ _ _ _ _ (Ok tt) _ _ (accepted ∷ []) (refused ∷ []) (accepted ∷ refused ∷ []) c.more-accepted.ensures c.more-refused.ensures refl in
    let three = lines_on _ _ _ _ _ _ (Ok tt) _ _ (accepted ∷ refused ∷ []) (memory ∷ []) (accepted ∷ refused ∷ memory ∷ []) two c.more-memory.ensures refl in
    let four = lines_on _ _ _ _ _ _ (Ok tt) _ _ (accepted ∷ refused ∷ memory ∷ []) (count ∷ []) (accepted ∷ refused ∷ memory ∷ count ∷ []) three
    c.more-count.ensures refl in
    let five = lines_on _ _ _ _ _ _ (Ok tt) _ _ (accepted ∷ refused ∷ memory ∷ count ∷ []) (total ∷ [])
    (accepted ∷ refused ∷ memory ∷ count ∷ total ∷ []) four c.more-total.ensures refl in
    lines_on _ _ _ _ _ _ (Ok tt) _ _ (accepted ∷ refused ∷ memory ∷ count ∷ total ∷ []) (corners ∷ [])
    (accepted ∷ refused ∷ memory ∷ count ∷ total ∷ corners ∷ []) five c.more.ensures refl
