use Rattle.std.proofs.Common.{◌≡◌, ℕ, ◌+◌, List, ◌++◌, length, sym, ap, subst, subst₂, ◌∙◌, arith}
use Rattle.graphs.specs.Rooms.{Room}
use Rattle.plain_graph.specs.declared.tx.Tx.{Tx}
use Rattle.plain_graph.specs.Sound.{IsSound}
use Rattle.plain_graph.proofs.plain.Plain.copied.Goals as goal

pub invariant_of-result : goal.invariant_of-result
invariant_of-result c =
    let txs : c.extend_from_slice.new.self.items ≡ c.self.inside.txs.items =
    c.in_ok-extend_from_slice.ensures.items ∙ ap (λ (xs : List Tx). xs ++ c.deref.result.now) c.new-txs.ensures.items ∙ c.deref.ensures.value in
    let pairs : c.extend_from_slice-2.new.self.items ≡ c.self.inside.pairs.items =
    c.in_ok-extend_from_slice-2.ensures.items ∙ ap (λ (xs : List (ℕ × ℕ)). xs ++ c.deref-2.result.now) c.new-pairs.ensures.items
    ∙ c.deref-2.ensures.value in
    let places : length c.in_ok-new.field-0.ids + c.in_ok-new.field-0.room ≡ length c.self.inside.found.ids + c.self.inside.found.room =
    omega (arith, ap (λ (room : Room). length room.ids + room.room) c.in_ok-new.ensures, c.capacity.ensures) in
    let sound : IsSound c.self.inside.limits c.extend_from_slice.new.self.items c.extend_from_slice-2.new.self.items
    (length c.in_ok-new.field-0.ids + c.in_ok-new.field-0.room) =
    subst (IsSound c.self.inside.limits c.extend_from_slice.new.self.items c.extend_from_slice-2.new.self.items) (sym places)
    (subst₂ (λ (ts : List Tx) (ps : List (ℕ × ℕ)). IsSound c.self.inside.limits ts ps (length c.self.inside.found.ids + c.self.inside.found.room))
    (sym txs) (sym pairs) c.self.invariant.sound) in
    record { sound = sound; noted = rw (txs, pairs) c.self.invariant.noted }
