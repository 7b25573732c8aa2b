use Rattle.std.proofs.Common.{ℕ, ◌<◌, arith, length, refl, sym, subst}
use Rattle.std.specs.Prelude.{IsSome, MatchBool}
use Rattle.certificate.specs.Orders.{IsOrderOf, AreSeats, AreTaken, AreRanks, seat_at}
use Rattle.certificate.specs.Tables.{names_of}
use Rattle.certificate.proofs.GraphLemmas.{same_answer}
use Rattle.certificate.proofs.Seats.{ranks_all, order_all, all_have_seats, written_back}
use Rattle.certificate.proofs.order.is_order.Goals as goal

pub returns-then-take_seats-clause-order : goal.returns-then-take_seats-clause-order
returns-then-take_seats-clause-order c =
    let names = names_of c.args.txs.now in
    let order = c.args.desk.now.order.items in
    let same = written_back _ c.take_seats.new.seats _ _ c.as_slice-then-take_seats.ensures.value (omega arith) in
    let seats = c.as_slice-then-take_seats.result.now in
    let seated : AreSeats names order seats = subst (λ s. AreSeats names order s) (sym same)
    (subst (λ o. AreSeats names o c.take_seats.new.seats) c.as_slice.ensures.value c.if-take_seats.ensures) in
    same_answer c.take_ranks.result (AreTaken seats c.take_ranks.new.ranks) ((place : ℕ) → place < length seats → IsSome (seat_at seats place))
    (IsOrderOf names order) (order_all _ _ c.take_ranks.new.ranks _ _ c.requires.places seated) (all_have_seats _ _ _ _ c.requires.places seated)
    c.take_ranks.ensures

pub returns-then-take_seats-clause-ranks : goal.returns-then-take_seats-clause-ranks
returns-then-take_seats-clause-ranks c t =
    let names = names_of c.args.txs.now in
    let order = c.args.desk.now.order.items in
    let same = written_back _ c.take_seats.new.seats _ _ c.as_slice-then-take_seats.ensures.value (omega arith) in
    let seats = c.as_slice-then-take_seats.result.now in
    let seated : AreSeats names order seats = subst (λ s. AreSeats names order s) (sym same)
    (subst (λ o. AreSeats names o c.take_seats.new.seats) c.as_slice.ensures.value c.if-take_seats.ensures) in
    let taken : AreTaken seats c.take_ranks.new.ranks =
    subst (λ b. MatchBool b (AreTaken seats c.take_ranks.new.ranks) (((place : ℕ) → place < length seats → IsSome (seat_at seats place)) → ⊥)) t c.take_ranks.ensures in
    let back = written_back c.args.desk.now.ranks.len c.take_ranks.new.ranks c.args.desk.now.ranks.items _ refl (omega arith) in
    subst (λ r. AreRanks names order r) (sym back) (ranks_all names order c.take_ranks.new.ranks seats seated taken)
