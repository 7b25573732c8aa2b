-- The names behind the piece aren't in the set, which has those of the piece.
use Rattle.std.proofs.Common.{◌≡◌, true≢false, sym, ◌∙◌, subst, arith}
use Rattle.repeats.specs.Places.{NoneAgain}
use Rattle.repeats.proofs.Again.{none_behind}
use Rattle.repeats.proofs.pieces.first_again.Goals as goal

pub returns-clause-none : goal.returns-clause-none
returns-clause-none c =
    let all : c.fill-own.result ≡ c.args.end = omega (arith, c.fill-own.ensures.within, c.if-own-end.false) in
    none_behind c.args.ids.now c.args.start c.args.end c.first_seen.result
    (subst (NoneAgain c.args.ids.now c.args.start c.args.end) all c.fill-own.ensures.none)
    (λ j late low here. true≢false (sym ((c.fill-own.ensures.seen _).1 (rw all here)) ∙ c.first_seen.ensures.none j late low))
