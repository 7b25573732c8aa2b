use Rattle.std.proofs.Common.{rules, sym, ap, ◌∙◌, ◌*◌, arith, ◌≡◌, length, [], ◌∷◌, ◌<◌}
use Rattle.bitset.specs.Places.{places}
use Rattle.bitset.specs.Sets.{places-least, places-empty}
use Rattle.bitset.proofs.bits.BitsIterIterator.next.Goals as goal

pub returns-in_err-place-clause-steps : goal.returns-in_err-place-clause-steps
returns-in_err-place-clause-steps g c =
    let none : c.args.self.now ≡ [] = sym c.self.view_is ∙ ap (places (64 * g.row.W)) c.in_err-place.ensures.least ∙ places-empty (64 * g.row.W) in
    rw c.from_residual.ensures (none, none)

left : (g : _) (c : goal.After-remove g) → c.args.self.now ≡ c.in_ok-place.place ∷ places (64 * g.row.W) c.remove.new.self
left g c =
    sym c.self.view_is
    ∙ places-least (64 * g.row.W) c.self.inside.left c.in_ok-place.place c.in_ok-place.ensures.least
    (c.in_ok-place.ensures.within c.in_ok-place.place c.in_ok-place.ensures.least.member)
    ∙ ap (λ s. c.in_ok-place.place ∷ places (64 * g.row.W) s) (sym c.remove.ensures)

pub returns-clause-steps : goal.returns-clause-steps
returns-clause-steps g c = left g c

pub returns-clause-goes : goal.returns-clause-goes
returns-clause-goes g c =
    let shorter : length (places (64 * g.row.W) c.remove.new.self) < length c.args.self.now = omega (arith, ap length (left g c)) in
    search rules
