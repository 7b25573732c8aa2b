-- The name of the least place comes, and the others are left.
use Rattle.std.proofs.Common.{rules, ◌≡◌, ◌*◌, ◌<◌, [], ◌∷◌, length, map, slice_index, sym, ap, ◌∙◌, arith}
use Rattle.std.specs.Cmp.{nat_cmp_total}
use Rattle.std.specs.FinSet as set
use Rattle.std.proofs.lemmas.Bool.{and_parts}
use Rattle.bitset.specs.Places.{places}
use Rattle.bitset.specs.Sets.{places-least, places-empty}
use Rattle.cluster.proofs.ancestors.AncestorsIterator.next.Goals as goal

pub returns-in_err-place-clause-steps : goal.returns-in_err-place-clause-steps
returns-in_err-place-clause-steps g c =
    let none : c.args.self.now ≡ [] =
    sym c.self.view_is ∙ ap (λ s. map (slice_index c.self.inside.names.now) (places (64 * g.row.W) s)) c.in_err-place.ensures.least
    ∙ ap (map (slice_index c.self.inside.names.now)) (places-empty (64 * g.row.W)) in
    rw c.from_residual.ensures (none, none)

pub invariant_of-self : goal.invariant_of-self
invariant_of-self g c p here =
    c.self.invariant p (and_parts _ (set.contains c.self.inside.left p)
    (sym (ap (λ s. set.contains s p) c.remove.ensures ∙ set.contains-remove nat_cmp_total c.self.inside.left c.in_ok-place.place p) ∙ here)).1

left : (g : _) (c : goal.After-result-1 g) → c.args.self.now
    ≡ slice_index c.self.inside.names.now c.in_ok-place.place ∷ map (slice_index c.self.inside.names.now) (places (64 * g.row.W) c.remove.new.self)
left g c =
    sym c.self.view_is
    ∙ ap (map (slice_index c.self.inside.names.now)) (places-least (64 * g.row.W) c.self.inside.left c.in_ok-place.place c.in_ok-place.ensures.least
    (c.in_ok-place.ensures.within c.in_ok-place.place c.in_ok-place.ensures.least.member))
    ∙ ap (λ s. slice_index c.self.inside.names.now c.in_ok-place.place ∷ map (slice_index c.self.inside.names.now) (places (64 * g.row.W) s))
    (sym c.remove.ensures)

pub returns-clause-steps : goal.returns-clause-steps
returns-clause-steps g c = left g c

pub returns-clause-goes : goal.returns-clause-goes
returns-clause-goes g c =
    let shorter : length (map (slice_index c.self.inside.names.now) (places (64 * g.row.W) c.remove.new.self)) < length c.args.self.now =
    omega (arith, ap length (left g c)) in
    search rules
