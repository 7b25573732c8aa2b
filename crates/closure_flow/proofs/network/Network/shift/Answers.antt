use Rattle.std.proofs.Common.{◌≡◌, ℕ, ◌*◌, ◌<◌, set, sym, ap, ◌∙◌, subst, rules, arith, length, SFits, ℤ, pos, ◌+ℤ◌, ◌-ℤ◌, to_z, of_z}
use Rattle.std.proofs.lemmas.Int.{ints}
use Rattle.std.specs.Int.{w128}
use Rattle.closure_flow.specs.Closures.{weight_at}
use Rattle.closure_flow.specs.Networks.{IsOver, IsShort}
use Rattle.closure_flow.proofs.Marks.{marked_twice}
use Rattle.closure_flow.proofs.Networks.{read_rest, shifted, sized_rests}
use Rattle.closure_flow.proofs.network.Network.shift.Goals as goal

pub overflow_sub-left : goal.overflow_sub-left
overflow_sub-left g c =
    let fine : SFits w128 c.index.result.now = search rules in
    let left = read_rest (64 * g.row.W) _ _ _ c.args.from _ c.args.self.now.sized (c.args.self.now.inside _ c.requires.from) c.index.ensures in
    let enough = c.requires.enough in
    omega (arith, ints, left, enough)

pub overflow_add-held : goal.overflow_add-held
overflow_add-held g c =
    let n : ℕ = 64 * g.row.W in
    let fine : SFits w128 c.index.result.now = search rules in
    let fits : SFits w128 c.index-2.result.now = search rules in
    let left = read_rest n _ _ _ c.args.from _ c.args.self.now.sized (c.args.self.now.inside _ c.requires.from) c.index.ensures in
    let held = read_rest n _ _ _ c.args.to _ c.args.self.now.sized (c.args.self.now.inside _ c.requires.to) c.index-2.ensures in
    let enough = c.requires.enough in
    let room = c.requires.room in
    omega (arith, ints, left, held, enough, room)

pub invariant_of-self : goal.invariant_of-self
invariant_of-self g c =
    let n : ℕ = 64 * g.row.W in
    let self = c.args.self.now in
    let hf : c.args.from < length self.rest.items = subst (λ (m : ℕ). c.args.from < m) (sym self.sized.rests) (self.inside _ c.requires.from) in
    let ht : c.args.to < length self.rest.items = subst (λ (m : ℕ). c.args.to < m) (sym self.sized.rests) (self.inside _ c.requires.to) in
    let o = c.marked_over-over.ensures in
    let p = c.marked_over-self.ensures in
    let s = c.marked_short-short.ensures in
    let q = c.marked_short-self.ensures in
    record {
      sized = sized_rests n _ _ _ c.args.from c.args.to _ _ self.sized;
      lean = self.lean;
      inside = self.inside;
      over_is =
          marked_twice self.within self.over _ _ self.rest.items c.args.from c.args.to _ _ IsOver self.over_is hf ht c.requires.from c.requires.to
          (record { other = o.other; sound = o.sound; complete = o.complete }) (record { other = p.other; sound = p.sound; complete = p.complete });
      short_is =
          marked_twice self.within self.short _ _ self.rest.items c.args.from c.args.to _ _ IsShort self.short_is hf ht c.requires.from c.requires.to
          (record { other = s.other; sound = s.sound; complete = s.complete }) (record { other = q.other; sound = q.sound; complete = q.complete });
    }

pub returns-clause-rest : goal.returns-clause-rest
returns-clause-rest g c t h =
    let n : ℕ = 64 * g.row.W in
    let r = c.args.self.now.rest.items in
    let inside = c.args.self.now.inside in
    let fine_left : SFits w128 c.index.result.now = search rules in
    let fine_held : SFits w128 c.index-2.result.now = search rules in
    let left = read_rest n _ _ r c.args.from _ c.args.self.now.sized (inside _ c.requires.from) c.index.ensures in
    let held = read_rest n _ _ r c.args.to _ c.args.self.now.sized (inside _ c.requires.to) c.index-2.ensures in
    let enough = c.requires.enough in
    let room = c.requires.room in
    let one : to_z w128 (of_z w128 (to_z w128 (of_z w128 c.index.result.now) -ℤ to_z w128 c.args.amount))
    ≡ weight_at r c.args.from -ℤ pos c.args.amount = omega (arith, ints, left, enough) in
    let two : to_z w128 (of_z w128 (to_z w128 (of_z w128 c.index-2.result.now) +ℤ to_z w128 c.args.amount))
    ≡ weight_at r c.args.to +ℤ pos c.args.amount = omega (arith, ints, left, held, enough, room) in
    ap (λ (y : ℤ). weight_at (set (set r c.args.from y) c.args.to
    (to_z w128 (of_z w128 (to_z w128 (of_z w128 c.index-2.result.now) +ℤ to_z w128 c.args.amount)))) t) one
    ∙ ap (λ (y : ℤ). weight_at (set (set r c.args.from (weight_at r c.args.from -ℤ pos c.args.amount)) c.args.to y) t) two
    ∙ shifted r c.args.from c.args.to c.args.amount t
    (subst (λ (m : ℕ). c.args.from < m) (sym c.args.self.now.sized.rests) (inside _ c.requires.from))
    (subst (λ (m : ℕ). c.args.to < m) (sym c.args.self.now.sized.rests) (inside _ c.requires.to)) c.requires.apart
