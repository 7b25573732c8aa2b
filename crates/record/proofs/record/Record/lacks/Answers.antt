-- What is asked of what is kept is what is asked of the record.
use Rattle.std.proofs.Common.{◌≡◌, ◌↔◌, ℕ, ◌*◌, Bool, true, subst, sym}
use Rattle.graphs.specs.Closures.{is_ancestor}
use Rattle.cluster.specs.Clusters.{Cluster}
use Rattle.record.proofs.Keeping.{over_held, over_is, within_is}
use Rattle.record.proofs.Listed.{over_above, over_lacks}
use Rattle.record.proofs.record.Record.lacks.Goals.{in-Within, in-Over}
use Rattle.record.proofs.record.Record.lacks.Goals as goal

pub lacks_over-requires-clause-known : goal.lacks_over-requires-clause-known
lacks_over-requires-clause-known g c =
    let held = over_held (64 * g.row.W) c.self.inside.kept c.in-Over.over c.deref_mut.result.now c.in-Over.is c.deref_mut.ensures.value c.self.invariant.2 in
    let is = over_is c.self.inside.kept c.in-Over.over c.deref_mut.result.now c.args.self.now c.in-Over.is c.deref_mut.ensures.value c.self.view_is in
    λ a up. c.requires.known a (over_above c.deref_mut.result.now.links held.links c.args.self.now is c.args.id c.requires.here a up)

pub returns-clause-lacks : goal.returns-clause-lacks
returns-clause-lacks g c = elim c.match-self.branch [
  | in-Within w ↦
      subst (λ (answer : Bool). (answer ≡ true) ↔ ((a : ℕ) × (is_ancestor c.args.self.now.graph a c.args.id ≡ true) × (g.T.Listing.listed c.args.listing.now a → ⊥)))
      (sym w.result-is)
      (subst (λ (s : Cluster). (w.lacks_within.result ≡ true)
      ↔ ((a : ℕ) × (is_ancestor s.graph a c.args.id ≡ true) × (g.T.Listing.listed c.args.listing.now a → ⊥)))
      (within_is c.self.inside.kept w.in-Within.component c.args.self.now w.in-Within.is c.self.view_is) w.lacks_within.ensures)
  | in-Over w ↦
      let held = over_held (64 * g.row.W) c.self.inside.kept w.in-Over.over w.deref_mut.result.now w.in-Over.is w.deref_mut.ensures.value c.self.invariant.2 in
      let is = over_is c.self.inside.kept w.in-Over.over w.deref_mut.result.now c.args.self.now w.in-Over.is w.deref_mut.ensures.value c.self.view_is in
      subst (λ (answer : Bool). (answer ≡ true) ↔ ((a : ℕ) × (is_ancestor c.args.self.now.graph a c.args.id ≡ true) × (g.T.Listing.listed c.args.listing.now a → ⊥)))
      (sym w.result-is)
      (over_lacks w.deref_mut.result.now.links held.links c.args.self.now is c.args.id c.requires.here (g.T.Listing.listed c.args.listing.now)
      w.lacks_over.result w.lacks_over.ensures.lacks)
]
