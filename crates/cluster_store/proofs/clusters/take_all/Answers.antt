-- One number more is out.
use Rattle.std.proofs.Common.{◌≡◌, ℕ, List, [], ◌∷◌, ◌++◌, None, subst}
use Rattle.cluster_store.proofs.Done.{IsHalf, half_begins, half_ends, half_there, half_next, stored_same, nothing_left}
use Rattle.cluster_store.proofs.clusters.take_all.Goals as goal

pub loop-number-init : goal.loop-number-init
loop-number-init g c = record { half = half_begins (λ n. n) (λ n o. None) c.args.numbers.items c.args.slots.now.slots; shown = c.requires.shown }

pub take_out-requires : goal.take_out-requires
take_out-requires g c =
    let half : IsHalf (λ (n : ℕ). n) (λ n o. None) c.args.numbers.items
    (c.pop.new.self.items ++ c.in-Some.number ∷ []) c.args.slots.now.slots c.loop-number.slots.slots =
    subst (λ (xs : List ℕ). IsHalf (λ (n : ℕ). n) (λ n o. None) c.args.numbers.items xs c.args.slots.now.slots c.loop-number.slots.slots)
    c.in-Some.ensures.items c.loop-number.invariant.half in (
      search,
      (
        c.loop-number.invariant.shown,
        half_there (λ n. n) (λ n o. None) c.args.numbers.items c.pop.new.self.items c.in-Some.number
            c.args.slots.now.slots c.loop-number.slots.slots (stored_same c.args.numbers.items c.args.slots.now.slots c.requires.there) half,
      ),
    )

pub loop-number-preserved : goal.loop-number-preserved
loop-number-preserved g c =
    let half : IsHalf (λ (n : ℕ). n) (λ n o. None) c.args.numbers.items
    (c.pop.new.self.items ++ c.in-Some.number ∷ []) c.args.slots.now.slots c.loop-number.slots.slots =
    subst (λ (xs : List ℕ). IsHalf (λ (n : ℕ). n) (λ n o. None) c.args.numbers.items xs c.args.slots.now.slots c.loop-number.slots.slots)
    c.in-Some.ensures.items c.loop-number.invariant.half in
    record {
      half = half_next (λ n. n) (λ n o. None) c.args.numbers.items c.pop.new.self.items c.in-Some.number c.args.slots.now.slots c.loop-number.slots.slots
          (stored_same c.args.numbers.items c.args.slots.now.slots c.requires.there) half c.take_out.new.slots.slots
          (record { changed = c.take_out.ensures.updates.changed; others = c.take_out.ensures.updates.others });
      shown = c.take_out.ensures.shown;
    }

pub returns-clause-out : goal.returns-clause-out
returns-clause-out g c =
    let none : c.loop-number.numbers.items ≡ [] =
    nothing_left c.pop.result c.loop-number.numbers.items c.loop-number.numbers.len c.pop.ensures.variant c.loop-number.numbers.ok.0 c.in_default.not-Some in
    half_ends (λ n. n) (λ n o. None) c.args.numbers.items c.args.slots.now.slots c.loop-number.slots.slots
    (subst (λ (xs : List ℕ). IsHalf (λ (n : ℕ). n) (λ n o. None) c.args.numbers.items xs c.args.slots.now.slots c.loop-number.slots.slots) none
    c.loop-number.invariant.half)
