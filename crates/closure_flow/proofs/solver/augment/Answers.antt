use Rattle.std.proofs.Common.{◌≡◌, ℕ, ◌*◌, ◌+◌, ◌<◌, ◌≤◌, ◌∙◌, sym, ap, subst, true, false, unsigned_abs, rules}
use Rattle.std.proofs.Common.{arith, SFits, ℤ, pos, neg_ℤ, ◌+ℤ◌, ◌-ℤ◌, ◌≤ℤ◌, ◌<ℤ◌}
use Rattle.std.proofs.lemmas.Int.{to_z-of_z}
use Rattle.std.specs.Int.{w128}
use Rattle.std.specs.FinSet as set
use Rattle.bitset.specs.Places.{places}
use Rattle.closure_flow.specs.Closures.{parents_at, weight_at}
use Rattle.closure_flow.specs.Flows.{only_at, net}
use Rattle.closure_flow.specs.Labels.{IsStep}
use Rattle.closure_flow.specs.Networks.{IsAllowed, sent}
use Rattle.closure_flow.proofs.Augmenting.{along, exact_lack, uses_up}
use Rattle.closure_flow.proofs.Labellings.{spends}
use Rattle.closure_flow.proofs.Networks.{network_fits, read_rest}
use Rattle.closure_flow.proofs.Steadiness.{Moves, apart_ends, moves_falls, moves_improve, read_lack, room_below, same_sent}
use Rattle.closure_flow.proofs.solver.augment.Goals as goal

pub shift-requires : goal.shift-requires
shift-requires g c =
    let n : ℕ = 64 * g.row.W in
    let end = c.entry-end.ensures.place in
    let r = weight_at c.args.network.now.rest.items in
    let fine : SFits w128 c.index.result.now = search rules in
    let in_end = subst (λ (t : ℕ). t < n) (sym end) (c.requires.search.below _ c.requires.at) in
    let low = read_lack n _ _ _ c.entry-end.result.place _ _ c.narrowest-amount.result c.args.network.now.sized in_end c.index.ensures
    fine c.unsigned_abs-lack.ensures.value
    (subst (λ (t : ℕ). weight_at c.args.network.now.rest.items t <ℤ pos 0) (sym end) c.requires.lacks) c.narrowest-amount.ensures.most in
    let same = ap weight_at (sym c.send-start.ensures.rest) in (
      network_fits g.row.W _ _ _ c.args.network.now.sized,
      (
        ap (λ s. set.contains s c.send-start.result) c.send-start.ensures.within ∙ c.send-start.ensures.start,
        (
          ap (λ s. set.contains s c.entry-end.result.place) c.send-start.ensures.within
              ∙ ap (λ (t : ℕ). set.contains c.args.network.now.within t) end ∙ c.requires.search.inside _ c.requires.at,
          (
            apart_ends r _ _ c.narrowest-amount.result c.narrowest-amount.ensures.some c.send-start.ensures.enough low,
            (
              subst (λ (f : ℕ → ℤ). pos c.narrowest-amount.result ≤ℤ f c.send-start.result) same c.send-start.ensures.enough,
              room_below _ _ (subst (λ (f : ℕ → ℤ). f c.entry-end.result.place ≤ℤ neg_ℤ (pos c.narrowest-amount.result)) same low),
            ),
          ),
        ),
      ),
    )

moves : (g : _) (c : goal.After-shift g)
    → Moves (64 * g.row.W) c.args.parents.now c.args.network.now.within
    (sent (64 * g.row.W) c.args.network.now.into.items c.args.network.now.amounts.items)
    (sent (64 * g.row.W) c.shift.new.self.into.items c.shift.new.self.amounts.items) (weight_at c.args.network.now.rest.items)
    (weight_at c.shift.new.self.rest.items) c.send-start.result c.entry-end.result.place c.narrowest-amount.result
moves g c =
    let n : ℕ = 64 * g.row.W in
    let end = c.entry-end.ensures.place in
    let w = c.args.network.now.within in
    let F = sent n c.args.network.now.into.items c.args.network.now.amounts.items in
    let x = c.narrowest-amount.result in
    let fine : SFits w128 c.index.result.now = search rules in
    let in_end = subst (λ (t : ℕ). t < n) (sym end) (c.requires.search.below _ c.requires.at) in
    let low = read_lack n _ _ _ c.entry-end.result.place _ _ c.narrowest-amount.result c.args.network.now.sized in_end c.index.ensures
    fine c.unsigned_abs-lack.ensures.value
    (subst (λ (t : ℕ). weight_at c.args.network.now.rest.items t <ℤ pos 0) (sym end) c.requires.lacks) c.narrowest-amount.ensures.most in
    let e = same_sent n _ _ _ _ c.shift.ensures.into c.shift.ensures.amounts in
    let moved : (t : ℕ) → set.contains w t ≡ true
    → net (places n w) (sent n c.send-start.new.network.into.items c.send-start.new.network.amounts.items) t ≡
    (net (places n w) F t +ℤ only_at c.send-start.result (pos x) t) -ℤ only_at c.entry-end.result.place (pos x) t =
    subst (λ (k : ℕ). (t : ℕ) → set.contains w t ≡ true
    → net (places n w) (sent n c.send-start.new.network.into.items c.send-start.new.network.amounts.items) t ≡
    (net (places n w) F t +ℤ only_at c.send-start.result (pos x) t) -ℤ only_at k (pos x) t) (sym end) c.send-start.ensures.moved in
    record {
      below = c.args.network.now.inside;
      first = c.send-start.ensures.start;
      last = subst (λ (t : ℕ). set.contains w t ≡ true) (sym end) (c.requires.search.inside _ c.requires.at);
      some = c.narrowest-amount.ensures.some;
      enough = c.send-start.ensures.enough;
      lacks = low;
      moved = subst (λ (f : ℕ → ℕ → ℕ). (t : ℕ) → set.contains w t ≡ true
          → net (places n w) f t ≡ (net (places n w) F t +ℤ only_at c.send-start.result (pos x) t) -ℤ only_at c.entry-end.result.place (pos x) t) e moved;
      more = subst (λ (f : ℕ → ℕ → ℕ). (d p : ℕ) → set.contains w d ≡ true → set.contains w p ≡ true → f d p ≤ F d p + x) e c.send-start.ensures.more;
      allowed =
          subst (λ (f : ℕ → ℕ → ℕ). IsAllowed n c.args.parents.now w f) e
          (subst (λ s. IsAllowed n c.args.parents.now s (sent n c.send-start.new.network.into.items c.send-start.new.network.amounts.items))
          c.send-start.ensures.within c.send-start.ensures.allowed);
      rests = subst (λ (r : ℕ → ℤ). (t : ℕ) → t < n
          → weight_at c.shift.new.self.rest.items t ≡ (r t -ℤ only_at c.send-start.result (pos x) t) +ℤ only_at c.entry-end.result.place (pos x) t)
          (ap weight_at c.send-start.ensures.rest) c.shift.ensures.rest;
    }

pub returns-clause-improves : goal.returns-clause-improves
returns-clause-improves g c = moves_improve (64 * g.row.W) _ _ _ _ _ _ _ _ _ (moves g c) c.requires.steady

pub returns-clause-falls : goal.returns-clause-falls
returns-clause-falls g c = omega (arith, moves_falls (64 * g.row.W) _ _ _ _ _ _ _ _ _ (moves g c), (moves g c).some)

pub returns-clause-spends : goal.returns-clause-spends
returns-clause-spends g c label end valid climbs =
    let n : ℕ = 64 * g.row.W in
    let m = moves g c in
    let es = c.args.queue.now.entries in
    let w = c.args.network.now.within in
    let F = sent n c.args.network.now.into.items c.args.network.now.amounts.items in
    let r = weight_at c.args.network.now.rest.items in
    let e = same_sent n _ _ _ _ c.shift.ensures.into c.shift.ensures.amounts in
    let grown = subst (λ (f : ℕ → ℕ → ℕ). (d p : ℕ) → set.contains w d ≡ true → set.contains w p ≡ true → F d p < f d p → IsStep es c.args.at d p)
    e c.send-start.ensures.grown in
    let taken = subst (λ (f : ℕ → ℕ → ℕ). (u v : ℕ) → IsStep es c.args.at u v → set.contains (parents_at c.args.parents.now u) v ≡ false
    → f v u + c.narrowest-amount.result ≡ F v u) e c.send-start.ensures.taken in
    let place = c.entry-end.ensures.place in
    let fine : SFits w128 c.index.result.now = search rules in
    let read = read_rest n _ _ _ c.entry-end.result.place _ c.args.network.now.sized
    (subst (λ (t : ℕ). t < n) (sym place) (c.requires.search.below _ c.requires.at)) c.index.ensures in
    let low = subst (λ (t : ℕ). r t <ℤ pos 0) (sym place) c.requires.lacks in
    let lack = read ∙ exact_lack c.index.result.now c.unsigned_abs-lack.result
    (c.unsigned_abs-lack.ensures.value ∙ ap unsigned_abs (to_z-of_z w128 c.index.result.now fine)) (subst (λ (z : ℤ). z <ℤ pos 0) read low) in
    spends n _ w F _ r _ es c.args.at label end (along n _ w F _ r _ _ _ _ m es c.args.at grown)
    (uses_up n _ w F _ r _ _ _ _ m es c.args.at c.unsigned_abs-lack.result c.requires.search c.requires.at c.send-start.ensures.begins taken
    lack c.narrowest-amount.ensures.narrowest)
    climbs valid
