use Rattle.std.proofs.Common.{◌≡◌, ◌-◌, ◌<◌, ℕ, get_or, ap, sym, subst, arith}
use Rattle.std.specs.Prelude.{Contains}
use Rattle.std.proofs.lemmas.List.{get_or_read}
use Rattle.places.specs.Chains.{pair_at, IsLast}
use Rattle.links.specs.Walkers.{Finds, IsWalking}
use Rattle.links.proofs.Around.{around_next, around_all, step_in}
use Rattle.links.proofs.walker.look_around.Goals as goal

pub loop-left-preserved : goal.loop-left-preserved
loop-left-preserved c =
    let steps = c.args.ways.now.steps.items in
    let before = c.args.ways.now.chains.before.items in
    let left = c.loop-left.left in
    let a = c.loop-left.invariant.around in
    let some : 0 < left = c.loop-left-test.true in
    let low = (step_in steps c.args.from left _ _ a some).0 in
    let step : ◌≡◌ {A = ℕ × ℕ} c.index.result.now (pair_at steps (left - 1)) =
    get_or_read steps (left - 1) c.index.result.now low c.index.ensures (0, 0) in
    let to : c.index.result.now.0 ≡ (pair_at steps (left - 1)).0 = ap (λ (s : ℕ × ℕ). s.0) step in
    let sized = c.requires.ways.chains.sized in
    let back : get_or before (left - 1) 0 ≡ c.index-left-in-loop-left.result.now =
    sym (get_or_read before (left - 1) c.index-left-in-loop-left.result.now (omega arith) c.index-left-in-loop-left.ensures 0) in
    record {
      walking = subst (λ (n : ℕ). IsWalking n c.reach.new.walker) c.loop-left.invariant.walking.marked.sized c.reach.ensures.walking;
      around = around_next steps c.args.from left c.index-left-in-loop-left.result.now c.args.walker.now.found.items
          c.loop-left.walker.found.items c.reach.new.walker.found.items a some
          (subst (λ (b : ℕ). IsLast steps (pair_at steps (left - 1)).1 (left - 1) b) back (c.requires.ways.chains.links (left - 1) low))
          (subst (λ (t : ℕ). Finds (λ (p : ℕ). p ≡ t) c.loop-left.walker.found.items c.reach.new.walker.found.items) to c.reach.ensures.finds)
          (subst (λ (t : ℕ). Contains c.reach.new.walker.found.items t) to c.reach.ensures.found);
    }

pub returns-clause-all : goal.returns-clause-all
returns-clause-all c =
    around_all c.args.ways.now.steps.items c.args.from c.loop-left.left c.args.walker.now.found.items c.loop-left.walker.found.items
    c.loop-left.invariant.around (omega arith)
