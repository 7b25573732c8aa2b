use Rattle.std.proofs.Common.{length, false, ◌⊎◌, ◌≡◌, ℕ, ◌*◌, ◌<◌, ◌∙◌, sym, ap, subst, arith, rules, SFits, ℤ, pos, ◌<ℤ◌, ◌≤ℤ◌, unsigned_abs}
use Rattle.std.proofs.lemmas.Int.{to_z-of_z}
use Rattle.std.specs.Int.{w128}
use Rattle.std.specs.FinSet as set
use Rattle.closure_flow.specs.Closures.{parents_at, weight_at}
use Rattle.closure_flow.specs.Networks.{LetsThrough, sent}
use Rattle.closure_flow.specs.Queues.{place_at}
use Rattle.closure_flow.proofs.Augmenting.{narrowed_all, narrowed_step}
use Rattle.closure_flow.proofs.Networks.{network_fits, read_rest, words_fit}
use Rattle.closure_flow.proofs.Paths.{along_step, fits_start, fits_step, lets_less, start_left, enough_of}
use Rattle.closure_flow.proofs.path.narrowest.Goals as goal

pub entry-from-requires : goal.entry-from-requires
entry-from-requires g c =
    let lower = (c.requires.search.step _ _ c.loop-before.invariant.0 (sym c.entry.ensures.from ∙ c.in-Some.is)).0 in
    (omega arith, omega (arith, lower, c.loop-before.invariant.0))

pub step_limit-amount-requires : goal.step_limit-amount-requires
step_limit-amount-requires g c =
    let n : ℕ = 64 * g.row.W in
    let es = c.args.queue.now.entries in
    let s = c.requires.search in
    let back = s.step _ _ c.loop-before.invariant.0 (sym c.entry.ensures.from ∙ c.in-Some.is) in
    let first : c.in-Some.before < length es = omega (arith, back.0, c.loop-before.invariant.0) in
    let u = sym c.entry-from.ensures.place in
    let v = sym c.entry-to.ensures.place in (
      network_fits g.row.W _ _ _ c.args.network.now.sized,
      (
        words_fit g.row.W _ _ _ c.args.network.now.sized,
        (
          subst (λ (t : ℕ). t < length c.args.parents.now) u (c.requires.parents _ (s.inside _ first)),
          (
            subst (λ (t : ℕ). t < n) u (s.below _ first),
            (
              subst (λ (t : ℕ). t < n) v (s.below _ c.loop-before.invariant.0),
              (c.loop-before.invariant.1, along_step c.args.parents.now (sent n c.args.network.now.into.items c.args.network.now.amounts.items) u v back.1),
            ),
          ),
        ),
      ),
    )

pub loop-before-preserved : goal.loop-before-preserved
loop-before-preserved g c =
    let from = sym c.entry.ensures.from ∙ c.in-Some.is in
    let lower = (c.requires.search.step _ _ c.loop-before.invariant.0 from).0 in
    let flow = sent (64 * g.row.W) c.args.network.now.into.items c.args.network.now.amounts.items in
    let tight =
    subst (λ (t : ℕ). (c.step_limit-amount.result ≡ c.loop-before.amount) ⊎
    ((set.contains (parents_at c.args.parents.now (place_at c.args.queue.now.entries c.in-Some.before)) t ≡ false) ×
    (flow t (place_at c.args.queue.now.entries c.in-Some.before) ≡ c.step_limit-amount.result))) c.entry-to.ensures.place
    (subst (λ (t : ℕ). (c.step_limit-amount.result ≡ c.loop-before.amount) ⊎
    ((set.contains (parents_at c.args.parents.now t) c.entry-to.result.place ≡ false) ×
    (flow c.entry-to.result.place t ≡ c.step_limit-amount.result))) c.entry-from.ensures.place c.step_limit-amount.ensures.narrowest) in
    let lets : LetsThrough c.args.parents.now flow c.step_limit-amount.result (place_at c.args.queue.now.entries c.in-Some.before)
    (place_at c.args.queue.now.entries c.loop-before.here) =
    subst (λ (t : ℕ). LetsThrough c.args.parents.now flow c.step_limit-amount.result (place_at c.args.queue.now.entries c.in-Some.before) t)
    c.entry-to.ensures.place
    (subst (λ (t : ℕ). LetsThrough c.args.parents.now flow c.step_limit-amount.result t c.entry-to.result.place)
    c.entry-from.ensures.place c.step_limit-amount.ensures.lets) in (
      omega (arith, lower, c.loop-before.invariant.0),
      c.step_limit-amount.ensures.some,
      omega (arith, c.step_limit-amount.ensures.most, c.loop-before.invariant.2),
      λ y h f. c.loop-before.invariant.3 y (omega (arith, h, c.step_limit-amount.ensures.most))
          (fits_step _ _ _ _ _ _ y from (lets_less c.args.parents.now flow y c.step_limit-amount.result
          (place_at c.args.queue.now.entries c.in-Some.before) (place_at c.args.queue.now.entries c.loop-before.here) h lets) f),
      narrowed_step c.args.parents.now flow c.args.queue.now.entries c.args.at
          c.args.limit c.loop-before.here c.in-Some.before c.loop-before.amount c.step_limit-amount.result c.loop-before.invariant.4 from tight,
    )

pub returns-clause-some : goal.returns-clause-some
returns-clause-some g c =
    let none = sym c.entry.ensures.from ∙ c.in_default.is in
    let at = c.entry-start.ensures.place in
    let fine : SFits w128 c.index.result.now = search rules in
    let read = read_rest (64 * g.row.W) _ _ _ c.entry-start.result.place _ c.args.network.now.sized
    (subst (λ (t : ℕ). t < 64 * g.row.W) (sym at) (c.requires.search.below _ c.loop-before.invariant.0)) c.index.ensures in
    let above : pos 0 <ℤ c.index.result.now =
    subst (λ (z : ℤ). pos 0 <ℤ z) (ap (weight_at c.args.network.now.rest.items) (sym at) ∙ read) (c.requires.search.start _ c.loop-before.invariant.0 none) in
    let abs : c.unsigned_abs.result ≡ unsigned_abs c.index.result.now = c.unsigned_abs.ensures.value
    ∙ ap unsigned_abs (to_z-of_z w128 c.index.result.now fine) in
    omega (arith, c.min.ensures, c.loop-before.invariant.1, (start_left c.index.result.now c.unsigned_abs.result abs above).1)

pub returns-clause-fits : goal.returns-clause-fits
returns-clause-fits g c =
    let none = sym c.entry.ensures.from ∙ c.in_default.is in
    let at = c.entry-start.ensures.place in
    let fine : SFits w128 c.index.result.now = search rules in
    let read = read_rest (64 * g.row.W) _ _ _ c.entry-start.result.place _ c.args.network.now.sized
    (subst (λ (t : ℕ). t < 64 * g.row.W) (sym at) (c.requires.search.below _ c.loop-before.invariant.0)) c.index.ensures in
    let here : weight_at c.args.network.now.rest.items (place_at c.args.queue.now.entries c.loop-before.here) ≡ c.index.result.now =
    ap (weight_at c.args.network.now.rest.items) (sym at) ∙ read in
    let above : pos 0 <ℤ c.index.result.now = subst (λ (z : ℤ). pos 0 <ℤ z) here (c.requires.search.start _ c.loop-before.invariant.0 none) in
    let abs : c.unsigned_abs.result ≡ unsigned_abs c.index.result.now = c.unsigned_abs.ensures.value
    ∙ ap unsigned_abs (to_z-of_z w128 c.index.result.now fine) in
    let enough : pos c.min.result ≤ℤ c.index.result.now =
    subst (λ (m : ℕ). pos m ≤ℤ c.index.result.now) (sym c.min.ensures)
    (enough_of c.index.result.now c.unsigned_abs.result c.loop-before.amount abs above) in
    c.loop-before.invariant.3 c.min.result (omega (arith, c.min.ensures))
    (fits_start _ _ _ _ _ _ none (subst (λ (z : ℤ). pos c.min.result ≤ℤ z) (sym here) enough))

pub returns-clause-narrowest : goal.returns-clause-narrowest
returns-clause-narrowest g c =
    let none = sym c.entry.ensures.from ∙ c.in_default.is in
    let at = c.entry-start.ensures.place in
    let fine : SFits w128 c.index.result.now = search rules in
    let read = read_rest (64 * g.row.W) _ _ _ c.entry-start.result.place _ c.args.network.now.sized
    (subst (λ (t : ℕ). t < 64 * g.row.W) (sym at) (c.requires.search.below _ c.loop-before.invariant.0)) c.index.ensures in
    let here : weight_at c.args.network.now.rest.items (place_at c.args.queue.now.entries c.loop-before.here) ≡ c.index.result.now =
    ap (weight_at c.args.network.now.rest.items) (sym at) ∙ read in
    let abs : c.unsigned_abs.result ≡ unsigned_abs c.index.result.now = c.unsigned_abs.ensures.value
    ∙ ap unsigned_abs (to_z-of_z w128 c.index.result.now fine) in
    narrowed_all c.args.parents.now (sent (64 * g.row.W) c.args.network.now.into.items c.args.network.now.amounts.items)
    (weight_at c.args.network.now.rest.items)
    c.args.queue.now.entries c.args.at c.args.limit c.loop-before.here c.loop-before.amount c.unsigned_abs.result c.min.result
    c.loop-before.invariant.4 none (abs ∙ ap unsigned_abs (sym here)) (c.requires.search.start _ c.loop-before.invariant.0 none) c.min.ensures
