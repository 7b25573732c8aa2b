use Rattle.std.proofs.Common.{◌≡◌, ℕ, length, ◌*◌, ◌+◌, ◌^◌, ◌<◌, ◌∙◌, sym, subst, true, false, arith, pos, ◌≤ℤ◌}
use Rattle.std.specs.FinSet as set
use Rattle.closure_flow.specs.Closures.{parents_at, weight_at}
use Rattle.closure_flow.specs.Networks.{IsAllowed, LetsThrough, Pushes, sent}
use Rattle.closure_flow.specs.Queues.{place_at}
use Rattle.closure_flow.proofs.Augmenting.{is_start, sent_all, sent_step}
use Rattle.closure_flow.proofs.Networks.{network_fits, words_fit}
use Rattle.closure_flow.proofs.Paths.{fits_enough, fits_next, lets_still, sends_step}
use Rattle.closure_flow.proofs.path.send.Goals as goal

pub entry-from-requires : goal.entry-from-requires
entry-from-requires g c =
    let lower = (c.requires.search.step _ _ c.loop-before.invariant.0 (sym c.entry.ensures.from ∙ c.in-Some.is)).0 in
    (omega arith, omega (arith, lower, c.loop-before.invariant.0))

pub push-requires : goal.push-requires
push-requires g c =
    let n : ℕ = 64 * g.row.W in
    let es = c.args.queue.now.entries in
    let i = c.loop-before.invariant in
    let from = sym c.entry.ensures.from ∙ c.in-Some.is in
    let lower = (c.requires.search.step _ _ i.0 from).0 in
    let first : c.in-Some.before < length es = omega (arith, lower, i.0) in
    let F = sent n c.args.network.now.into.items c.args.network.now.amounts.items in
    let G = sent n c.loop-before.network.into.items c.loop-before.network.amounts.items in
    let w = sym i.4 in
    let u = place_at es c.in-Some.before in
    let v = place_at es c.loop-before.here in
    let eu : u ≡ c.entry-from.result.place = sym c.entry-from.ensures.place in
    let ev : v ≡ c.entry-to.result.place = sym c.entry-to.ensures.place in
    let lets : LetsThrough c.args.parents.now G c.args.amount u v =
    lets_still c.args.parents.now F G c.args.amount u v (i.2.still c.loop-before.here c.in-Some.before (omega arith) (omega (arith, lower)))
    (fits_next _ _ _ _ _ _ _ i.1 from).0 in
    let room : G u v + c.args.amount < 2 ^ 128 =
    omega (
      arith,
      i.2.still c.in-Some.before c.loop-before.here (omega (arith, lower)) (omega arith),
      c.requires.room u v (c.requires.search.inside _ first) (c.requires.search.inside _ i.0),
    ) in (
      network_fits g.row.W _ _ _ c.args.network.now.sized,
      (
        words_fit g.row.W _ _ _ c.args.network.now.sized,
        (
          subst (λ s. (t : ℕ) → set.contains s t ≡ true → t < length c.args.parents.now) w c.requires.parents,
          (
            subst (λ s. IsAllowed n c.args.parents.now s G) w i.2.allowed,
            (
              subst (λ s. set.contains s c.entry-from.result.place ≡ true) w
                  (subst (λ (t : ℕ). set.contains c.args.network.now.within t ≡ true) eu (c.requires.search.inside _ first)),
              (
                subst (λ s. set.contains s c.entry-to.result.place ≡ true) w
                    (subst (λ (t : ℕ). set.contains c.args.network.now.within t ≡ true) ev (c.requires.search.inside _ i.0)),
                (
                  λ same. omega (arith, c.requires.search.once _ _ first i.0 (eu ∙ same ∙ sym ev), lower),
                  (
                    subst (λ (t : ℕ). LetsThrough c.args.parents.now G c.args.amount t c.entry-to.result.place) eu
                        (subst (λ (t : ℕ). LetsThrough c.args.parents.now G c.args.amount u t) ev lets),
                    subst (λ (t : ℕ). G t c.entry-to.result.place + c.args.amount < 2 ^ 128) eu (subst (λ (t : ℕ). G u t + c.args.amount < 2 ^ 128) ev room),
                  ),
                ),
              ),
            ),
          ),
        ),
      ),
    )

pub loop-before-smaller : goal.loop-before-smaller
loop-before-smaller g c = (c.requires.search.step _ _ c.loop-before.invariant.0 (sym c.entry.ensures.from ∙ c.in-Some.is)).0

pub loop-before-preserved : goal.loop-before-preserved
loop-before-preserved g c =
    let n : ℕ = 64 * g.row.W in
    let es = c.args.queue.now.entries in
    let i = c.loop-before.invariant in
    let from = sym c.entry.ensures.from ∙ c.in-Some.is in
    let lower = (c.requires.search.step _ _ i.0 from).0 in
    let pushed : Pushes n c.args.parents.now c.args.network.now.within (sent n c.loop-before.network.into.items c.loop-before.network.amounts.items)
    (sent n c.push.new.network.into.items c.push.new.network.amounts.items) (place_at es c.in-Some.before) (place_at es c.loop-before.here) c.args.amount =
    subst (λ (t : ℕ). Pushes n c.args.parents.now c.args.network.now.within
    (sent n c.loop-before.network.into.items c.loop-before.network.amounts.items)
    (sent n c.push.new.network.into.items c.push.new.network.amounts.items) (place_at es c.in-Some.before) t c.args.amount) c.entry-to.ensures.place
    (subst (λ (t : ℕ). Pushes n c.args.parents.now c.args.network.now.within
    (sent n c.loop-before.network.into.items c.loop-before.network.amounts.items)
    (sent n c.push.new.network.into.items c.push.new.network.amounts.items) t c.entry-to.result.place c.args.amount) c.entry-from.ensures.place
    (subst (λ s. Pushes n c.args.parents.now s (sent n c.loop-before.network.into.items c.loop-before.network.amounts.items)
    (sent n c.push.new.network.into.items c.push.new.network.amounts.items) c.entry-from.result.place c.entry-to.result.place c.args.amount)
    i.4 c.push.ensures.pushes)) in
    let G = sent n c.loop-before.network.into.items c.loop-before.network.amounts.items in
    let H = sent n c.push.new.network.into.items c.push.new.network.amounts.items in
    let eu = c.entry-from.ensures.place in
    let ev = c.entry-to.ensures.place in
    let more : (d p : ℕ) → d < n → p < n → G d p < H d p → (d ≡ place_at es c.in-Some.before) × (p ≡ place_at es c.loop-before.here) =
    λ d p hd hp h. (let both = c.push.ensures.grown d p hd hp h in (both.0 ∙ eu, both.1 ∙ ev)) in
    let gone : set.contains (parents_at c.args.parents.now (place_at es c.in-Some.before)) (place_at es c.loop-before.here) ≡ false
    → H (place_at es c.loop-before.here) (place_at es c.in-Some.before) + c.args.amount ≡ G (place_at es c.loop-before.here)
    (place_at es c.in-Some.before) =
    subst (λ (u : ℕ). set.contains (parents_at c.args.parents.now u) (place_at es c.loop-before.here) ≡ false
    → H (place_at es c.loop-before.here) u + c.args.amount ≡ G (place_at es c.loop-before.here) u) eu
    (subst (λ (v : ℕ). set.contains (parents_at c.args.parents.now c.entry-from.result.place) v ≡ false
    → H v c.entry-from.result.place + c.args.amount ≡ G v c.entry-from.result.place) ev c.push.ensures.taken) in (
      omega (arith, lower, i.0),
      (fits_next _ _ _ _ _ _ _ i.1 from).1,
      sends_step n _ _ _ _ _ (weight_at c.args.network.now.rest.items) es _ _ _ c.args.amount c.args.network.now.inside c.requires.search i.0 lower i.2 pushed,
      c.push.ensures.rest ∙ i.3,
      c.push.ensures.within ∙ i.4,
      sent_step n _ _ _ _ _ (weight_at c.args.network.now.rest.items)
          es _ _ _ c.args.amount c.args.network.now.inside c.requires.search c.requires.at from i.2 i.5 pushed more gone,
    )

pub returns-clause-enough : goal.returns-clause-enough
returns-clause-enough g c =
    let none = sym c.entry.ensures.from ∙ c.in_default.is in
    subst (λ (t : ℕ). pos c.args.amount ≤ℤ weight_at c.args.network.now.rest.items t) (sym c.entry-2.ensures.place)
    (fits_enough _ _ _ _ _ _ c.loop-before.invariant.1 none)

pub returns-clause-begins : goal.returns-clause-begins
returns-clause-begins g c =
    let none = sym c.entry.ensures.from ∙ c.in_default.is in
    (c.loop-before.here, is_start _ _ _ _ _ _ _ _ c.loop-before.invariant.5 none, c.entry-2.ensures.place)

pub returns-clause-grown : goal.returns-clause-grown
returns-clause-grown g c = c.loop-before.invariant.5.grown

pub returns-clause-taken : goal.returns-clause-taken
returns-clause-taken g c =
    let none = sym c.entry.ensures.from ∙ c.in_default.is in
    sent_all (64 * g.row.W) _ _ _ _ _ _ _ _ c.loop-before.invariant.5 none
