use Rattle.std.proofs.Common.{rules, ◌≡◌, ◌∙◌, ◌*◌, ℕ, refl, sym, subst, true, false}
use Rattle.lists.proofs.Cases.{clash}
use Rattle.graphs.specs.Closures.{Closure, is_member, members_of, rate_of}
use Rattle.fee_rate.specs.Limits.{IsRate}
use Rattle.linearize.proofs.Places.{members_tested, member_here, tested_more, each_member}
use Rattle.linearize.proofs.fit.has_rates.Goals as goal

-- the fee and the size of a place are those of a transaction
abbrev Rated : Closure → ℕ → Type 0
Rated dep p = IsRate (rate_of dep p)

pub loop-place-init : goal.loop-place-init
loop-place-init g c =
    let is = c.members-members.ensures.members in
    let all = c.into_iter-place-iterator.ensures.into_iter_gives ∙ c.iter-place-items.ensures.places in
    members_tested (64 * g.row.W) c.args.dep.now c.members-members.result (Rated c.args.dep.now) _ is all

pub rate-requires : goal.rate-requires
rate-requires g c =
    let i = c.loop-place.invariant in
    let next = c.in-Some.ensures.steps in (
      search rules,
      member_here (64 * g.row.W) c.args.dep.now (Rated c.args.dep.now) _ _ _ c.in-Some.place i next,
    )

pub returns-then-not-is_rate : goal.returns-then-not-is_rate
returns-then-not-is_rate g c =
    let dep = c.args.dep.now in
    let i = c.loop-place.invariant in
    let next = c.in-Some.ensures.steps in
    let member : is_member dep c.in-Some.place ≡ true =
    member_here (64 * g.row.W) dep (Rated dep) _ _ _ c.in-Some.place i next in (
      (λ e. clash false e refl),
      (λ all.
          (let rated : IsRate c.rate.result = subst IsRate (sym c.rate.ensures) (all c.in-Some.place member) in
          absurd (clash c.is_rate.result (c.is_rate.ensures.1 rated) c.if-not-is_rate.true))),
    )

pub loop-place-preserved : goal.loop-place-preserved
loop-place-preserved g c =
    let dep = c.args.dep.now in
    let i = c.loop-place.invariant in
    let next = c.in-Some.ensures.steps in
    let rated : Rated dep c.in-Some.place = subst IsRate c.rate.ensures (c.is_rate.ensures.0 c.if-not-is_rate.false) in
    tested_more (64 * g.row.W) (members_of dep) (Rated dep) _ _ _ c.in-Some.place i next rated

pub returns : goal.returns
returns g c =
    let dep = c.args.dep.now in
    let is = c.members-members.ensures.members in
    let within = c.iter-place-items.ensures.within in
    let i = c.loop-place.invariant in
    let end = c.in-None.ensures.steps.0 in (
      (λ e. each_member (64 * g.row.W) dep c.members-members.result (Rated dep) _ _ is within i end),
      (λ all. refl),
    )
