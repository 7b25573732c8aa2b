use Rattle.std.proofs.Common.{rules, ◌<◌, ◌≤◌, ◌*◌, ℕ, [], get_or, sym, subst, arith, lit<}
use Rattle.std.specs.FinSet as fin
use Rattle.lists.proofs.Keys.{set_within}
use Rattle.closure_flow.specs.Scratches.{Flow, flow_of}
use Rattle.linearize.specs.Orders.{Balances}
use Rattle.linearize.proofs.Cuts.{balances_of, cut_on, uncut_of}
use Rattle.linearize.proofs.Sizes.{words_fit, scratch_fits}
use Rattle.linearize.proofs.split.finish.Goals as goal

pub returns-then-count-clause-cut : goal.returns-then-count-clause-cut
returns-then-count-clause-cut g c =
    let n : ℕ = 64 * g.row.W in
    let s = c.requires.solved in
    let first = c.smallest_tight-first.result in
    let tight = c.smallest_tight-first.ensures.smallest s.weights s.balanced in
    let less : fin.len first < fin.len c.args.within.now =
    (let few = c.requires.ready.few in omega (arith, few, c.count.ensures.exact, c.count-2.ensures.exact, c.if-count.true)) in
    cut_on n c.args.dep.now c.args.parents.now s.weights c.args.within.now s.are c.requires.ready.covers first
    c.count-2.ensures.within s.none tight less

pub emit-requires : goal.emit-requires
emit-requires g c =
    let n : ℕ = 64 * g.row.W in
    let r = c.requires.ready in
    let s = c.requires.solved in
    let first = c.smallest_tight-first.result in
    let tight = c.smallest_tight-first.ensures.smallest s.weights s.balanced in
    let all : fin.len c.args.within.now ≤ fin.len first =
    (let few = r.few in
    let inside = set_within first c.args.within.now tight.tight.closed.inside in
    omega (arith, few, inside, c.count.ensures.exact, c.count-2.ensures.exact, c.if-count.false)) in
    let balanced : Balances n c.args.dep.now c.args.parents.now c.args.within.now (flow_of c.smallest_tight-first.new.scratch) =
    subst (λ (f : Flow). Balances n c.args.dep.now c.args.parents.now c.args.within.now (λ d p. get_or (get_or f d []) p 0))
    (sym c.smallest_tight-first.ensures.flow)
    (balances_of n c.args.dep.now c.args.parents.now s.weights c.args.within.now s.are (flow_of c.args.scratch.now) s.balanced) in (
      scratch_fits g.row.W c.requires.narrow,
      (
        search rules,
        (
          words_fit g.row.W c.requires.narrow,
          (
            lit< tt,
            (
              c.requires.narrow,
              (
                r.closed,
                (
                  r.members,
                  (
                    r.some,
                    (
                      r.covers,
                      (
                        c.requires.whole,
                        (
                          balanced,
                          (
                            uncut_of n c.args.dep.now c.args.parents.now s.weights c.args.within.now s.are r.covers first
                                c.count-2.ensures.within tight all,
                            r.room,
                          ),
                        ),
                      ),
                    ),
                  ),
                ),
              ),
            ),
          ),
        ),
      ),
    )
