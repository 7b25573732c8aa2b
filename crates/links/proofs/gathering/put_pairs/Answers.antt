use Rattle.std.proofs.Common.{◌≡◌, ◌-◌, ◌<◌, ℕ, get_or, sym, subst, arith}
use Rattle.std.proofs.lemmas.List.{get_or_read}
use Rattle.places.specs.Chains.{pair_at, IsLast}
use Rattle.links.proofs.Chosen.{put_next, put_all}
use Rattle.links.proofs.gathering.put_pairs.Goals as goal

pub loop-left-preserved : goal.loop-left-preserved
loop-left-preserved c =
    let steps = c.args.ways.now.steps.items in
    let before = c.args.ways.now.chains.before.items in
    let left = c.loop-left.left in
    let next = c.index-left-in-loop-left.result.now in
    let put = c.loop-left.invariant in
    let some : 0 < left = c.loop-left-test.true in
    let sized = c.requires.chains.chains.sized in
    let below = put.below in
    let back : get_or before (left - 1) 0 ≡ next =
    sym (get_or_read before (left - 1) next (omega arith) c.index-left-in-loop-left.ensures 0) in
    put_next steps c.args.pairs.now c.args.list.now.items c.loop-left.list.items c.push.new.self.items c.args.place left next c.requires.sized put some
    (subst (λ (b : ℕ). IsLast steps (pair_at steps (left - 1)).1 (left - 1) b) back (c.requires.chains.chains.links (left - 1) (omega arith)))
    c.in_ok-push.ensures.items

pub returns : goal.returns
returns c =
    put_all c.args.ways.now.steps.items c.args.pairs.now c.args.list.now.items c.loop-left.list.items c.args.place c.loop-left.left c.loop-left.invariant
    (omega arith)
