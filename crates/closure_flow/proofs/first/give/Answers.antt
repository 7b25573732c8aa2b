use Rattle.std.proofs.Common.{ℕ, ◌*◌, ◌≤◌, rules, arith, SFits, pos, ◌<ℤ◌}
use Rattle.std.proofs.lemmas.Int.{ints}
use Rattle.std.specs.Int.{w128}
use Rattle.closure_flow.specs.Closures.{weight_at}
use Rattle.closure_flow.proofs.Firsts.{hands_none}
use Rattle.closure_flow.proofs.Networks.{network_fits, read_rest}
use Rattle.closure_flow.proofs.Steadiness.{giving, room_below}
use Rattle.closure_flow.proofs.first.give.Goals as goal
use borrow.Author.Differences.{up}

pub hand-requires : goal.hand-requires
hand-requires g c =
    let n : ℕ = 64 * g.row.W in
    let net = c.args.network.now in
    let hf = net.inside _ c.requires.from in
    let ht = net.inside _ c.requires.to in
    let fine_left : SFits w128 c.index-left.result.now = search rules in
    let fine_lacks : SFits w128 c.index-lacks.result.now = search rules in
    let rl = read_rest n _ _ _ c.args.from _ net.sized hf c.index-left.ensures in
    let rk = read_rest n _ _ _ c.args.to _ net.sized ht c.index-lacks.ensures in
    let tl = c.if-left-gt0.true in
    let tk = c.if-lacks-lt0.true in
    let above : pos 0 <ℤ weight_at net.rest.items c.args.from = omega (arith, ints, rl, tl) in
    let under : weight_at net.rest.items c.args.to <ℤ pos 0 = omega (arith, ints, rk, tk) in
    let f = giving n _ _ net.rest.items c.args.from c.args.to _ _ _ _ c.min-amount.result net.sized hf ht c.index-left.ensures c.index-lacks.ensures
    fine_left fine_lacks c.unsigned_abs.ensures.value c.unsigned_abs-then-lacks-lt0.ensures.value c.min-amount.ensures above under in
    let least : c.min-amount.result ≤ up (weight_at net.rest.items c.args.from) = omega (arith, ints, f.0) in (
      network_fits g.row.W _ _ _ net.sized,
      (c.requires.from, (c.requires.to, (f.2, (f.0, (room_below _ _ f.1, omega (arith, c.requires.held, least)))))),
    )

pub returns-then-lacks-lt0-clause-gives : goal.returns-then-lacks-lt0-clause-gives
returns-then-lacks-lt0-clause-gives g c =
    let n : ℕ = 64 * g.row.W in
    let net = c.args.network.now in
    let hf = net.inside _ c.requires.from in
    let ht = net.inside _ c.requires.to in
    let fine_left : SFits w128 c.index-left.result.now = search rules in
    let fine_lacks : SFits w128 c.index-lacks.result.now = search rules in
    let rl = read_rest n _ _ _ c.args.from _ net.sized hf c.index-left.ensures in
    let rk = read_rest n _ _ _ c.args.to _ net.sized ht c.index-lacks.ensures in
    let tl = c.if-left-gt0.true in
    let tk = c.if-lacks-lt0.true in
    let above : pos 0 <ℤ weight_at net.rest.items c.args.from = omega (arith, ints, rl, tl) in
    let under : weight_at net.rest.items c.args.to <ℤ pos 0 = omega (arith, ints, rk, tk) in
    let f = giving n _ _ net.rest.items c.args.from c.args.to _ _ _ _ c.min-amount.result net.sized hf ht c.index-left.ensures c.index-lacks.ensures
    fine_left fine_lacks c.unsigned_abs.ensures.value c.unsigned_abs-then-lacks-lt0.ensures.value c.min-amount.ensures above under in
    record { amount = c.min-amount.result; left = omega (arith, ints, f.0); lacked = omega (arith, ints, f.1); hands = c.hand.ensures.hands }

pub returns-else-left-gt0-clause-gives : goal.returns-else-left-gt0-clause-gives
returns-else-left-gt0-clause-gives g c =
    record { amount = 0; left = omega arith; lacked = omega arith; hands = hands_none (64 * g.row.W) _ _ c.args.from c.args.to }
