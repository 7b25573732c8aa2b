use Rattle.std.proofs.Common.{◌≡◌, ℕ, ◌*◌, ◌≤◌, ap, ◌∙◌, inl, true, rules, arith, SFits, pos, ◌≤ℤ◌, ◌<ℤ◌}
use Rattle.std.proofs.lemmas.Int.{ints}
use Rattle.std.specs.Int.{w128}
use Rattle.std.specs.FinSet as set
use Rattle.lists.proofs.Cases.{clash}
use Rattle.closure_flow.specs.Closures.{weight_at}
use Rattle.closure_flow.specs.Networks.{sent}
use Rattle.closure_flow.proofs.Firsts.{arranges_hand, room_for_left}
use Rattle.closure_flow.proofs.Networks.{network_fits, read_rest}
use Rattle.closure_flow.proofs.Steadiness.{read_left}
use Rattle.closure_flow.proofs.first.hand_on.Goals as goal
use borrow.Author.Differences.{up}

pub hand-requires : goal.hand-requires
hand-requires g c =
    let n : ℕ = 64 * g.row.W in
    let net = c.args.network.now in
    let here = net.inside _ c.requires.place in
    let fine : SFits w128 c.index-left.result.now = search rules in
    let read = read_rest n _ _ _ c.args.place _ net.sized here c.index-left.ensures in
    let test = c.if-left-le0.false in
    let above : pos 0 <ℤ weight_at net.rest.items c.args.place = omega (arith, ints, read, test) in
    let enough : pos c.unsigned_abs.result ≤ℤ weight_at net.rest.items c.args.place =
    read_left n _ _ net.rest.items c.args.place _ c.unsigned_abs.result c.unsigned_abs.result net.sized here c.index-left.ensures fine
    c.unsigned_abs.ensures.value above (omega arith) in
    let left : c.unsigned_abs.result ≤ up (weight_at net.rest.items c.args.place) = omega (arith, ints, enough) in
    let parent : set.contains net.within c.in-Some.parent ≡ true = c.requires.first.inside c.in-Some.parent c.in-Some.ensures.to_come in
    let room = room_for_left n _ _ _ (sent n net.into.items net.amounts.items) (weight_at net.rest.items)
    c.args.place c.in-Some.parent c.unsigned_abs.result c.requires.first net.inside c.requires.place parent left in (
      network_fits g.row.W _ _ _ net.sized,
      (
        c.requires.place,
        (parent, (λ e. clash _ (ap (λ (t : ℕ). set.contains c.args.to_come.now t) e ∙ c.in-Some.ensures.to_come) c.requires.past, (enough, room))),
      ),
    )

pub returns-in-Some-clause-arranges : goal.returns-in-Some-clause-arranges
returns-in-Some-clause-arranges g c =
    let n : ℕ = 64 * g.row.W in
    let net = c.args.network.now in
    let here = net.inside _ c.requires.place in
    let fine : SFits w128 c.index-left.result.now = search rules in
    let read = read_rest n _ _ _ c.args.place _ net.sized here c.index-left.ensures in
    let test = c.if-left-le0.false in
    let above : pos 0 <ℤ weight_at net.rest.items c.args.place = omega (arith, ints, read, test) in
    let enough : pos c.unsigned_abs.result ≤ℤ weight_at net.rest.items c.args.place =
    read_left n _ _ net.rest.items c.args.place _ c.unsigned_abs.result c.unsigned_abs.result net.sized here c.index-left.ensures fine
    c.unsigned_abs.ensures.value above (omega arith) in
    arranges_hand n _ _ _ _ _ _ _ c.args.place c.in-Some.parent c.unsigned_abs.result
    (record {
      below = net.inside;
      from_in = c.requires.place;
      to_in = c.requires.first.inside c.in-Some.parent c.in-Some.ensures.to_come;
      pair = c.in-Some.ensures.parent;
      apart = λ e. clash _ (ap (λ (t : ℕ). set.contains c.args.to_come.now t) e ∙ c.in-Some.ensures.to_come) c.requires.past;
      past = c.requires.past;
      left = omega (arith, ints, enough);
      sink = inl c.in-Some.ensures.to_come;
    }) c.hand.ensures.hands c.requires.first
