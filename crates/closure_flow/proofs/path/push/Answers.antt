use Rattle.std.proofs.Common.{◌*◌, ◌∙◌, inl, inr, refl, sym, arith, pos, neg_ℤ}
use Rattle.std.proofs.lemmas.Int.{ints}
use Rattle.closure_flow.specs.Networks.{sent}
use Rattle.closure_flow.proofs.Networks.{read_parents}
use Rattle.closure_flow.proofs.Paths.{pushes, against_only}
use Rattle.closure_flow.proofs.path.push.Goals as goal

pub returns-then-has-clause-pushes : goal.returns-then-has-clause-pushes
returns-then-has-clause-pushes g c =
    let pair = read_parents _ c.args.from c.args.to _ (c.requires.parents _ c.requires.from) c.index-parents-from.is ∙ sym c.has.ensures ∙ c.if-has.true in
    pushes (64 * g.row.W) c.args.parents.now c.args.network.now.within
    (sent (64 * g.row.W) c.args.network.now.into.items c.args.network.now.amounts.items)
    (sent (64 * g.row.W) c.set_sent.new.self.into.items c.set_sent.new.self.amounts.items)
    c.args.from c.args.to c.args.amount c.args.from c.args.to (pos c.args.amount)
    c.args.network.now.inside c.requires.allowed c.requires.from c.requires.to c.requires.apart (inl (refl, refl, refl))
    (omega (arith, ints, c.set_sent.ensures.here, c.sent-flow.ensures))
    c.set_sent.ensures.others (λ h. pair)

pub returns-else-has-clause-pushes : goal.returns-else-has-clause-pushes
returns-else-has-clause-pushes g c =
    let pair = read_parents _ c.args.from c.args.to _ (c.requires.parents _ c.requires.from) c.index-parents-from.is ∙ sym c.has.ensures ∙ c.if-has.false in
    let less = against_only c.args.parents.now (sent (64 * g.row.W) c.args.network.now.into.items c.args.network.now.amounts.items)
    c.args.amount c.args.from c.args.to c.requires.lets pair in
    pushes (64 * g.row.W) c.args.parents.now c.args.network.now.within
    (sent (64 * g.row.W) c.args.network.now.into.items c.args.network.now.amounts.items)
    (sent (64 * g.row.W) c.set_sent-else-has.new.self.into.items c.set_sent-else-has.new.self.amounts.items)
    c.args.from c.args.to c.args.amount c.args.to c.args.from (neg_ℤ (pos c.args.amount))
    c.args.network.now.inside c.requires.allowed c.requires.from c.requires.to c.requires.apart (inr (refl, refl, refl))
    (omega (arith, ints, c.set_sent-else-has.ensures.here, c.sent-flow-else-has.ensures, less))
    c.set_sent-else-has.ensures.others
    (λ h. (c.requires.allowed c.args.to c.args.from (c.args.network.now.inside _ c.requires.to) c.requires.from
    (omega (arith, c.set_sent-else-has.ensures.here, c.sent-flow-else-has.ensures, h))).1)
