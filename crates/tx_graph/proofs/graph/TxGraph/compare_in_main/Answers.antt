-- Names of main have their places in its order, and others come behind them.
use Rattle.std.proofs.Common.{Equal, Greater, Less, ◌≡◌, ◌*◌, sym, ◌∙◌, subst}
use Rattle.std.specs.Ordering.{nat_cmp}
use Rattle.graphs.specs.declared.names.Level.TheVariants.{Main}
use Rattle.graph_model.specs.Answers.{order_of, StandsTo}
use Rattle.tx_graph.specs.Kept.{Kept}
use Rattle.tx_graph.specs.MainOrder.{place_in}
use Rattle.tx_graph.proofs.Calls.{kept_of, within_view}
use Rattle.tx_graph.proofs.MainOrders.{main_after, main_before, main_known, main_neither, main_unknown}
use Rattle.tx_graph.proofs.graph.TxGraph.compare_in_main.Goals as goal

pub returns-then-first : goal.returns-then-first
returns-then-first g c =
    let kept = kept_of (64 * g.row.W) c.self.inside.begun c.self.inside.levels in
    let within = within_view kept c.args.self.now Main c.self.view_is c.requires in
    subst (λ (k : Kept). Less ≡ nat_cmp (place_in (order_of k.levels.main.parts) c.args.a)
    (place_in (order_of k.levels.main.parts) c.args.b)) c.self.view_is
    (main_known kept c.self.invariant.picked within c.self.invariant.stands c.args.a c.args.b
    (sym c.has-first.ensures ∙ c.if-first.true) (sym c.has-second.ensures ∙ c.if-not-second.true))

pub returns-then-not-second : goal.returns-then-not-second
returns-then-not-second g c =
    let kept = kept_of (64 * g.row.W) c.self.inside.begun c.self.inside.levels in
    let within = within_view kept c.args.self.now Main c.self.view_is c.requires in
    subst (λ (k : Kept). Equal ≡ nat_cmp (place_in (order_of k.levels.main.parts) c.args.a)
    (place_in (order_of k.levels.main.parts) c.args.b)) c.self.view_is
    (main_neither kept c.self.invariant.picked within c.self.invariant.stands c.args.a c.args.b
    (sym c.has-first.ensures ∙ c.if-first.false) (sym c.has-second.ensures ∙ c.if-not-second.true))

pub returns-then-not-first : goal.returns-then-not-first
returns-then-not-first g c =
    let kept = kept_of (64 * g.row.W) c.self.inside.begun c.self.inside.levels in
    let within = within_view kept c.args.self.now Main c.self.view_is c.requires in
    subst (λ (k : Kept). Greater ≡ nat_cmp (place_in (order_of k.levels.main.parts) c.args.a)
    (place_in (order_of k.levels.main.parts) c.args.b)) c.self.view_is
    (main_unknown kept c.self.invariant.picked within c.self.invariant.stands c.args.a c.args.b
    (sym c.has-first.ensures ∙ c.if-not-first.true) (sym c.has-second.ensures ∙ c.if-not-second.false))

pub returns-in-Before : goal.returns-in-Before
returns-in-Before g c =
    let kept = kept_of (64 * g.row.W) c.self.inside.begun c.self.inside.levels in
    let within = within_view kept c.args.self.now Main c.self.view_is c.requires in
    subst (λ (k : Kept). Less ≡ nat_cmp (place_in (order_of k.levels.main.parts) c.args.a)
    (place_in (order_of k.levels.main.parts) c.args.b)) c.self.view_is
    (main_before kept c.self.invariant.picked within c.self.invariant.stands c.args.a c.args.b
    (subst (StandsTo (order_of c.self.inside.levels.main.parts) c.args.a c.args.b) c.in-Before.is c.place.ensures))

pub returns-in-After : goal.returns-in-After
returns-in-After g c =
    let kept = kept_of (64 * g.row.W) c.self.inside.begun c.self.inside.levels in
    let within = within_view kept c.args.self.now Main c.self.view_is c.requires in
    subst (λ (k : Kept). Greater ≡ nat_cmp (place_in (order_of k.levels.main.parts) c.args.a)
    (place_in (order_of k.levels.main.parts) c.args.b)) c.self.view_is
    (main_after kept c.self.invariant.picked within c.self.invariant.stands c.args.a c.args.b
    (subst (StandsTo (order_of c.self.inside.levels.main.parts) c.args.a c.args.b) c.in-After.is c.place.ensures))
