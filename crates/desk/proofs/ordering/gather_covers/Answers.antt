use Rattle.std.proofs.Common.{arith, inl, inr, refl, sym, subst, ◌∙◌, List, ℕ}
use Rattle.std.specs.Prelude.{Contains}
use Rattle.graphs.specs.Closures.{is_ancestor, is_member}
use Rattle.graphs.specs.Merges.{Precedes}
use Rattle.graphs.proofs.ClosingLemmas.{covers_agree, order_from}
use Rattle.graph_model.specs.States.{level_of}
use Rattle.levels.specs.Levels.{level_at}
use Rattle.tx_graph.proofs.Standing.{graph_at}
use Rattle.lists.proofs.Cases.{clash}
use Rattle.desk.proofs.OrderLemmas.{level_names, not_over, pick_is}
use Rattle.desk.proofs.ordering.gather_covers.Goals as goal

pub returns-then-not-exists : goal.returns-then-not-exists
returns-then-not-exists c = inr (λ state stands. inl (λ here. clash c.exists.result ((c.exists.ensures state stands).1 here) c.if-not-exists.true, refl))

pub covers-requires : goal.covers-requires
covers-requires c =
    let kept = c.args.graph.now in
    let some = c.additions-stands.ensures.stands in (
      search arith,
      (
        search arith,
        (
          not_over kept.levels c.args.level c.oversized.result c.oversized.ensures.exact c.if-oversized.false,
          (level_names kept some.0 some.1 c.args.level c.args.id).1 ((c.exists.ensures some.0 some.1).0 c.if-not-exists.false),
        ),
      ),
    )

pub returns-then-oversized : goal.returns-then-oversized
returns-then-oversized c = inr (λ state stands. inr (
  λ absent. absent ((c.exists.ensures state stands).0 c.if-not-exists.false),
  inl ((c.oversized.ensures.state state stands).0 c.if-oversized.true, refl),
))

pub returns-in-Ok : goal.returns-in-Ok
returns-in-Ok c = λ state stands.
    let kept = c.args.graph.now in
    let one = level_at kept.levels c.args.level in
    let plain = level_of state.plain c.args.level in
    let is = graph_at kept state.plain stands.plain c.args.level in
    let agree = covers_agree one.graph plain (order_from (is_member one.graph) (is_ancestor one.graph) plain is.closure is.among) is.closure in
    let listed = c.covers.ensures in record {
      pick = one.parts;
      order = pick_is kept state c.args.level stands (not_over kept.levels c.args.level c.oversized.result c.oversized.ensures.exact c.if-oversized.false);
      exact = λ a. (
        λ here. (agree a c.args.id).1 ((listed.exact a).0 (subst (λ (l : List ℕ). Contains l a) (c.from_vec.ensures ∙ c.in-Ok.ensures) here)),
        λ cover. subst (λ (l : List ℕ). Contains l a) (sym (c.from_vec.ensures ∙ c.in-Ok.ensures)) ((listed.exact a).1 ((agree a c.args.id).0 cover)),
      );
      in_order = λ a b before. listed.in_order a b (subst (λ (l : List ℕ). Precedes l a b) (c.from_vec.ensures ∙ c.in-Ok.ensures) before);
    }
