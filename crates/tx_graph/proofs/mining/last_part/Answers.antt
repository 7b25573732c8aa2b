use Rattle.std.proofs.Common.{rules, lit<, map, sym, ap, ◌∙◌, refl, inl, inr}
use Rattle.std.specs.Int.{w128}
use Rattle.std.proofs.lemmas.Int.{to_z-of_z}
use Rattle.cluster_store.specs.Lent.{lent}
use Rattle.cluster_store.specs.Stores.{Shown}
use Rattle.cluster_store.specs.Walks.{shown_part}
use Rattle.tx_graph.proofs.Calls.{tested}
use Rattle.tx_graph.proofs.Mined.{shown_last}
use Rattle.tx_graph.proofs.mining.last_part.Goals as goal

pub oversized-requires : goal.oversized-requires
oversized-requires g c = assumption

pub parts-requires : goal.parts-requires
parts-requires g c = (assumption, (lit< tt, tested c.oversized.result c.oversized.ensures c.if-oversized.false))

pub returns-then-oversized : goal.returns-then-oversized
returns-then-oversized g c = inl (refl, c.oversized.ensures.0 c.if-oversized.true)

pub returns-in_default : goal.returns-in_default
returns-in_default g c =
    inr (
      tested c.oversized.result c.oversized.ensures c.if-oversized.false,
      inl (refl, sym c.parts.ensures.parts ∙ ap (map (λ (s : Shown). s.part)) c.in_default.ensures.steps.0),
    )

pub returns-in-Ok : goal.returns-in-Ok
returns-in-Ok g c = (
  lent c.in-Some.shown.part,
  record {
    within = tested c.oversized.result c.oversized.ensures c.if-oversized.false;
    best = c.parts.ensures.best;
    last = shown_last c.args.levels.now.main.parts c.parts.result c.next_back.new.self (shown_part c.in-Some.shown) c.parts.ensures.parts c.in-Some.ensures.steps;
    told = record {
      fee = to_z-of_z w128 c.from-sum.result.fee (search rules) ∙ c.from-sum.ensures.0;
      size = c.from-sum.ensures.1;
      ids = c.from_vec.ensures ∙ c.in-Ok.ensures.items;
    };
  },
)

pub returns-in-Err : goal.returns-in-Err
returns-in-Err g c =
    inr (
      tested c.oversized.result c.oversized.ensures c.if-oversized.false,
      inr (
        refl,
        (
          lent c.in-Some.shown.part,
          shown_last c.args.levels.now.main.parts c.parts.result c.next_back.new.self (shown_part c.in-Some.shown) c.parts.ensures.parts
              c.in-Some.ensures.steps,
        ),
      ),
    )
