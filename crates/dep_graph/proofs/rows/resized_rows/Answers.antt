use Rattle.std.proofs.Common.{refl, ◌∙◌, ◌+◌, ◌*◌, subst, sym, arith}
use Rattle.dep_graph.specs.declared.rows.Row.{Row}
use Rattle.dep_graph.specs.Changes.{BothBecome, IsCutAt, AreResized}
use Rattle.dep_graph.proofs.Reading.{row_read}
use Rattle.dep_graph.proofs.Resized.{AreResized-more}
use Rattle.dep_graph.proofs.rows.resized_rows.Goals as goal

pub loop-place-preserved : goal.loop-place-preserved
loop-place-preserved g c =
    let row : Row g.row.V =
    record { rate = c.index-from-place.result.rate; ancestors = c.resized.result; descendants = c.resized-in-loop-place.result } in (
      subst (AreResized g.row.V (c.loop-place.place + 1) c.args.from.now) (sym c.push_reserved.ensures.items)
          (AreResized-more c.loop-place.place c.args.from.now c.loop-place.rows.items row c.loop-place.invariant.0
          (subst (λ was. BothBecome (IsCutAt (64 * g.row.V)) was row)
          (row_read c.args.from.now c.loop-place.place c.index-from-place.result c.index-from-place.is (omega (arith, c.loop-place-test.true, c.requires)))
          (record { rate = refl; ancestors = c.resized.ensures; descendants = c.resized-in-loop-place.ensures }))),
      c.push_reserved.ensures.capacity ∙ c.loop-place.invariant.1,
    )
