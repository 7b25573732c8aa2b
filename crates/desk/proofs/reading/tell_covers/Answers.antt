use Rattle.std.proofs.Common.{◌≡◌, Err, List, ℕ, Some, inl, inr, length, refl, ap, subst, ◌∙◌}
use Rattle.graph_model.specs.Commands.{Ancestors}
use Rattle.graph_model.specs.Refusals.{RefusalIs}
use Rattle.graph_model.specs.States.{State}
use Rattle.reorg.specs.Kept.{StandsFor}
use Rattle.desk.specs.Copies.{copied}
use Rattle.desk.specs.Orders.{AreCovers, GathersCovers}
use Rattle.desk.proofs.OrderLemmas.{of_pool}
use Rattle.desk.proofs.reading.tell_covers.Goals as goal

pub returns-in-Ok : goal.returns-in-Ok
returns-in-Ok c =
    let found = c.in-Ok.found in
    let told = of_pool c.args.desk.now c.graph.result.now c.graph.ensures (λ (s : State). AreCovers s c.args.level c.args.id found) c.in-Ok.ensures in
    inr (
      found,
      told,
      refl,
      refl,
      subst (λ (l : List ℕ). c.show_ids.new.ids ≡ copied l c.args.ids.now) c.as_slice.ensures c.show_ids.ensures.items,
      c.show_ids.ensures.count ∙ ap length c.as_slice.ensures,
    )

pub returns-in-Err : goal.returns-in-Err
returns-in-Err c =
    let why = c.in-Err.why in
    let row : GathersCovers (StandsFor c.args.desk.now.pool) c.args.level c.args.id (Err why) = elim c.in-Err.ensures [
      | inl none ↦ inl none
      | inr row ↦ inr (of_pool c.args.desk.now c.graph.result.now c.graph.ensures
          (λ (s : State). RefusalIs s.plain (Ancestors c.args.id c.args.level) (Some why)) row)
    ] in inl (why, row, c.refuse.ensures.code, c.refuse.ensures.kept, refl, refl)
