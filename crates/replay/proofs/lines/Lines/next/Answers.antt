use Rattle.std.proofs.Common.{◌<◌, ◌≤◌, refl, sym, ap, subst, ◌∙◌}
use Rattle.graph_model.specs.Lines.{max_input}
use Rattle.replay.specs.declared.lines.Next.TheVariants.{Line}
use Rattle.replay.specs.declared.session.Piece.TheVariants.{Whole, TooLong}
use Rattle.replay.specs.Cutters.{Cutter}
use Rattle.replay.specs.Cuts.{GivesNext, ahead}
use Rattle.replay.proofs.CutLemmas.{whole_next, long_next}
use Rattle.replay.proofs.lines.Lines.next.Goals as goal

pub returns-in-Whole : goal.returns-in-Whole
returns-in-Whole g c =
    let found = c.in-Whole.ensures in
    let left = g.S.Source.left c.args.source.now in
    let after = g.S.Source.left c.find.new.source in
    let view = sym c.self.view_is in (
      (
        refl,
        λ _. tt,
        (
          λ rest leaves. subst (λ (k : Cutter). GivesNext c.args.self.now k left after rest (Line (Whole c.line.result))) view
              (whole_next c.args.self.now c.find.new.self left after rest c.line.result
              (c.line.ensures ∙ ap (λ (k : Cutter). k.line) c.self.view_is) (found.next rest leaves)),
          subst (λ (k : Cutter). k.taken ≤ max_input) view found.within,
          λ given. subst (λ (k : Cutter). ahead k < ahead c.args.self.now) view (found.ahead tt),
        ),
      ),
      record { after = tt; faults = found.faults; ready = λ ready. ((found.ready ready).0, λ e. cc) },
    )

pub returns-in-Long : goal.returns-in-Long
returns-in-Long g c =
    let found = c.in-Long.ensures in
    let left = g.S.Source.left c.args.source.now in
    let after = g.S.Source.left c.find.new.source in
    let view = sym c.self.view_is in (
      (
        refl,
        λ _. tt,
        (
          λ rest leaves. subst (λ (k : Cutter). GivesNext c.args.self.now k left after rest (Line TooLong)) view
              (long_next c.args.self.now c.find.new.self left after rest (found.next rest leaves)),
          subst (λ (k : Cutter). k.taken ≤ max_input) view found.within,
          λ given. subst (λ (k : Cutter). ahead k < ahead c.args.self.now) view (found.ahead tt),
        ),
      ),
      record { after = tt; faults = found.faults; ready = λ ready. ((found.ready ready).0, λ e. cc) },
    )
