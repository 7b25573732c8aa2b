use Rattle.std.proofs.Common.{◌≤◌, Some, sym, ap, subst, length, length-append, ◌∷◌, arith}
use Rattle.graph_model.specs.Lines.{max_line}
use Rattle.replay.specs.Cutters.{Cutter}
use Rattle.replay.specs.Cuts.{EndsIn, HasFeed}
use Rattle.replay.proofs.CutLemmas.{cut_at, whole_given, long_given}
use Rattle.replay.proofs.lines.Lines.give_line.Goals as goal

pub returns-then-long-clause-next : goal.returns-then-long-clause-next
returns-then-long-clause-next c rest leaves =
    let w = c.self.inside in
    let ends = subst (λ (k : Cutter). EndsIn k.long k.held rest) (sym c.self.view_is) leaves in
    let feed = subst (λ (k : Cutter). HasFeed (Some c.args.count) k.held) (sym c.self.view_is) c.requires in
    let parts = cut_at w.window.held feed.0 feed.1 c.cut.new.self.line c.cut.new.self.held c.args.count feed.2 feed.4 c.cut.ensures.line c.cut.ensures.held in
    long_given w.long w.window.held rest feed.0 feed.1 c.cut.new.self.held c.if-long.true ends feed.2 feed.3 parts.1

pub returns-clause-next : goal.returns-clause-next
returns-clause-next c rest leaves =
    let w = c.self.inside in
    let ends = subst (λ (k : Cutter). EndsIn k.long k.held rest) (sym c.self.view_is) leaves in
    let feed = subst (λ (k : Cutter). HasFeed (Some c.args.count) k.held) (sym c.self.view_is) c.requires in
    let parts = cut_at w.window.held feed.0 feed.1 c.cut.new.self.line c.cut.new.self.held c.args.count feed.2 feed.4 c.cut.ensures.line c.cut.ensures.held in
    let fits : length c.cut.new.self.line ≤ max_line =
    omega (arith, ap length parts.0, feed.4, ap length feed.2, length-append feed.0 (10 ∷ feed.1), c.cut.ensures.fits) in
    (fits, whole_given w.long w.window.held rest feed.0 feed.1 c.cut.new.self.line c.cut.new.self.held c.if-long.false ends feed.2 feed.3 parts.0 parts.1)
