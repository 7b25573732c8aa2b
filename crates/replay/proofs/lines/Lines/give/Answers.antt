use Rattle.std.proofs.Common.{inl, inr, subst}
use Rattle.graph_model.specs.Lines.{IsOneLine}
use Rattle.replay.specs.Cutters.{Cutter}
use Rattle.replay.proofs.CutLemmas.{not_line}
use Rattle.replay.proofs.lines.Lines.give.Goals as goal

pub give_last-requires-clause-stopped : goal.give_last-requires-clause-stopped
give_last-requires-clause-stopped c =
    let one = rw c.in-None.is at c.self.invariant.0 in
    elim c.requires
    [ inl line ↦ absurd (not_line c.args.self.now.held (subst (λ (k : Cutter). IsOneLine k.held) c.self.view_is one) line) | inr stopped ↦ stopped ]
