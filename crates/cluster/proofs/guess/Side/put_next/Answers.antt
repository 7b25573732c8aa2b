use Rattle.std.proofs.Common.{ℕ, ◌<◌, Contains, sym, subst}
use Rattle.graphs.specs.Certificates.{Part}
use Rattle.linearize.specs.Graphs.{sum_from}
use Rattle.cluster.proofs.Images.{there_at, puts_wider, puts_nothing}
use Rattle.cluster.proofs.guess.Side.put_next.Goals as goal

pub returns : goal.returns
returns g c =
    let own : Part = record { rate = sum_from c.part-part.result.rate; ids = c.part-part.result.ids.now; flows = c.part-part.result.flows.now } in
    puts_wider c.args.names.now (λ (part : Part). Contains c.args.cluster.now.parts part) _ _ _ _ _ _ _ c.put_part.ensures (λ p so.
    subst (λ (q : Part). Contains c.args.cluster.now.parts q) (sym so.1)
    (there_at c.args.cluster.now.parts c.args.self.now.next own
    (subst (λ (m : ℕ). c.args.self.now.next < m) c.part_count.ensures c.if-self-part_count.false) c.part-part.ensures))

pub returns-then-self-part_count : goal.returns-then-self-part_count
returns-then-self-part_count g c = puts_nothing c.args.names.now (λ (part : Part). Contains c.args.cluster.now.parts part) _ _ _
