use Rattle.std.proofs.Common.{ℕ, ◌<◌, Contains, sym, subst}
use Rattle.graphs.specs.Certificates.{Part}
use Rattle.linearize.specs.Graphs.{sum_from}
use Rattle.cluster.proofs.Images.{images_more, images_none, there_at}
use Rattle.cluster.proofs.guess.guess_part.Goals as goal

pub loop-at-init : goal.loop-at-init
loop-at-init g c = images_none c.args.names.now (λ (part : Part). Contains c.args.old.now.parts part) _ _ _ c.clear.ensures

pub loop-at-preserved : goal.loop-at-preserved
loop-at-preserved g c =
    let own : Part = record { rate = sum_from c.part.result.rate; ids = c.part.result.ids.now; flows = c.part.result.flows.now } in
    let there : Contains c.args.old.now.parts own = there_at c.args.old.now.parts c.loop-at.at own
    (subst (λ (m : ℕ). c.loop-at.at < m) c.part_count-at-end.ensures c.loop-at-test.true) c.part.ensures in
    images_more c.args.names.now (λ (part : Part). Contains c.args.old.now.parts part) _ c.loop-at.guess.places.items c.loop-at.guess.flows.items c.loop-at.guess.parts.items
    c.put_part.new.guess.places.items c.put_part.new.guess.flows.items c.put_part.new.guess.parts.items c.loop-at.invariant c.put_part.ensures
    (λ p so. subst (λ (q : Part). Contains c.args.old.now.parts q) (sym so.1) there)
