use Rattle.std.proofs.Common.{◌*◌, sym, subst}
use Rattle.graphs.specs.Certificates.{Txs}
use Rattle.graph_model.specs.Limits.{Bounds, bounds_of}
use Rattle.dump_text.specs.Lists.{text_of}
use Rattle.dump.specs.Loading.{AreSmall, FitsAndIsMade}
use Rattle.dump.proofs.loading.make.Goals as goal

pub returns-then-not-are_small : goal.returns-then-not-are_small
returns-then-not-are_small g c fits =
    c.if-not-are_small.ensures
    (subst (λ (ts : Txs). AreSmall (bounds_of c.args.limits) ts) (sym c.as_slice.ensures.value) (record { few = fits.few; sizes = fits.sizes }))

pub returns-in-Ok : goal.returns-in-Ok
returns-in-Ok g c =
    subst (λ (b : Bounds). FitsAndIsMade (64 * g.row.W) b (text_of c.args.lists.now) c.fill.new.graph) (sym c.in_ok-graph.ensures.start.plain.limits)
    c.in-Ok.ensures
