-- The links become records, or are refused.
use Rattle.std.proofs.Common.{◌≡◌, ◌≢◌, ◌≤◌, ◌*◌, [], false, All, sym, ap, ◌∙◌, subst, arith}
use Rattle.graphs.specs.declared.names.Level.TheVariants.{Top}
use Rattle.graph_model.specs.declared.names.Limits.{Limits}
use Rattle.graph_model.specs.declared.names.Refusal.TheVariants.{Memory}
use Rattle.links.specs.Closing.{closure}
use Rattle.record.specs.Leaving.{GrowsFor}
use Rattle.record.specs.Records.{IsFitted}
use Rattle.record.specs.Restoring as restoring
use Rattle.levels.specs.Restores.{BringsNoneOver, BringsOver}
use Rattle.levels.specs.Shelves.{Shelf, view_of}
use Rattle.levels.specs.Views.{graph_of}
use Rattle.levels.proofs.Collected.{all_few}
use Rattle.levels.proofs.Listing.{handed}
use Rattle.levels.proofs.Overlimit.{brings_none, brings_over, restores_within}
use Rattle.levels.proofs.Rooms.{record_fits, work_fits}
use Rattle.levels.proofs.shelves.Shelves.returned.Goals as goal

pub all_of-requires : goal.all_of-requires
all_of-requires g c =
    let found = c.in-Ok.ensures in (
      work_fits g.row.W c.requires.order.narrow,
      (
        record_fits g.row.W c.requires.order.narrow,
        (
          (
            c.requires.order.wide,
            omega (arith, c.requires.order.narrow),
            subst (λ (l : Limits). l.count ≤ 64 * g.row.W) (sym (ap (λ (s : Shelf). s.limits) c.self.view_is)) c.requires.order.in_range.count_high,
          ),
          all_few g.row.W c.args.self.now c.requires.order c.args.txs.now c.args.pairs.now c.requires.may c.in-Ok.found.outs.items found.met found.here
              found.are_here c.in-Ok.found.links.txs found.all_pairs found.puts,
        ),
      ),
    )

pub returns-in_err-news-clause-row : goal.returns-in_err-news-clause-row
returns-in_err-news-clause-row g c =
    let shelf = c.args.self.now in
    let limits = ap (λ (s : Shelf). s.limits) c.self.view_is in
    handed (λ _. shelf.limits.defer ≡ false → BringsNoneOver shelf.limits (graph_of (view_of Top shelf)) c.args.txs.now c.args.pairs.now)
    (λ why. why ≢ Memory → BringsOver shelf.limits (graph_of (view_of Top shelf)) c.args.txs.now c.args.pairs.now why) c.from_residual.result
    c.in_err-news.field-0.0 c.from_residual.ensures.1
    (λ other. brings_over g.row.W shelf c.requires.order c.args.txs.now c.args.pairs.now c.requires.may c.in-Ok.found.outs.items c.in-Ok.found.links c.in-Ok.ensures
    shelf.limits c.in_err-news.field-0.0
    (subst (λ (l : Limits). restoring.BringsOver l c.in-Ok.found.links c.in_err-news.field-0.0) limits (c.in_err-news.ensures.over other).0))

pub returns-in_err-news-clause-steps : goal.returns-in_err-news-clause-steps
returns-in_err-news-clause-steps g c =
    let shelf = c.args.self.now in
    restores_within g.row.W shelf c.requires.order c.args.txs.now c.args.pairs.now c.requires.may c.in-Ok.found.outs.items c.in-Ok.found.links c.in-Ok.ensures
    shelf.limits c.args.steps.now c.all_of.new.steps
    (subst (λ (l : Limits). GrowsFor l (closure c.in-Ok.found.links) [] c.args.steps.now c.all_of.new.steps) (ap (λ (s : Shelf). s.limits) c.self.view_is)
    c.all_of.ensures.steps)

pub returns-in_err-news-clause-refused : goal.returns-in_err-news-clause-refused
returns-in_err-news-clause-refused g c =
    handed (λ _. Unit {0}) (λ why. why ≢ Memory → c.all_of.new.steps ≡ c.args.steps.now) c.from_residual.result c.in_err-news.field-0.0 c.from_residual.ensures.1
    (λ other. (c.in_err-news.ensures.over other).1)

pub returns-clause-row : goal.returns-clause-row
returns-clause-row g c strict =
    let shelf = c.args.self.now in
    let limits = ap (λ (s : Shelf). s.limits) c.self.view_is in
    brings_none g.row.W shelf c.requires.order c.args.txs.now c.args.pairs.now c.requires.may c.in-Ok.found.outs.items c.in-Ok.found.links c.in-Ok.ensures
    shelf.limits
    (subst (λ (l : Limits). restoring.BringsNoneOver l c.in-Ok.found.links) limits (c.in_ok-news.ensures.within (ap (λ (l : Limits). l.defer) limits ∙ strict)))

pub returns-clause-steps : goal.returns-clause-steps
returns-clause-steps g c =
    let shelf = c.args.self.now in
    restores_within g.row.W shelf c.requires.order c.args.txs.now c.args.pairs.now c.requires.may c.in-Ok.found.outs.items c.in-Ok.found.links c.in-Ok.ensures
    shelf.limits c.args.steps.now c.all_of.new.steps
    (subst (λ (l : Limits). GrowsFor l (closure c.in-Ok.found.links) [] c.args.steps.now c.all_of.new.steps) (ap (λ (s : Shelf). s.limits) c.self.view_is)
    c.all_of.ensures.steps)

pub returns-clause-comes : goal.returns-clause-comes
returns-clause-comes g c = record {
  links = c.in-Ok.found.links;
  gathers = c.in-Ok.ensures;
  split = c.in_ok-news.ensures.split;
  fitted = subst (λ (l : Limits). All (IsFitted (64 * g.row.W) l) c.in_ok-news.news.items) (ap (λ (s : Shelf). s.limits) c.self.view_is)
      c.in_ok-news.ensures.fitted;
}
