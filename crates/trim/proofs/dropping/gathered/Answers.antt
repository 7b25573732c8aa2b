use Rattle.std.proofs.Common.{◌∷◌, [], ◌++◌, map, sym, ap, ◌∙◌, subst}
use Rattle.std.specs.Borrow.{Bor}
use Rattle.std.proofs.lemmas.List.{map-append}
use Rattle.graphs.specs.Certificates.{rate_in}
use Rattle.graphs.specs.declared.names.Level.TheVariants.{Top}
use Rattle.graph_model.specs.declared.names.Limits.{Limits}
use Rattle.graph_model.specs.Limits.{bounds_of}
use Rattle.graph_model.specs.Trims.{IsTrimmed}
use Rattle.links.specs.Links.{Links, graph}
use Rattle.levels.specs.Levels.{level_at}
use Rattle.levels.specs.Overs.{LendsOvers}
use Rattle.trim.specs.Trimmed.{AreTrimmed}
use Rattle.trim.proofs.Gathering.{given_all, given_one, trimmed_push, whole_one}
use Rattle.trim.proofs.dropping.gathered.Goals as goal

pub loop-links-preserved : goal.loop-links-preserved
loop-links-preserved g c =
    let limits = c.args.graph.now.levels.limits in
    let given = c.loop-links.yielded in
    let l = c.in-Some.links in
    let was = c.loop-links.invariant in
    let some = c.in_ok-some.some.items in
    let one : IsTrimmed (bounds_of limits) (rate_in l.now.txs) (graph l.now) some =
    subst (λ (x : Limits). IsTrimmed (bounds_of x) (rate_in l.now.txs) (graph l.now) some) was.kept c.in_ok-some.ensures.trimmed in
    record {
      kept = was.kept;
      lends = subst (LendsOvers limits (level_at c.args.graph.now.levels Top).graph)
          (given_one given l c.loop-links.links-iterator c.next.new.self c.in-Some.ensures.steps) was.lends;
      whole = whole_one given l was.whole c.txs-txs.ensures.whole;
      ids = subst (λ ls. AreTrimmed (bounds_of limits) ls c.extend_from_slice.new.self.items) (sym (map-append (λ (x : Bor Links). x.now) given (l ∷ [])))
          (trimmed_push (bounds_of limits) (map (λ (x : Bor Links). x.now) given) l.now c.loop-links.ids.items some
          c.extend_from_slice.new.self.items was.ids one
          (c.in_ok-extend_from_slice.ensures.items ∙ ap (λ xs. c.loop-links.ids.items ++ xs) c.as_slice.ensures.value));
    }

pub returns : goal.returns
returns g c =
    let was = c.loop-links.invariant in
    let graph = c.args.graph.now in (
      map (λ (x : Bor Links). x.now) c.loop-links.yielded,
      given_all graph.levels.limits (level_at graph.levels Top).graph c.loop-links.yielded c.loop-links.links-iterator was.lends c.in-None.ensures.steps.0
          was.whole,
      was.ids,
    )
