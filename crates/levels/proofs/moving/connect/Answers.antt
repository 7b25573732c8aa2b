-- A name that is no ancestor yet becomes a parent within its cluster, or of another.
use Rattle.std.proofs.Common.{[], ◌∷◌, inr, subst}
use Rattle.std.proofs.lemmas.Bool.{false_from_ne_true}
use Rattle.graphs.specs.Closures.{is_ancestor}
use Rattle.graphs.specs.declared.names.Level.TheVariants.{Top}
use Rattle.levels.specs.Shelves.{view_of}
use Rattle.levels.specs.Views.{graph_of}
use Rattle.levels.specs.Links.{IsLink}
use Rattle.levels.proofs.Connecting.{not_between}
use Rattle.cluster_store.proofs.Results.{on_ok}
use Rattle.levels.proofs.Pairing.{pairs_top}
use Rattle.levels.proofs.moving.connect.Goals as goal

pub returns-in_err-pair-in-Between-clause-still : goal.returns-in_err-pair-in-Between-clause-still
returns-in_err-pair-in-Between-clause-still g c up =
    absurd (not_between g.row.W c.args.shelves.now c.args.parent c.args.child c.in-Between.first c.in-Between.second
    (subst (IsLink c.args.shelves.now c.args.parent c.args.child) c.in-Between.is c.requires.link) c.requires.order up)

-- a pair between two clusters makes no ancestor that was one
pub returns-in_ok-pair-in-Between-clause-still : goal.returns-in_ok-pair-in-Between-clause-still
returns-in_ok-pair-in-Between-clause-still g c up =
    absurd (not_between g.row.W c.args.shelves.now c.args.parent c.args.child c.in-Between.first c.in-Between.second
    (subst (IsLink c.args.shelves.now c.args.parent c.args.child) c.in-Between.is c.requires.link) c.requires.order up)

pub returns-in_ok-pair-in-Within-clause-linked : goal.returns-in_ok-pair-in-Within-clause-linked
returns-in_ok-pair-in-Within-clause-linked g c =
    let old = c.args.shelves.now in
    let new = c.rebuild.new.shelves in
    let news = c.in_ok-pair-in-Within.pair in
    let way = subst (IsLink old c.args.parent c.args.child) c.in-Within.is c.requires.link in
    on_ok c.rebuild.result c.rebuild.ensures.rebuilt (λ made. inr (
      way.2,
      (
        c.in-Within.number ∷ [],
        pairs_top g.row.W (c.in-Within.number ∷ []) made.0 made.1 c.args.parent c.args.child news.rest.items news.last news.kept old new
            c.in_ok-pair-in-Within.ensures.linked made.2,
      ),
    ))

pub returns-in_ok-pair-in-Between-clause-linked : goal.returns-in_ok-pair-in-Between-clause-linked
returns-in_ok-pair-in-Between-clause-linked g c =
    let old = c.args.shelves.now in
    let new = c.rebuild-in-Between.new.shelves in
    let news = c.in_ok-pair-in-Between.pair in
    let outs = c.in-Between.first ∷ c.in-Between.second ∷ [] in
    let way = subst (IsLink old c.args.parent c.args.child) c.in-Between.is c.requires.link in
    on_ok c.rebuild-in-Between.result c.rebuild-in-Between.ensures.rebuilt (λ made. inr (
      false_from_ne_true (is_ancestor (graph_of (view_of Top old)) c.args.parent c.args.child)
          (not_between g.row.W old c.args.parent c.args.child c.in-Between.first c.in-Between.second way c.requires.order),
      (
        outs,
        pairs_top g.row.W outs made.0 made.1 c.args.parent c.args.child news.rest.items news.last news.kept old new
            c.in_ok-pair-in-Between.ensures.joined made.2,
      ),
    ))
