-- What the store tells of tags.
use Rattle.std.proofs.Common.{map, sym, ap, ◌∙◌, subst₂}
use Rattle.graphs.specs.declared.names.Level.TheVariants.{Main, Top}
use Rattle.chunk_index.specs.declared.entry.Tag.TheVariants.{MainOnly, TopOnly}
use Rattle.cluster_store.specs.Stores.{Shown, Store, shown_only}
use Rattle.levels.specs.Levels.{OneLevel}
use Rattle.levels.specs.Orders.{AreApart}
use Rattle.levels.proofs.Apart.{alone_rates, are_apart}
use Rattle.levels.proofs.Finds.{level_is}
use Rattle.levels.proofs.levels.Levels.alone.Goals as goal

pub returns : goal.returns
returns g c =
    let store = c.self.inside.shelves.store in
    let is = level_is g.row.W c.self.inside.issued c.self.inside.shelves c.args.self.now c.self.invariant.order c.self.view_is in (
      map (λ (s : Shown). s.part) (shown_only MainOnly store),
      map (λ (s : Shown). s.part) (shown_only TopOnly store),
      subst₂ (λ (a b : OneLevel). AreApart a.parts b.parts (map (λ (s : Shown). s.part) (shown_only MainOnly store))
          (map (λ (s : Shown). s.part) (shown_only TopOnly store))) (sym (is Main)) (sym (is Top)) (are_apart store),
      c.rates_only.ensures ∙ ap (λ (s : Store). map (λ (t : Shown). t.part.rate) (shown_only MainOnly s)) c.store-store.ensures ∙ alone_rates MainOnly store,
      c.rates_only-2.ensures ∙ ap (λ (s : Store). map (λ (t : Shown). t.part.rate) (shown_only TopOnly s)) c.store-store.ensures ∙ alone_rates TopOnly store,
    )
