-- The part of the lower key comes first.
use Rattle.std.proofs.Common.{◌≡◌, ◌↔◌, true, true≢false, inl, inr, sym, ◌∙◌, subst, Contains}
use Rattle.graphs.specs.Merges.{Precedes}
use Rattle.cluster_store.specs.Stores.{Store}
use Rattle.cluster_store.proofs.Before.{place_low, told_before, either_way}
use Rattle.cluster_store.proofs.Sizes.{stored_fits}
use Rattle.cluster_store.proofs.store.ClusterStore.comes_before.Goals as goal

pub entry_at-requires : goal.entry_at-requires
entry_at-requires g c =
    let low = place_low c.self.inside.slots.slots c.self.inside.index c.self.invariant.kept.shown c.args.a c.args.b c.args.a
    (subst (λ (s : Store). Contains s.order c.args.a) (sym c.self.view_is) c.requires.a) in
    (stored_fits g.row.W c.self.invariant.kept.narrow, low)

pub entry_at-requires-2 : goal.entry_at-requires-2
entry_at-requires-2 g c =
    let low = place_low c.self.inside.slots.slots c.self.inside.index c.self.invariant.kept.shown c.args.a c.args.b c.args.b
    (subst (λ (s : Store). Contains s.order c.args.b) (sym c.self.view_is) c.requires.b) in
    (stored_fits g.row.W c.self.invariant.kept.narrow, low)

pub returns-clause-before : goal.returns-clause-before
returns-clause-before g c =
    subst (λ (s : Store). (c.is_before.result ≡ true) ↔ Precedes s.order c.args.a c.args.b) c.self.view_is
    (told_before c.self.inside.slots.slots c.self.inside.index c.self.invariant.kept.shown c.args.a c.args.b _ _ c.entry_at.ensures c.entry_at-2.ensures
    (subst (λ (s : Store). Contains s.order c.args.a) (sym c.self.view_is) c.requires.a)
    (subst (λ (s : Store). Contains s.order c.args.b) (sym c.self.view_is) c.requires.b) c.is_before.result c.is_before.ensures)

pub returns-clause-behind : goal.returns-clause-behind
returns-clause-behind g c apart fails =
    elim (either_way c.args.self.now.order c.args.a c.args.b c.requires.a c.requires.b) [
      | inl same ↦ absurd (apart same)
      | inr one ↦ elim one [
        | inl before ↦ absurd (true≢false (sym ((returns-clause-before g c).1 before) ∙ fails))
        | inr behind ↦ behind
      ]
    ]
