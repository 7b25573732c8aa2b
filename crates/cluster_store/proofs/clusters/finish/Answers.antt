-- One cluster more is exchanged.
use Rattle.std.proofs.Common.{◌≡◌, List, [], ◌∷◌, ◌++◌, subst}
use Rattle.cluster_store.specs.Stores.{Exchange}
use Rattle.cluster_store.specs.Kept.{IsWide}
use Rattle.cluster_store.specs.Changes.{with_cluster}
use Rattle.cluster_store.proofs.Done.{IsHalf, half_begins, half_ends, half_there, half_next, half_alone, nothing_left}
use Rattle.cluster_store.proofs.Wide.{beside_last, wide_fewer, wide_ends}
use Rattle.cluster_store.proofs.clusters.finish.Goals as goal

pub loop-exchange-init : goal.loop-exchange-init
loop-exchange-init g c = record {
  half = half_begins (λ x. x.number) (λ x. with_cluster x.cluster) c.args.exchanged.items c.args.slots.now.slots;
  wide = c.requires.wide;
}

pub replace-requires : goal.replace-requires
replace-requires g c =
    let rest = c.pop.new.self.items in
    let x = c.in-Some.exchange in
    let half : IsHalf (λ (y : Exchange). y.number) (λ y. with_cluster y.cluster) c.args.exchanged.items
    (rest ++ x ∷ []) c.args.slots.now.slots c.loop-exchange.slots.slots =
    subst (λ (xs : List Exchange). IsHalf (λ (y : Exchange). y.number) (λ y. with_cluster y.cluster) c.args.exchanged.items xs c.args.slots.now.slots
    c.loop-exchange.slots.slots) c.in-Some.ensures.items c.loop-exchange.invariant.half in
    let wide : IsWide c.loop-exchange.slots.slots (rest ++ x ∷ []) c.loop-exchange.index =
    subst (λ (xs : List Exchange). IsWide c.loop-exchange.slots.slots xs c.loop-exchange.index) c.in-Some.ensures.items c.loop-exchange.invariant.wide in
    let apart = half_alone (λ y. y.number) (λ y. with_cluster y.cluster) c.args.exchanged.items
    rest x c.args.slots.now.slots c.loop-exchange.slots.slots c.requires.there half in (
      search,
      (
        search,
        (
          half_there (λ y. y.number) (λ y. with_cluster y.cluster) c.args.exchanged.items
              rest x c.args.slots.now.slots c.loop-exchange.slots.slots c.requires.there half,
          beside_last c.loop-exchange.slots.slots rest x apart c.loop-exchange.index wide,
        ),
      ),
    )

pub loop-exchange-preserved : goal.loop-exchange-preserved
loop-exchange-preserved g c =
    let rest = c.pop.new.self.items in
    let x = c.in-Some.exchange in
    let half : IsHalf (λ (y : Exchange). y.number) (λ y. with_cluster y.cluster) c.args.exchanged.items
    (rest ++ x ∷ []) c.args.slots.now.slots c.loop-exchange.slots.slots =
    subst (λ (xs : List Exchange). IsHalf (λ (y : Exchange). y.number) (λ y. with_cluster y.cluster) c.args.exchanged.items xs c.args.slots.now.slots
    c.loop-exchange.slots.slots) c.in-Some.ensures.items c.loop-exchange.invariant.half in
    let wide : IsWide c.loop-exchange.slots.slots (rest ++ x ∷ []) c.loop-exchange.index =
    subst (λ (xs : List Exchange). IsWide c.loop-exchange.slots.slots xs c.loop-exchange.index) c.in-Some.ensures.items c.loop-exchange.invariant.wide in
    let apart = half_alone (λ y. y.number) (λ y. with_cluster y.cluster) c.args.exchanged.items
    rest x c.args.slots.now.slots c.loop-exchange.slots.slots c.requires.there half in
    record {
      half = half_next (λ y. y.number) (λ y. with_cluster y.cluster) c.args.exchanged.items
          rest x c.args.slots.now.slots c.loop-exchange.slots.slots c.requires.there half
          c.replace.new.slots.slots c.replace.ensures.placed;
      wide = wide_fewer c.loop-exchange.slots.slots rest x apart c.replace.new.slots.slots
          c.loop-exchange.index c.replace.new.index wide c.replace.ensures.placed.others
          c.replace.ensures.here c.replace.ensures.others;
    }

pub returns-clause-exchanged : goal.returns-clause-exchanged
returns-clause-exchanged g c =
    let none : c.loop-exchange.exchanged.items ≡ [] =
    nothing_left c.pop.result c.loop-exchange.exchanged.items c.loop-exchange.exchanged.len
    c.pop.ensures.variant c.loop-exchange.exchanged.ok.0 c.in_default.not-Some in
    half_ends (λ y. y.number) (λ y. with_cluster y.cluster) c.args.exchanged.items c.args.slots.now.slots c.loop-exchange.slots.slots
    (subst (λ (xs : List Exchange). IsHalf (λ (y : Exchange). y.number) (λ y. with_cluster y.cluster) c.args.exchanged.items xs c.args.slots.now.slots
    c.loop-exchange.slots.slots) none c.loop-exchange.invariant.half)

pub returns-clause-shown : goal.returns-clause-shown
returns-clause-shown g c =
    let none : c.loop-exchange.exchanged.items ≡ [] =
    nothing_left c.pop.result c.loop-exchange.exchanged.items c.loop-exchange.exchanged.len
    c.pop.ensures.variant c.loop-exchange.exchanged.ok.0 c.in_default.not-Some in
    wide_ends c.loop-exchange.slots.slots c.loop-exchange.index
    (subst (λ (xs : List Exchange). IsWide c.loop-exchange.slots.slots xs c.loop-exchange.index) none c.loop-exchange.invariant.wide)

pub drop-exchanged-requires-room-T-Destruct : goal.drop-exchanged-requires-room-T-Destruct
drop-exchanged-requires-room-T-Destruct g c κs = search
