-- One cluster fewer waits.
use Rattle.std.proofs.Common.{◌≡◌, List, [], ◌∷◌, ◌++◌, map, refl, subst}
use Rattle.cluster_store.specs.Stores.{Exchange}
use Rattle.cluster_store.specs.Kept.{IsWide}
use Rattle.cluster_store.specs.Slots.{AreStored}
use Rattle.cluster_store.proofs.Done.{stored_front, stored_apart, stored_last, nothing_left}
use Rattle.cluster_store.proofs.Wide.{beside_last, wide_fewer, wide_ends}
use Rattle.cluster_store.proofs.clusters.leave_all.Goals as goal

pub leave_beside-requires : goal.leave_beside-requires
leave_beside-requires g c =
    let slots = c.args.slots.now.slots in
    let rest = c.pop.new.self.items in
    let x = c.in-Some.exchange in
    let there : AreStored (map (λ (y : Exchange). y.number) (rest ++ x ∷ [])) slots =
    subst (λ (xs : List Exchange). AreStored (map (λ (y : Exchange). y.number) xs) slots) c.in-Some.ensures.items c.loop-exchange.invariant.there in
    let wide : IsWide slots (rest ++ x ∷ []) c.loop-exchange.index =
    subst (λ (xs : List Exchange). IsWide slots xs c.loop-exchange.index) c.in-Some.ensures.items c.loop-exchange.invariant.wide in (
      search,
      (
        search,
        (
          stored_last (λ y. y.number) rest x slots there,
          beside_last slots rest x (stored_apart (λ y. y.number) rest x slots there)
              c.loop-exchange.index wide,
        ),
      ),
    )

pub loop-exchange-preserved : goal.loop-exchange-preserved
loop-exchange-preserved g c =
    let slots = c.args.slots.now.slots in
    let rest = c.pop.new.self.items in
    let x = c.in-Some.exchange in
    let there : AreStored (map (λ (y : Exchange). y.number) (rest ++ x ∷ [])) slots =
    subst (λ (xs : List Exchange). AreStored (map (λ (y : Exchange). y.number) xs) slots) c.in-Some.ensures.items c.loop-exchange.invariant.there in
    let wide : IsWide slots (rest ++ x ∷ []) c.loop-exchange.index =
    subst (λ (xs : List Exchange). IsWide slots xs c.loop-exchange.index) c.in-Some.ensures.items c.loop-exchange.invariant.wide in
    record {
      there = stored_front (λ y. y.number) rest x slots there;
      wide = wide_fewer slots rest x (stored_apart (λ y. y.number) rest x slots there) slots c.loop-exchange.index c.leave_beside.new.index wide (λ m _. refl)
          c.leave_beside.ensures.here c.leave_beside.ensures.others;
    }

pub returns : goal.returns
returns g c =
    let none : c.loop-exchange.exchanged.items ≡ [] =
    nothing_left c.pop.result c.loop-exchange.exchanged.items c.loop-exchange.exchanged.len
    c.pop.ensures.variant c.loop-exchange.exchanged.ok.0 c.in_default.not-Some in
    wide_ends c.args.slots.now.slots c.loop-exchange.index
    (subst (λ (xs : List Exchange). IsWide c.args.slots.now.slots xs c.loop-exchange.index) none c.loop-exchange.invariant.wide)

pub drop-exchanged-requires-room-T-Destruct : goal.drop-exchanged-requires-room-T-Destruct
drop-exchanged-requires-room-T-Destruct g c κs = search
