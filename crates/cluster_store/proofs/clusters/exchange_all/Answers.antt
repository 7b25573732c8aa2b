-- One cluster more waits with its entries; where there is no memory for them, those of the others go out again.
use Rattle.std.proofs.Common.{◌≡◌, ◌≤◌, ◌+◌, List, [], ◌∷◌, ◌++◌, map, take, drop, length, sym, ap, ◌∙◌, subst, add-one}
use Rattle.std.proofs.lemmas.List.{take_all, take-append-drop}
use Rattle.cluster_store.specs.Stores.{Exchange}
use Rattle.cluster_store.specs.Kept.{IsWide}
use Rattle.cluster_store.specs.Slots.{AreStored}
use Rattle.cluster_store.proofs.Done.{stored_apart, stored_last, stored_at, stored_part, next_taken, none_taken}
use Rattle.cluster_store.proofs.Wide.{beside_before, wide_begins, wide_more, wide_same}
use Rattle.cluster_store.proofs.Bounds.{below_all, past_all}
use Rattle.cluster_store.proofs.clusters.exchange_all.Goals as goal

pub loop-at-init : goal.loop-at-init
loop-at-init g c =
    subst (λ (xs : List Exchange). IsWide c.args.slots.now.slots xs c.args.index.now) (sym (none_taken c.args.exchanged.items))
    (wide_begins c.args.slots.now.slots c.args.index.now c.requires.shown)

pub enter_beside-requires : goal.enter_beside-requires
enter_beside-requires g c =
    let slots = c.args.slots.now.slots in
    let xs = c.args.exchanged.items in
    let x = c.index.result.now in
    let stored : AreStored (map (λ (y : Exchange). y.number) (take c.loop-at.at xs ++ x ∷ [])) slots =
    stored_at (λ (y : Exchange). y.number) xs c.loop-at.at x slots c.requires.there
    (below_all c.loop-at-test.true c.len-at-end.ensures c.args.exchanged.ok.0) c.index.ensures in (
      search,
      (
        search,
        (
          stored_last (λ y. y.number) (take c.loop-at.at xs) x slots stored,
          beside_before slots (take c.loop-at.at xs) x (stored_apart (λ y. y.number) (take c.loop-at.at xs) x slots stored) c.loop-at.index c.loop-at.invariant,
        ),
      ),
    )

pub leave_all-requires : goal.leave_all-requires
leave_all-requires g c =
    let slots = c.args.slots.now.slots in
    let xs = c.args.exchanged.items in
    let front : take c.loop-at.at xs ≡ c.truncate.new.self.items = sym c.truncate.ensures.items in (
      search,
      (
        search,
        (
          subst (λ (ys : List Exchange). AreStored (map (λ (y : Exchange). y.number) ys) slots) front
              (stored_part (λ (y : Exchange). y.number) (take c.loop-at.at xs)
              (drop c.loop-at.at xs) xs slots (sym (take-append-drop c.loop-at.at xs)) c.requires.there),
          subst (λ (ys : List Exchange). IsWide slots ys c.enter_beside.new.index) front
              (wide_same slots (take c.loop-at.at xs) c.loop-at.index c.enter_beside.new.index c.loop-at.invariant c.in-Err.ensures.err),
        ),
      ),
    )

pub finish-requires : goal.finish-requires
finish-requires g c =
    let xs = c.args.exchanged.items in
    let low : length xs ≤ c.loop-at.at = past_all c.loop-at-test.false c.len-at-end.ensures c.args.exchanged.ok.0 in
    let all : take c.loop-at.at xs ≡ xs = take_all c.loop-at.at xs low in
    (search, (search, (c.requires.there, subst (λ (ys : List Exchange). IsWide c.args.slots.now.slots ys c.loop-at.index) all c.loop-at.invariant)))

pub loop-at-preserved : goal.loop-at-preserved
loop-at-preserved g c =
    let slots = c.args.slots.now.slots in
    let xs = c.args.exchanged.items in
    let x = c.index.result.now in
    let stored : AreStored (map (λ (y : Exchange). y.number) (take c.loop-at.at xs ++ x ∷ [])) slots =
    stored_at (λ (y : Exchange). y.number) xs c.loop-at.at x slots c.requires.there
    (below_all c.loop-at-test.true c.len-at-end.ensures c.args.exchanged.ok.0) c.index.ensures in
    let more : take (c.loop-at.at + 1) xs ≡ take c.loop-at.at xs ++ x ∷ [] =
    ap (λ n. take n xs) (add-one c.loop-at.at)
    ∙ next_taken xs c.loop-at.at x (below_all c.loop-at-test.true c.len-at-end.ensures c.args.exchanged.ok.0) c.index.ensures in
    subst (λ (ys : List Exchange). IsWide slots ys c.enter_beside.new.index) (sym more)
    (wide_more slots (take c.loop-at.at xs) x (stored_apart (λ y. y.number) (take c.loop-at.at xs) x slots stored) c.loop-at.index c.enter_beside.new.index
    c.loop-at.invariant c.in_default.ensures.here c.in_default.ensures.others)
