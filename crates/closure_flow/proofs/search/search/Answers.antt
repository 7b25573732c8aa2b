use Rattle.std.proofs.Common.{length, rules, sym, ◌≡◌, ℕ, ◌*◌, ◌+◌, ◌-◌, ◌∙◌, ap, subst, Bool, true, false, arith, pos, ◌≤ℤ◌, List, Some}
use Rattle.std.specs.FinSet as set
use Rattle.lists.proofs.Cases.{clash}
use Rattle.bitset.specs.Sets.{contains-empty}
use Rattle.closure_flow.specs.Closures.{weight_at}
use Rattle.closure_flow.specs.Labels.{IsShortest}
use Rattle.closure_flow.specs.Queues.{Grows, IsBeyond}
use Rattle.closure_flow.specs.Networks.{sent}
use Rattle.closure_flow.specs.declared.queue.Entry.{Entry}
use Rattle.closure_flow.proofs.Networks.{words_fit}
use Rattle.closure_flow.proofs.Queues.{lists_none}
use Rattle.lists.proofs.Keys.{set_within}
use Rattle.closure_flow.proofs.Levels.{Levels, levels_start, levels_step, shortest}
use Rattle.closure_flow.proofs.Searches.{Searching, not_short, searching_step, searching_end, some_left}
use Rattle.closure_flow.proofs.search.search.Goals as goal

pub put_all-seen-requires : goal.put_all-seen-requires
put_all-seen-requires g c = (
  omega arith,
  (
    words_fit g.row.W _ _ _ c.args.network.now.sized,
    (
      rw (c.clear.ensures.entries, c.empty.ensures) lists_none,
      (
        rw c.empty.ensures (λ t m. clash _ m (contains-empty t)),
        rw c.empty.ensures (λ t m. contains-empty t),
      ),
    ),
  ),
)

pub loop-place-smaller : goal.loop-place-smaller
loop-place-smaller g c =
    let k = c.in-Some.ensures in
    let a = c.put_all-seen-in-Some.ensures in
    let net = c.args.network.now in
    let n : ℕ = 64 * g.row.W in
    let room = some_left n c.args.parents.now net.within (sent n net.into.items net.amounts.items) (weight_at net.rest.items)
    c.loop-place.queue.entries c.loop-place.queue.taken c.loop-place.seen c.loop-place.invariant.0 k.none in
    omega (arith, a.taken, k.taken, room)

pub loop-place-preserved : goal.loop-place-preserved
loop-place-preserved g c =
    let n : ℕ = 64 * g.row.W in
    let k = c.in-Some.ensures in
    let a = c.put_all-seen-in-Some.ensures in
    let s = c.loop-place.invariant.0 in
    let flow = sent n c.args.network.now.into.items c.args.network.now.amounts.items in
    let rest = weight_at c.args.network.now.rest.items in
    let here : set.contains c.loop-place.seen c.in-Some.place ≡ true = ap (λ t. set.contains c.loop-place.seen t) k.place ∙ s.lists.each _ k.none in
    let out : set.contains c.args.network.now.short c.in-Some.place ≡ false = subst (λ (b : Bool). b ≡ false) c.has.ensures c.if-has.false in
    let content : pos 0 ≤ℤ rest c.in-Some.place =
    not_short (rest c.in-Some.place) (λ low. clash _ (c.args.network.now.short_is.complete c.in-Some.place (s.inside c.in-Some.place here) low) out) in
    let before : c.taken-at.result - 1 ≡ c.loop-place.queue.taken = omega (arith, c.taken-at.ensures.taken, k.taken) in
    let now : c.loop-place.queue.taken + 1 ≡ c.put_all-seen-in-Some.new.queue.taken = omega (arith, a.taken, k.taken) in
    let grows : Grows c.loop-place.queue.entries c.put_all-seen-in-Some.new.queue.entries c.beyond-next.result (Some c.loop-place.queue.taken) =
    subst (λ (i : ℕ). Grows c.loop-place.queue.entries c.put_all-seen-in-Some.new.queue.entries c.beyond-next.result (Some i)) before
    (subst (λ (es : List Entry). Grows es c.put_all-seen-in-Some.new.queue.entries c.beyond-next.result (Some (c.taken-at.result - 1))) k.entries a.grows) in (
      subst (λ (i : ℕ). Searching n c.args.parents.now c.args.network.now.within flow rest c.put_all-seen-in-Some.new.queue.entries
          i c.put_all-seen-in-Some.result) now
          (searching_step n _ _ flow rest _ _ c.loop-place.queue.taken _ _ c.beyond-next.result c.requires.allowed s k.none
          (subst (λ (t : ℕ). pos 0 ≤ℤ rest t) k.place content)
          (subst (λ (t : ℕ). IsBeyond n c.args.parents.now c.args.network.now.within flow c.loop-place.seen t c.beyond-next.result)
          k.place c.beyond-next.ensures)
          a.lists a.within grows a.old a.new a.only),
      subst (λ (i : ℕ). Levels c.args.parents.now c.args.network.now.within flow rest c.put_all-seen-in-Some.new.queue.entries i) now
          (levels_step n _ _ flow rest _ _ c.loop-place.queue.taken _ _ c.beyond-next.result s c.loop-place.invariant.1 k.none
          (subst (λ (t : ℕ). IsBeyond n c.args.parents.now c.args.network.now.within flow c.loop-place.seen t c.beyond-next.result)
          k.place c.beyond-next.ensures)
          a.lists grows a.old a.new c.args.network.now.inside),
      omega (arith, k.step, k.taken, a.taken, c.loop-place.invariant.2),
      omega (arith, k.given, k.taken, a.given, a.taken, c.loop-place.invariant.3),
    )

pub loop-place-init : goal.loop-place-init
loop-place-init g c = (
  search rules,
  levels_start _ _ _ _ _ _ c.args.network.now.over _ c.put_all-seen.ensures.grows c.clear.ensures.entries
      (c.put_all-seen.ensures.taken ∙ c.clear.ensures.taken),
  omega (arith, c.put_all-seen.ensures.taken, c.clear.ensures.taken),
  omega (arith, c.put_all-seen.ensures.given, c.put_all-seen.ensures.taken, c.clear.ensures.given, c.clear.ensures.taken),
)

pub returns-then-has-clause-shortest : goal.returns-then-has-clause-shortest
returns-then-has-clause-shortest g c =
    let n : ℕ = 64 * g.row.W in
    let k = c.in-Some.ensures in
    let net = c.args.network.now in
    let flow = sent n net.into.items net.amounts.items in
    let rest = weight_at net.rest.items in
    let at : c.loop-place.queue.taken ≡ c.taken-at.result - 1 = omega (arith, c.taken-at.ensures.taken, k.taken) in
    subst (λ (i : ℕ). IsShortest c.args.parents.now net.within flow rest c.take.new.self.entries i) at
    (subst (λ (es : List Entry). IsShortest c.args.parents.now net.within flow rest es c.loop-place.queue.taken) (sym k.entries)
    (shortest n _ _ flow rest _ _ _ c.loop-place.invariant.0 c.loop-place.invariant.1 k.none))

pub returns-clause-end : goal.returns-clause-end
returns-clause-end g c = searching_end (64 * g.row.W) _ _ _ _ _ _ _ c.loop-place.invariant.0 c.in_default.ensures.none

pub returns-then-has-clause-few : goal.returns-then-has-clause-few
returns-then-has-clause-few g c =
    let i = c.loop-place.invariant.0 in
    omega (
      arith,
      ap length c.in-Some.ensures.entries,
      i.lists.count,
      set_within c.loop-place.seen c.args.network.now.within i.inside,
    )

pub returns-clause-few : goal.returns-clause-few
returns-clause-few g c =
    let i = c.loop-place.invariant.0 in
    omega (
      arith,
      ap length c.in_default.ensures.entries,
      i.lists.count,
      set_within c.loop-place.seen c.args.network.now.within i.inside,
    )
