-- One number more is listed.
use Rattle.std.proofs.Common.{◌≡◌, ◌≤◌, ℕ, true, nat_eq, length, get_or, arith}
use Rattle.std.proofs.lemmas.List.Elements.{Contains-get_or}
use Rattle.indexmap.specs.IndexSet.{contains, spare as room_of}
use Rattle.cluster_store.specs.Kept.{at}
use Rattle.cluster_store.specs.Unordered.{IsUnordered}
use Rattle.cluster_store.proofs.Lacking.{all_of, none_yet, one_more}
use Rattle.cluster_store.proofs.unordered.list_all.Goals as goal

pub loop-at-init : goal.loop-at-init
loop-at-init g c = record {
  others = λ n is. is;
  listed = none_yet (λ (n : ℕ). IsUnordered (at c.args.slots.now.slots n) → contains nat_eq c.args.over.now n ≡ true) c.args.numbers.now;
  room = omega arith;
}

pub list-requires : goal.list-requires
list-requires g c = (
  search,
  λ unordered.
      let here = Contains-get_or c.args.numbers.now c.loop-at.at 0 c.loop-at-test.true in
      let all : length c.args.numbers.now ≤ room_of c.args.over.now = c.requires (get_or c.args.numbers.now c.loop-at.at 0) here unordered in omega (arith, all, c.loop-at.invariant.room, c.loop-at-test.true),
)

pub loop-at-preserved : goal.loop-at-preserved
loop-at-preserved g c = record {
  others = λ n is. c.list.ensures.others n (c.loop-at.invariant.others n is);
  listed = one_more (λ (n : ℕ). IsUnordered (at c.args.slots.now.slots n) → contains nat_eq c.list.new.over n ≡ true) c.args.numbers.now c.loop-at.at 0
      c.loop-at-test.true (λ n here unordered. c.list.ensures.others n (c.loop-at.invariant.listed n here unordered)) c.list.ensures.listed;
  room = omega (arith, c.loop-at.invariant.room, c.list.ensures.room);
}

pub returns-clause-others : goal.returns-clause-others
returns-clause-others g c = c.loop-at.invariant.others

pub returns-clause-listed : goal.returns-clause-listed
returns-clause-listed g c =
    all_of (λ (n : ℕ). IsUnordered (at c.args.slots.now.slots n) → contains nat_eq c.loop-at.over n ≡ true) c.args.numbers.now c.loop-at.at
    c.loop-at-test.false c.loop-at.invariant.listed

pub returns-clause-room : goal.returns-clause-room
returns-clause-room g c = omega (arith, c.loop-at.invariant.room, c.loop-at.auto.at-end)
