use Rattle.std.proofs.Common.{◌≡◌, ◌+◌, ◌≤◌, None, IsSome, is_some, length, sym, ap, ◌∙◌, arith, true≢false}
use Rattle.std.specs.FinSet as set
use Rattle.indexmap.specs.IndexMap.{spare}
use Rattle.node_pool.specs.Nodes.{IsLive, live_count}
use Rattle.name_book.specs.Books.{Table, has}
use Rattle.name_book.specs.Tables.{key_of, AreKeys}
use Rattle.name_book.proofs.Entries.{names-keys}
use Rattle.name_book.proofs.TableLemmas.{live-own}
use Rattle.name_book.proofs.Kept.{key-here, key-there, drop-own, drop-differs, names-drop, len-drop, took}
use Rattle.name_book.proofs.Rungs.{lost-rungs}
use Rattle.name_book.proofs.table.RingTable.remove.Goals as goal

owned : (c : goal.After-take) → AreKeys c.take.new.self c.swap_remove.new.self.entries
owned c =
    drop-own c.self.inside.nodes c.take.new.self c.self.inside.names.entries c.swap_remove.new.self.entries c.args.id c.in-Some.key
    c.self.invariant.own c.take.ensures.updates (sym c.in-Some.ensures.value) c.swap_remove.ensures.updates.0

live : (c : goal.After-take) → IsLive c.self.inside.nodes c.in-Some.key
live c = live-own c.self.inside.nodes c.self.inside.names.entries c.self.invariant.own c.args.id c.in-Some.key (sym c.in-Some.ensures.value)

pub invariant_of-self : goal.invariant_of-self
invariant_of-self c =
    let table = c.self.invariant in
    let nodes = c.self.inside.nodes in let new = c.take.new.self in let key = c.in-Some.key in
    let es = c.self.inside.names.entries in let now = c.swap_remove.new.self.entries in
    let len = len-drop c.swap_remove.result key (length now) (length es) c.in-Some.is c.swap_remove.ensures.len in
    let fewer = took nodes key c.take.result (live_count new + 1 ≡ live_count nodes) (live c) c.take.ensures.value c.take.ensures.counts in
    let count : live_count new ≡ length now = omega (arith, fewer, len, table.count) in
    let index-room : c.self.inside.spare ≤ spare c.swap_remove.new.self = omega (arith, c.swap_remove.ensures.room.0, table.index-room) in
    let node-room : c.self.inside.spare ≤ new.spare = omega (arith, c.take.ensures.spare, table.node-room) in
    record {
      once = c.swap_remove.ensures.unique;
      own = owned c;
      rings = c.take.ensures.round;
      count = count;
      index-room = index-room;
      node-room = node-room;
    }

pub returns-in-Some-clause-names : goal.returns-in-Some-clause-names
returns-in-Some-clause-names c =
    names-drop c.self.inside.names.entries c.swap_remove.new.self.entries c.args.id c.swap_remove.ensures.updates.0
    ∙ ap (λ (b : Table). set.remove b.names c.args.id) c.self.view_is

pub returns-in-Some-clause-rings : goal.returns-in-Some-clause-rings
returns-in-Some-clause-rings c r below =
    let nodes = c.self.inside.nodes in let new = c.take.new.self in let taken = c.take.ensures in
    let es = c.self.inside.names.entries in let now = c.swap_remove.new.self.entries in let id = c.args.id in let key = c.in-Some.key in
    let has = sym c.in-Some.ensures.value in let keys = c.swap_remove.ensures.updates.0 in
    rw (← c.self.view_is) (lost-rungs nodes new es now c.self.invariant.own (owned c) c.self.invariant.rings taken.round
    c.self.inside.spare c.self.inside.spare r below id key (taken.rings r below) (key-there now es id None keys)
    (drop-differs nodes new es now id key c.self.invariant.own taken.updates has keys) (key-here now es id None keys))

-- a live name has a key
never : (c : goal.In_default) → ⊥
never c =
    let named : IsSome (key_of c.self.inside.names.entries c.args.id) =
    sym (names-keys c.self.inside.names.entries c.args.id) ∙ ap (λ (b : Table). has b c.args.id) c.self.view_is ∙ c.requires.live in
    true≢false (sym named ∙ ap is_some (sym c.swap_remove.ensures.value ∙ c.in_default.is))

pub returns-in_default-clause-names : goal.returns-in_default-clause-names
returns-in_default-clause-names c = absurd (never c)

pub returns-in_default-clause-rings : goal.returns-in_default-clause-rings
returns-in_default-clause-rings c r below = absurd (never c)
