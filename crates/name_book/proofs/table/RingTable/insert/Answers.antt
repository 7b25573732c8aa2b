use Rattle.std.specs.FinSet as set
use Rattle.std.proofs.Common.{◌≡◌, ◌-◌, ◌≤◌, None, Some, length, sym, ap, ◌∙◌, arith}
use Rattle.indexmap.specs.IndexMap.{spare}
use Rattle.node_pool.specs.Nodes.{live_count}
use Rattle.name_book.specs.Books.{Table, has}
use Rattle.name_book.specs.Tables.{key_of, AreKeys}
use Rattle.name_book.proofs.Entries.{names-keys, no_some}
use Rattle.name_book.proofs.Kept.{key-here, key-there, put-own, put-differs, names-put, len-put}
use Rattle.name_book.proofs.Rungs.{gained-rungs}
use Rattle.name_book.proofs.table.RingTable.insert.Goals as goal

-- the name had no key
none : (c : goal.After-self-1) → key_of c.self.inside.names.entries c.args.id ≡ None
none c =
    no_some (key_of c.self.inside.names.entries c.args.id)
    (sym (names-keys c.self.inside.names.entries c.args.id) ∙ ap (λ (b : Table). has b c.args.id) c.self.view_is ∙ c.requires.absent)

owned : (c : goal.After-self-1) → AreKeys c.insert-key.new.self c.insert.new.self.entries
owned c =
    put-own c.self.inside.nodes c.insert-key.new.self c.self.inside.names.entries c.insert.new.self.entries c.args.id c.insert-key.result
    c.self.invariant.own c.insert-key.ensures.updates c.insert-key.ensures.fresh (none c) c.in-Ok.ensures.updates.0

pub invariant_of-self : goal.invariant_of-self
invariant_of-self c =
    let table = c.self.invariant in
    let new = c.insert-key.new.self in
    let es = c.self.inside.names.entries in let now = c.insert.new.self.entries in
    let len = len-put c.in-Ok.field-0 (length now) (length es) (c.in-Ok.ensures.old ∙ none c) c.in-Ok.ensures.len in
    let counts = c.insert-key.ensures.counts in
    let count : live_count new ≡ length now = omega (arith, counts.0, len, table.count) in
    let index-room : c.self.inside.spare - 1 ≤ spare c.insert.new.self = omega (arith, c.insert.ensures.spare, table.index-room) in
    let node-room : c.self.inside.spare - 1 ≤ new.spare = omega (arith, counts.1, table.node-room) in
    record {
      once = c.insert.ensures.unique;
      own = owned c;
      rings = c.insert-key.ensures.round;
      count = count;
      index-room = index-room;
      node-room = node-room;
    }

pub returns-clause-names : goal.returns-clause-names
returns-clause-names c =
    names-put c.self.inside.names.entries c.insert.new.self.entries c.args.id c.insert-key.result c.in-Ok.ensures.updates.0
    ∙ ap (λ (b : Table). set.insert b.names c.args.id) c.self.view_is

pub returns-clause-rings : goal.returns-clause-rings
returns-clause-rings c r below =
    let nodes = c.self.inside.nodes in let new = c.insert-key.new.self in let made = c.insert-key.ensures in
    let es = c.self.inside.names.entries in let now = c.insert.new.self.entries in let id = c.args.id in let key = c.insert-key.result in
    let keys = c.in-Ok.ensures.updates.0 in
    rw (← c.self.view_is) (gained-rungs nodes new es now c.self.invariant.own (owned c) c.self.invariant.rings made.round
    c.self.inside.spare (c.self.inside.spare - 1) r below id key (made.rings r below) (key-there now es id (Some key) keys)
    (put-differs nodes new es now id key c.self.invariant.own made.updates made.fresh (none c) keys) (key-here now es id (Some key) keys) (none c))
