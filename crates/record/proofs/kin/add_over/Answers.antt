-- One name more is put behind the list, where there is room.
use Rattle.std.proofs.Common.{◌↔◌, ℕ, [], ◌∷◌, ◌++◌, Contains, append-nil, sym, subst, arith}
use Rattle.std.proofs.lemmas.List.{length-map}
use Rattle.graphs.specs.Rooms.{Room}
use Rattle.graphs.specs.Unions.{IsKin}
use Rattle.links.specs.Kept.{coming, names_of}
use Rattle.links.specs.declared.link_walk.LinkWalk.{LinkWalk}
use Rattle.lists.specs.Distinct.{AreDistinct}
use Rattle.record.proofs.Kins.{IsPartway, kin_in, put_all, put_next, room_left, room_same}
use Rattle.record.proofs.kin.add_over.Goals as goal

pub loop-id-init : goal.loop-id-init
loop-id-init c = record {
  way = record {
    all = λ a. subst (λ (it : LinkWalk). Contains (coming it) a ↔ ((id : ℕ) × Contains c.args.ids.now id × IsKin c.args.kin c.args.links.now.pairs a id))
        (sym c.into_iter-id-iterator.ensures.into_iter_gives) (c.kin.ensures.exact a);
    once = subst (λ (it : LinkWalk). AreDistinct (coming it)) (sym c.into_iter-id-iterator.ensures.into_iter_gives) c.kin.ensures.once;
    behind = sym (append-nil c.args.out.now.ids);
    room_is = omega arith;
  };
}

pub push-requires : goal.push-requires
push-requires c =
    let way = c.loop-id.invariant.way in
    let long = length-map c.args.links.now.txs (λ tx. tx.0) in
    room_left (λ a. (id : ℕ) × Contains c.args.ids.now id × IsKin c.args.kin c.args.links.now.pairs a id)
    c.loop-id.yielded (coming c.loop-id.id-iterator) c.args.out.now.ids c.loop-id.out.ids c.args.out.now.room c.loop-id.out.room way
    (names_of c.args.links.now.txs)
    (λ a (id, here, is). kin_in c.args.kin (names_of c.args.links.now.txs) c.args.links.now.pairs c.requires.links.graph_is.ends a id is (c.requires.ids id here))
    (let room = c.requires.room in omega (arith, long, room)) c.in-Some.id (coming c.next.new.self) c.in-Some.ensures.steps

pub loop-id-preserved : goal.loop-id-preserved
loop-id-preserved c =
    let way = c.loop-id.invariant.way in
    let long = length-map c.args.links.now.txs (λ tx. tx.0) in
    let some = room_left (λ a. (id : ℕ) × Contains c.args.ids.now id × IsKin c.args.kin c.args.links.now.pairs a id)
    c.loop-id.yielded (coming c.loop-id.id-iterator) c.args.out.now.ids c.loop-id.out.ids c.args.out.now.room c.loop-id.out.room way
    (names_of c.args.links.now.txs)
    (λ a (id, here, is). kin_in c.args.kin (names_of c.args.links.now.txs) c.args.links.now.pairs c.requires.links.graph_is.ends a id is (c.requires.ids id here))
    (let room = c.requires.room in omega (arith, long, room)) c.in-Some.id (coming c.next.new.self) c.in-Some.ensures.steps in
    record {
      way = subst (λ (out : Room). IsPartway (λ a. (id : ℕ) × Contains c.args.ids.now id × IsKin c.args.kin c.args.links.now.pairs a id)
          (c.loop-id.yielded ++ c.in-Some.id ∷ []) (coming c.next.new.self) c.args.out.now.ids out.ids c.args.out.now.room out.room) (sym c.push.ensures)
          (put_next (λ a. (id : ℕ) × Contains c.args.ids.now id × IsKin c.args.kin c.args.links.now.pairs a id)
          c.loop-id.yielded (coming c.loop-id.id-iterator) c.args.out.now.ids c.loop-id.out.ids c.args.out.now.room c.loop-id.out.room way
          c.in-Some.id (coming c.next.new.self) c.in-Some.ensures.steps some);
    }

pub returns-clause-adds : goal.returns-clause-adds
returns-clause-adds c =
    put_all (λ a. (id : ℕ) × Contains c.args.ids.now id × IsKin c.args.kin c.args.links.now.pairs a id)
    c.loop-id.yielded (coming c.loop-id.id-iterator) c.args.out.now.ids c.loop-id.out.ids c.args.out.now.room c.loop-id.out.room
    c.loop-id.invariant.way c.in-None.ensures.steps.0

pub returns-clause-room : goal.returns-clause-room
returns-clause-room c =
    room_same (λ a. (id : ℕ) × Contains c.args.ids.now id × IsKin c.args.kin c.args.links.now.pairs a id)
    c.loop-id.yielded (coming c.loop-id.id-iterator) c.args.out.now.ids c.loop-id.out.ids c.args.out.now.room c.loop-id.out.room
    c.loop-id.invariant.way
