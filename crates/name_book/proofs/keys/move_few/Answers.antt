use Rattle.std.proofs.Common.{◌≢◌, ◌≤◌, ◌<◌, IsSome, length, get_or, refl, ap, sym, subst, ◌∙◌, inl, inr, arith, take_all, lit<}
use Rattle.std.proofs.lemmas.List.{length-take-le}
use Rattle.std.proofs.lemmas.List.Elements.{Contains-get_or}
use Rattle.node_pool.proofs.Callers.{SameRing-sym}
use Rattle.name_book.specs.Changes.{Gathers}
use Rattle.name_book.specs.Tables.{key_of, name_at, table_of}
use Rattle.name_book.proofs.TableLemmas.{key-named, live-own, own-live, keys-rung, key-listed}
use Rattle.name_book.proofs.Kept.{same-own}
use Rattle.name_book.proofs.Rungs.{united-rungs}
use Rattle.name_book.proofs.Changing.{changes-none, changes-more}
use Rattle.name_book.proofs.Gathering.{gathers-one, gathers-none, gathers-more}
use Rattle.name_book.proofs.keys.move_few.Goals as goal

pub loop-key-init : goal.loop-key-init
loop-key-init c = record {
  ring = changes-none c.args.nodes.now c.args.r;
  gathers = λ spare t has_t. gathers-none (table_of c.args.nodes.now c.args.names.now.entries spare) c.args.r t;
  round = λ round. round;
}

pub cut_key-requires-clause-live : goal.cut_key-requires-clause-live
cut_key-requires-clause-live c =
    let old = c.args.nodes.now in let mid = c.loop-key.nodes in let es = c.args.names.now.entries in
    let ids = c.args.ids.now in let i = c.loop-key.key-index in
    let long = length-take-le (length ids) c.look_up.new.keys (omega (arith, c.look_up.array_long)) in
    live-own mid es (same-own old mid es c.requires.own c.loop-key.invariant.ring.values) (get_or ids i 0) _
    (key-listed es ids c.look_up.new.keys i _ c.look_up.ensures (omega (arith, c.look_up.array_long)) (omega (arith, long)))

pub join_rings-requires : goal.join_rings-requires
join_rings-requires c =
    let old = c.args.nodes.now in let mid = c.loop-key.nodes in let cut = c.cut_key.new.nodes in
    let es = c.args.names.now.entries in let r = c.args.r in
    let owned = same-own old mid es c.requires.own c.loop-key.invariant.ring.values in
    let left = same-own mid cut es owned c.cut_key.ensures.ring.values in
    let ids = c.args.ids.now in let i = c.loop-key.key-index in
    let long = length-take-le (length ids) c.look_up.new.keys (omega (arith, c.look_up.array_long)) in
    let low : i < length ids = omega (arith, long) in
    let id = get_or ids i 0 in
    let has = key-listed es ids c.look_up.new.keys i _ c.look_up.ensures (omega (arith, c.look_up.array_long)) low in
    let to = c.args.to in let t = name_at old to in let has_t = own-live old es c.requires.own to c.requires.to in (
      lit< tt,
      (
        c.requires.r_in_range,
        (
          subst IsSome (sym (c.cut_key.ensures.ring.values to)) (subst IsSome (sym (c.loop-key.invariant.ring.values to)) c.requires.to),
          (
            live-own cut es left id _ has,
            λ ring.
                let rung = keys-rung cut es left c.cut_key.ensures.round 0 r c.requires.r_in_range id t _ to has has_t (SameRing-sym cut r to _ ring) in
                elim (((c.cut_key.ensures.cut es 0 id owned has) id t).0 rung) [
                  | inl all ↦ all.1 refl
                  | inr both ↦ c.requires.apart _ (Contains-get_or ids i 0 low) (ap (key_of es) (sym both.1) ∙ has_t)
                ],
          ),
        ),
      ),
    )

pub loop-key-preserved : goal.loop-key-preserved
loop-key-preserved c =
    let old = c.args.nodes.now in let mid = c.loop-key.nodes in let cut = c.cut_key.new.nodes in let new = c.join_rings.new.self in
    let es = c.args.names.now.entries in let r = c.args.r in
    let owned = same-own old mid es c.requires.own c.loop-key.invariant.ring.values in
    let left = same-own mid cut es owned c.cut_key.ensures.ring.values in
    let ids = c.args.ids.now in let i = c.loop-key.key-index in
    let long = length-take-le (length ids) c.look_up.new.keys (omega (arith, c.look_up.array_long)) in
    let low : i < length ids = omega (arith, long) in
    let id = get_or ids i 0 in
    let has = key-listed es ids c.look_up.new.keys i _ c.look_up.ensures (omega (arith, c.look_up.array_long)) low in
    let joined = c.join_rings.ensures in
    record {
      ring = changes-more old mid new r c.loop-key.invariant.ring (changes-more mid cut new r c.cut_key.ensures.ring (record {
        values = joined.values;
        counts = joined.counts;
        others = joined.others;
      }));
      gathers = λ spare t has_t.
          let apart : t ≢ id = λ same. c.requires.apart _ (Contains-get_or ids i 0 low) (ap (key_of es) (sym same) ∙ has_t) in
          let was = table_of old es spare in let is = table_of mid es spare in let will = table_of new es spare in
          gathers-more was is r t ids i low (c.loop-key.invariant.gathers spare t has_t) will (key-named old es spare t c.args.to has_t)
          (gathers-one is (table_of cut es spare) will r t id apart (c.cut_key.ensures.cut es spare id owned has)
          (united-rungs cut new es left (same-own cut new es left joined.values) c.cut_key.ensures.round joined.round
          spare spare r c.requires.r_in_range t id c.args.to _ has_t has joined.united));
      round = λ _. joined.round;
    }

pub returns-clause-gathers : goal.returns-clause-gathers
returns-clause-gathers c spare t has_t =
    let es = c.args.names.now.entries in let ids = c.args.ids.now in
    let long = length-take-le (length ids) c.look_up.new.keys (omega (arith, c.look_up.array_long)) in
    let all : length ids ≤ c.loop-key.key-index = omega (arith, long) in
    subst (Gathers (table_of c.args.nodes.now es spare) (table_of c.loop-key.nodes es spare) c.args.r t) (take_all c.loop-key.key-index ids all)
    (c.loop-key.invariant.gathers spare t has_t)
