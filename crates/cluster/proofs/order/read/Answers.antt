use Rattle.std.proofs.Common.{◌≡◌, ◌≤◌, ◌<◌, ◌+◌, ◌++◌, ℕ, List, [], ◌∷◌, slice_index_or, length, map, take, slice_index, sym, ap, ◌∙◌, subst, subst₂, arith}
use Rattle.std.proofs.lemmas.List.{length-map, length-take-le}
use Rattle.std.specs.Prelude.{Contains, pos, get_or, Option, None, IfSome}
use Rattle.linearize.specs.declared.draft.LinearPart.{LinearPart}
use Rattle.linearize.specs.Drafts.{placed}
use Rattle.linearize.specs.declared.old.OldPart.{OldPart}
use Rattle.cluster.specs.Kept.{end_of}
use Rattle.cluster.specs.declared.order.PartEnd.{PartEnd}
use Rattle.cluster.specs.Orders.{AddsPart, StandAt}
use Rattle.cluster.proofs.Reading.{Reading, Reading-more, Reading-all, cut_below, cut_moved, ends_within, flow_end_at}
use Rattle.cluster.proofs.order.read.Goals as goal

abbrev no_end : LinearPart
no_end = record { rate = record { fee = pos 0; size = 0 }; end = 0; flow_end = 0 }

-- one part for each that was read, so there is room for one more
parts_fit : (parts : List PartEnd) (shown : List LinearPart) (at room : ℕ) → map (λ (e : PartEnd). e.end) parts ≡ map (λ (p : LinearPart). p.end) (take at shown)
    → at < length shown → length shown ≤ room → length parts + 1 ≤ room
parts_fit parts shown at room same low fits =
    let long : length parts ≡ length (take at shown) =
    sym (length-map parts (λ (e : PartEnd). e.end)) ∙ ap length same ∙ length-map (take at shown) (λ (p : LinearPart). p.end) in
    let few : length (take at shown) ≡ at = length-take-le at shown (omega arith) in omega (arith, long, few)

pub stand-requires-clause-within : goal.stand-requires-clause-within
stand-requires-clause-within g c = λ p here.
    (let low : p < length c.args.names.now = c.requires.placed.below p (subst (λ (xs : List ℕ). Contains xs p) c.order.ensures here) in
    let room : length c.args.names.now ≤ length c.args.positions.now = c.requires.room in omega arith)

pub names_at-requires : goal.names_at-requires
names_at-requires g c = λ p here. c.requires.placed.below p (subst (λ (xs : List ℕ). Contains xs p) c.order-2.ensures here)

pub between-requires-clause-start : goal.between-requires-clause-start
between-requires-clause-start g c =
    (ends_within c.args.linear.now c.parts-shown.result.now c.flows-all.result.now c.parts-shown.ensures
    c.flows-all.ensures c.loop-at.at c.loop-at.from _ c.loop-at-test.true c.loop-at.invariant.0.from_is
    (flow_end_at c.args.linear.now c.parts-shown.result.now c.flows-all.result.now
    c.parts-shown.ensures c.flows-all.ensures c.loop-at.at no_end c.loop-at-test.true)).0

pub between-requires-clause-end : goal.between-requires-clause-end
between-requires-clause-end g c =
    (ends_within c.args.linear.now c.parts-shown.result.now c.flows-all.result.now c.parts-shown.ensures
    c.flows-all.ensures c.loop-at.at c.loop-at.from _ c.loop-at-test.true c.loop-at.invariant.0.from_is
    (flow_end_at c.args.linear.now c.parts-shown.result.now c.flows-all.result.now
    c.parts-shown.ensures c.flows-all.ensures c.loop-at.at no_end c.loop-at-test.true)).1

pub add_part-requires-clause-there : goal.add_part-requires-clause-there
add_part-requires-clause-there g c =
    let room : length c.args.names.now ≤ length c.args.positions.now = c.requires.room in
    let kept : length c.stand.new.positions ≡ length c.args.positions.now = c.stand.auto.positions in
    cut_below c.args.linear.now c.parts-shown.result.now c.flows-all.result.now c.parts-shown.ensures c.flows-all.ensures c.args.names.now c.stand.new.positions
    (length c.args.names.now) c.requires.placed
    (subst (λ (xs : List ℕ). StandAt xs c.stand.new.positions) c.order.ensures c.stand.ensures) c.loop-at.at c.loop-at.from
    no_end c.between.result.now c.loop-at-test.true c.loop-at.invariant.0.from_is c.between.ensures (omega arith)

pub add_part-requires-clause-within : goal.add_part-requires-clause-within
add_part-requires-clause-within g c =
    cut_moved c.args.linear.now c.parts-shown.result.now c.flows-all.result.now c.parts-shown.ensures c.flows-all.ensures c.args.names.now c.stand.new.positions
    (length c.args.names.now) c.requires.placed
    (subst (λ (xs : List ℕ). StandAt xs c.stand.new.positions) c.order.ensures c.stand.ensures) c.loop-at.at
    c.loop-at.from no_end c.between.result.now c.loop-at-test.true c.loop-at.invariant.0.from_is c.between.ensures
    c.as_slice-own_names.result.now (c.as_slice-own_names.ensures ∙ c.in_ok-order.ensures
    ∙ ap (map (slice_index c.args.names.now)) c.order-2.ensures)

pub add_part-requires-clause-kept : goal.add_part-requires-clause-kept
add_part-requires-clause-kept g c =
    subst (λ (o : Option OldPart). IfSome o (λ from. (from.flow_start ≤ from.flow_end) × (from.flow_end ≤ length c.args.known.now)))
    (sym c.from_at.ensures) (c.requires.within c.loop-at.at)

pub loop-at-preserved : goal.loop-at-preserved
loop-at-preserved g c =
    let names_are : c.as_slice-own_names.result.now ≡ map (slice_index c.args.names.now) (placed c.args.linear.now) =
    c.as_slice-own_names.ensures ∙ c.in_ok-order.ensures ∙ ap (map (slice_index c.args.names.now)) c.order-2.ensures in
    let adds : AddsPart (get_or c.args.froms.now c.loop-at.at None) c.between.result.now c.stand.new.positions
    (map (slice_index c.args.names.now) (placed c.args.linear.now)) c.args.known.now c.loop-at.flows.items c.add_part.new.flows.items =
    subst₂ (λ (o : Option OldPart) (xs : List ℕ). AddsPart o c.between.result.now c.stand.new.positions xs c.args.known.now c.loop-at.flows.items
    c.add_part.new.flows.items) c.from_at.ensures names_are c.in_ok-add_part.ensures in
    let so = subst (λ (xs : List ℕ). Reading c.args.names.now xs c.args.linear.now c.args.froms.now c.args.known.now c.parts-shown.result.now
    c.loop-at.at c.loop-at.from c.loop-at.parts.items c.loop-at.flows.items) names_are c.loop-at.invariant.0 in
    let count : c.len.result ≡ length c.add_part.new.flows.items = omega (arith, c.len.ensures) in
    let room : length c.parts-shown.result.now ≤ c.push_reserved.new.self.capacity = subst (λ (n : ℕ). length c.parts-shown.result.now ≤ n)
    (sym c.push_reserved.ensures.capacity) c.loop-at.invariant.1 in (
      subst (λ (xs : List ℕ). Reading c.args.names.now xs c.args.linear.now c.args.froms.now c.args.known.now c.parts-shown.result.now (c.loop-at.at + 1)
          (slice_index_or c.parts-shown.result.now c.loop-at.at no_end).flow_end c.push_reserved.new.self.items c.add_part.new.flows.items) (sym names_are)
          (Reading-more c.args.linear.now c.parts-shown.result.now c.flows-all.result.now c.parts-shown.ensures
          c.flows-all.ensures c.args.names.now c.stand.new.positions (length c.args.names.now) c.requires.placed
          (subst (λ (xs : List ℕ). StandAt xs c.stand.new.positions) c.order.ensures c.stand.ensures) c.args.froms.now c.args.known.now c.loop-at.at c.loop-at.from
          no_end c.between.result.now c.loop-at.parts.items c.push_reserved.new.self.items c.loop-at.flows.items c.add_part.new.flows.items
          c.loop-at-test.true c.between.ensures adds
          (c.push_reserved.ensures.items ∙ ap (λ x. c.loop-at.parts.items ++ x ∷ []) (c.end_of.ensures
          ∙ ap (end_of (slice_index_or c.parts-shown.result.now c.loop-at.at no_end)) count)) so),
      room,
    )

pub push_reserved-requires : goal.push_reserved-requires
push_reserved-requires g c = (
  omega arith,
  parts_fit c.loop-at.parts.items c.parts-shown.result.now c.loop-at.at c.loop-at.parts.capacity c.loop-at.invariant.0.ends c.loop-at-test.true
      c.loop-at.invariant.1,
)

pub returns : goal.returns
returns g c =
    let names_are : c.in_ok-order.order.items ≡ map (slice_index c.args.names.now) (placed c.args.linear.now) =
    c.in_ok-order.ensures ∙ ap (map (slice_index c.args.names.now)) c.order-2.ensures in
    Reading-all c.args.linear.now c.parts-shown.result.now c.flows-all.result.now c.parts-shown.ensures c.flows-all.ensures
    c.args.names.now c.in_ok-order.order.items c.args.froms.now c.args.known.now c.loop-at.at c.loop-at.from c.loop-at.parts.items c.loop-at.flows.items
    c.loop-at-test.false names_are
    (subst (λ (xs : List ℕ). Reading c.args.names.now xs c.args.linear.now c.args.froms.now c.args.known.now c.parts-shown.result.now c.loop-at.at
    c.loop-at.from c.loop-at.parts.items c.loop-at.flows.items) c.as_slice-own_names.ensures c.loop-at.invariant.0)
