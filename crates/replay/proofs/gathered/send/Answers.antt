use Rattle.std.proofs.Common.{◌≡◌, ℕ, ◌+◌, ◌-◌, ◌≤◌, List, ◌++◌, length, take, drop, ap, sym, subst, ◌∙◌, arith, append-nil, take_all, length-drop}
use Rattle.std.proofs.lemmas.List.{take_rest}
use Rattle.std.specs.Io.KnownBytes.{Appends}
use Rattle.std.proofs.KnownBytes.{Appends-kept}
use Rattle.replay.proofs.GatherLemmas.{sent_more, left_behind}
use Rattle.replay.proofs.gathered.send.Goals as goal

pub pieces-preserved : goal.pieces-preserved
pieces-preserved g c =
    let items = c.pieces.held.items in
    let piece = take_rest c.deref.result.now c.pieces.at ∙ ap (drop c.pieces.at) c.deref.ensures.value in
    record {
      within = omega (
        arith,
        c.in-Ok.ensures.bound.0,
        ap length piece,
        length-drop c.pieces.at items,
        ap length c.deref.ensures.value,
        c.deref.ensures.len,
        c.len.ensures,
        c.pieces-test.true,
      );
      kept = c.pieces.invariant.kept;
      out = sent_more items c.pieces.at c.in-Ok.count _ _ _ _ piece c.pieces.invariant.out c.in-Ok.ensures.bytes;
      same = c.in-Ok.ensures.cause.ok ∙ c.pieces.invariant.same;
    }

pub returns-in-Err-clause-sends : goal.returns-in-Err-clause-sends
returns-in-Err-clause-sends g c =
    let items = c.pieces.held.items in
    let long = ap length c.deref.ensures.value in
    let n = c.len-in-Err.result - c.pieces.at in
    let within : c.pieces.at ≤ length items = omega (arith, long, c.deref.ensures.len, c.len.ensures, c.pieces-test.true) in
    let sum : n + c.pieces.at ≡ length items = omega (arith, long, within, c.deref.ensures.len, c.rotate_left.ensures.len, c.len-in-Err.ensures) in
    let left = left_behind items c.rotate_left.new.self.items c.truncate.new.self.items
    c.pieces.at n within c.rotate_left.ensures.items c.truncate.ensures.items sum in
    (take c.pieces.at items, ap (λ v. v.items) (sym c.pieces.invariant.kept) ∙ left, Appends-kept _ _ _ _ c.pieces.invariant.out c.in-Err.ensures.bytes)

pub returns-clause-sends : goal.returns-clause-sends
returns-clause-sends g c =
    let items = c.pieces.held.items in
    let all : take c.pieces.at items ≡ items = take_all c.pieces.at items (omega (arith, c.pieces-test.false, c.len.ensures, c.pieces.held.ok.0)) in (
      items,
      ap (λ v. v.items) (sym c.pieces.invariant.kept) ∙ sym (ap (λ (bytes : List ℕ). items ++ bytes) c.clear.ensures.items ∙ append-nil items),
      subst (λ (bytes : List ℕ). Appends (g.K.Sink.written c.args.sink.now) (g.K.Sink.written c.pieces.sink) bytes) all c.pieces.invariant.out,
    )
