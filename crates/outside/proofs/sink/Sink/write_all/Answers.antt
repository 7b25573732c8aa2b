use Rattle.std.proofs.Common.{take, append_assoc, ap, ◌∙◌, take-append-drop, ◌++◌, ◌≡◌, List, ℕ}
use Rattle.std.proofs.KnownBytes.{Appends-trans}
use Rattle.outside.proofs.sink.Sink.write_all.Goals as goal

pub loop-rest-preserved : goal.loop-rest-preserved
loop-rest-preserved g c =
    let old = c.loop-rest.invariant.taken in
    let count = c.in_ok-count.count in
    let whole : take count c.loop-rest.rest.now ++ c.split_at.result.1.now ≡ c.loop-rest.rest.now =
    rw c.split_at.ensures.back (take-append-drop count c.loop-rest.rest.now) in
    record {
      taken = (
        old.0 ++ take count c.loop-rest.rest.now,
        append_assoc old.0 (take count c.loop-rest.rest.now) c.split_at.result.1.now ∙ ap (λ (rest : List ℕ). old.0 ++ rest) whole ∙ old.1,
        Appends-trans _ _ _ _ _ old.2 c.in_ok-count.ensures.bytes,
      );
      same = c.in_ok-count.ensures.cause.ok ∙ c.loop-rest.invariant.same;
    }
