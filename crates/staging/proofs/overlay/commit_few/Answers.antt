use Rattle.std.proofs.Common.{sym, ap, ◌∙◌, arith}
use Rattle.staging.specs.Changes.{map_of_entries, applied}
use Rattle.staging.proofs.ChangeLemmas.{entries-changed, applied-append}
use Rattle.staging.proofs.overlay.commit_few.Goals as goal

pub loop-place-preserved : goal.loop-place-preserved
loop-place-preserved g c =
    let base = c.loop-place.base.entries in
    let left = c.pop.new.self.entries in
    let made = entries-changed base c.change_at.new.map.entries c.in-Some.key c.in-Some.value c.change_at.ensures.updates.0 in (
      ap (λ m. applied m left) made
          ∙ sym (applied-append (map_of_entries base) c.in-Some.key c.in-Some.value left)
          ∙ ap (applied (map_of_entries base)) (sym c.in-Some.ensures.entries)
          ∙ c.loop-place.invariant.0,
      omega (arith, c.in-Some.ensures.len),
      omega (arith, c.in-Some.ensures.len),
      omega arith,
    )
