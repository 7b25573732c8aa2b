use Rattle.std.proofs.Common.{◌≡◌, ◌≤◌, ◌-◌, take, drop, length, length-drop, arith, ap, ◌∙◌, inr, IsSomeAnd, true}
use Rattle.std.proofs.lemmas.List.{drop_all}
use Rattle.outside.proofs.Copies.{passed, at_end}
use Rattle.outside.proofs.mem_source.MemSourceSource.read.Goals as goal

pub returns-clause-bytes : goal.returns-clause-bytes
returns-clause-bytes c =
    let inside = c.self.inside in
    let rest : c.split_at.result.1.now ≡ drop inside.at inside.bytes.items = c.split_at.ensures.back ∙ ap (drop inside.at) c.deref.ensures.value in
    let before : IsSomeAnd inside.stop (λ s. s ≤ inside.at) → ⊥ = λ h. let yes : c.fails.result ≡ true =
    c.fails.ensures.1 (inr h) in let no = c.if-fails.false in cc in
    let long : length c.split_at.result.1.now ≡ length inside.bytes.items - inside.at = ap length rest ∙ length-drop inside.at inside.bytes.items in
    rw (← c.self.view_is) (
      passed inside.bytes.items c.copy_front-count.new.buf inside.at c.copy_front-count.result
          (c.copy_front-count.ensures.copied ∙ ap (take c.copy_front-count.result) rest),
      λ zero some. drop_all _ _ (at_end inside.bytes.items inside.at c.copy_front-count.result
          (length c.copy_front-count.new.buf) inside.piece c.saturating_sub-left.result inside.stop before
          (c.saturating_sub-left.ensures ∙ ap (λ n. n - inside.at) c.end.ensures)
          (omega (arith, c.copy_front-count.ensures.count, c.min.ensures, c.copy_front-count.auto.buf, long)) c.self.invariant.1 some zero),
    )
