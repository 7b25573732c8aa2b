use Rattle.std.proofs.Common.{inl, inr, sym, arith, ◌≡◌, ◌<◌, ◌≤◌, ◌⊎◌, ◌∙◌, ◌+◌, length, eqb-true, eq-eqb, true≢false}
use Rattle.bitset.proofs.Shifts.{down_alone, down_both}
use Rattle.bitset.proofs.bits.bits_lowered.Goals as goal
use Rattle.bitset.proofs.bits.bits_lowered.Goals.{then-by-eq0, else-by-eq0}

pub returns-then-i-words : goal.returns-then-i-words
returns-then-i-words c k inside = down_alone c.args.words.now (λ j. (c.type_inv.words j).fits) c.args.i c.args.by k inside
    (elim c.if-by-eq0.branch as (λ _. (c.args.by ≡ 0) ⊎ (length c.args.words.now ≤ c.args.i + 1)) [
      | then-by-eq0 w ↦ inl w.if-by-eq0.true
      | else-by-eq0 w ↦ let end : c.args.i + 1 ≡ length c.args.words.now =
          eqb-true (c.args.i + 1) (length c.args.words.now) (sym w.value-is ∙ c.if-i-words.true) in
          inr (omega arith)
    ])

pub returns-else-i-words : goal.returns-else-i-words
returns-else-i-words c k inside =
    down_both c.args.words.now (λ j. (c.type_inv.words j).fits) c.args.i c.args.by k inside (elim c.if-by-eq0.branch as (λ _. 0 < c.args.by) [
      | then-by-eq0 w ↦ absurd (true≢false (sym (eq-eqb c.args.by 0 w.if-by-eq0.true) ∙ sym w.value-is ∙ c.if-i-words.false))
      | else-by-eq0 w ↦ omega (arith, w.if-by-eq0.false)
    ]) c.requires.within
