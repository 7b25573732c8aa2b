use Rattle.std.proofs.Common.{◌≡◌, ℕ, ℤ, pos, get_or, ◌∙◌, arith}
use Rattle.std.proofs.lemmas.List.{get_or_default}
use Rattle.lists.proofs.Entries.{map-Contains}
use Rattle.leaf_tests.proofs.links_tests.lists.Goals as goal

pub returns : goal.returns
returns c = (
  (λ h. (cc)),
  (λ here.
      let (tx, (k, low, at), is) = map-Contains (λ (t : ℕ × ℤ × ℕ). t.0) c.args.txs.now c.args.id here in
      let same : ◌≡◌ {A = ℕ × ℤ × ℕ} (get_or c.args.txs.now k (0, pos 0, 0)) tx = get_or_default c.args.txs.now k (0, pos 0, 0) tx low ∙ at in
      absurd (c.loop-tx.invariant k (omega arith) ((λ i. (same i).0) ∙ is))),
)
