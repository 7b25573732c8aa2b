use Rattle.std.proofs.Common.{is_some, sym, ap, ◌∙◌}
use Rattle.chunk_index.specs.declared.key.Key.{Key}
use Rattle.chunk_index.specs.Keys.{has_key}
use Rattle.chunk_index.specs.Items.{item_key}
use Rattle.chunk_index.proofs.Whole.{index-order, has_fresh, has_listed}
use Rattle.chunk_index.proofs.index.ChunkIndex.contains.Goals as goal

pub returns-then-has-clause-found : goal.returns-then-has-clause-found
returns-then-has-clause-found c =
    let there = sym c.if-has.ensures in
    c.has.ensures ∙ there ∙ sym (has_fresh c.self.invariant c.self.view_is c.of-key.result there)
    ∙ ap (λ (k : Key). has_key item_key c.args.self.now k) c.of-key.ensures

pub returns-then-has-clause-order : goal.returns-then-has-clause-order
returns-then-has-clause-order c = index-order c.self.invariant c.self.view_is

pub returns-else-has-clause-found : goal.returns-else-has-clause-found
returns-else-has-clause-found c =
    c.is_some.ensures ∙ ap is_some c.get.ensures
    ∙ sym (has_listed c.self.invariant c.self.view_is c.of-key.result (sym c.if-has.ensures))
    ∙ ap (λ (k : Key). has_key item_key c.args.self.now k) c.of-key.ensures

pub returns-else-has-clause-order : goal.returns-else-has-clause-order
returns-else-has-clause-order c = index-order c.self.invariant c.self.view_is
