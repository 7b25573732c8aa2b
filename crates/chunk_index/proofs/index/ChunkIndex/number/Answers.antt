use Rattle.std.proofs.Common.{MatchOption, ◌≡◌, false, Some, ap, sym, ◌∙◌, subst}
use Rattle.chunk_index.specs.declared.entry.Tag.{Tag}
use Rattle.chunk_index.specs.declared.entry.Tag.TheVariants.{TopOnly}
use Rattle.chunk_index.specs.declared.key.Key.{Key}
use Rattle.chunk_index.specs.Keys.{has_key}
use Rattle.chunk_index.specs.Items.{item_key, found}
use Rattle.chunk_index.proofs.Whole.{number_fresh, number_listed}
use Rattle.chunk_index.proofs.index.ChunkIndex.number.Goals as goal

pub returns-in-Some : goal.returns-in-Some
returns-in-Some c = (
  TopOnly,
  ap (λ (k : Key). found c.args.self.now k) (sym c.of-key.ensures)
      ∙ number_fresh c.self.invariant c.self.view_is c.of-key.result c.in-Some.number (sym c.in-Some.ensures),
)

pub returns-in-None : goal.returns-in-None
returns-in-None c =
    subst (λ (k : Key). MatchOption c.get.result (has_key item_key c.args.self.now k ≡ false) (λ n. (t : Tag) × (found c.args.self.now k ≡ Some (n, t))))
    c.of-key.ensures
    (number_listed c.self.invariant c.self.view_is c.of-key.result c.get.result (sym c.in-None.ensures) c.get.ensures)
