use Rattle.std.proofs.Common.{ℕ, Option, sym, ap, ◌∙◌}
use Rattle.std.specs.Map.{lookup}
use Rattle.chunk_index.proofs.Maps.{test}
use Rattle.chunk_index.proofs.Merges.{either}
use Rattle.chunk_index.proofs.Pairs.{lookup-listed}
use Rattle.chunk_index.proofs.numbers.Numbers.get.Goals as goal

pub returns-in-Some : goal.returns-in-Some
returns-in-Some c =
    let n = c.args.self.now in
    let k = c.args.key.now in
    ap (λ (o : Option ℕ). either o (lookup (test k) n.map.entries)) c.in-Some.ensures
    ∙ sym (lookup-listed n.map.entries n.late k n.late_order)

pub returns-in-None : goal.returns-in-None
returns-in-None c =
    let n = c.args.self.now in
    let k = c.args.key.now in
    c.copied.ensures ∙ c.get.ensures.value
    ∙ ap (λ (o : Option ℕ). either o (lookup (test k) n.map.entries)) c.in-None.ensures
    ∙ sym (lookup-listed n.map.entries n.late k n.late_order)
