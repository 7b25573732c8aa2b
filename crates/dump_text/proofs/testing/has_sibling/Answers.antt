use Rattle.std.proofs.Common.{◌≡◌, ◌+◌, ◌-◌, ◌<◌, arith}
use Rattle.lists.proofs.Cases.{differs}
use Rattle.dump_text.proofs.Covering.{edge_at}
use Rattle.dump_text.proofs.Neighbours.{only_parent}
use Rattle.dump_text.proofs.testing.has_sibling.Goals as goal
use Rattle.dump_text.proofs.testing.has_sibling.Goals.{else-at-gt0-via-then-at-gt0+else-edges-at, else-at-gt0-via-else-at-gt0}

pub returns-then-at-edges : goal.returns-then-at-edges
returns-then-at-edges c = λ none.
    let edges = c.args.edges.now in
    let at = c.args.at in
    let before : 0 < at → (edge_at edges (at - 1)).1 ≡ (edge_at edges at).1 → ⊥ = λ some same. elim c.else-at-gt0.branch [
      | else-at-gt0-via-then-at-gt0+else-edges-at w ↦ w.if-edges-at.false same
      | else-at-gt0-via-else-at-gt0 w ↦ omega (arith, some, w.if-at-gt0.false)
    ] in
    only_parent edges at c.requires.rising c.requires.at before (λ low. differs (edge_at edges (at + 1)).1 (edge_at edges at).1 none)

pub returns-else-at-edges : goal.returns-else-at-edges
returns-else-at-edges c = λ none.
    let edges = c.args.edges.now in
    let at = c.args.at in
    let before : 0 < at → (edge_at edges (at - 1)).1 ≡ (edge_at edges at).1 → ⊥ = λ some same. elim c.else-at-gt0.branch [
      | else-at-gt0-via-then-at-gt0+else-edges-at w ↦ w.if-edges-at.false same
      | else-at-gt0-via-else-at-gt0 w ↦ omega (arith, some, w.if-at-gt0.false)
    ] in
    only_parent edges at c.requires.rising c.requires.at before (λ low same. omega (arith, low, c.if-at-edges.false))
