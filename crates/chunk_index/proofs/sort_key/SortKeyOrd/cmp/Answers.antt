use Rattle.std.proofs.Common.{◌≡◌, ap, sym, ◌∙◌, arith}
use Rattle.chunk_index.specs.declared.key.Key.{Key}
use Rattle.chunk_index.specs.Floors.{floor_of}
use Rattle.chunk_index.proofs.Floors.{stands_first, stands_behind}
use Rattle.chunk_index.proofs.sort_key.SortKeyOrd.cmp.Goals as goal

pub returns-then-self-other : goal.returns-then-self-other
returns-then-self-other c =
    let here : c.self.inside.floor ≡ floor_of c.args.self.now.rate = c.self.invariant ∙ ap (λ (k : Key). floor_of k.rate) c.self.view_is in
    let there : c.other.inside.floor ≡ floor_of c.args.other.now.rate = c.other.invariant ∙ ap (λ (k : Key). floor_of k.rate) c.other.view_is in
    sym (stands_first c.args.self.now c.args.other.now (omega (arith, here, there)))

pub returns-then-self-other-2 : goal.returns-then-self-other-2
returns-then-self-other-2 c =
    let here : c.self.inside.floor ≡ floor_of c.args.self.now.rate = c.self.invariant ∙ ap (λ (k : Key). floor_of k.rate) c.self.view_is in
    let there : c.other.inside.floor ≡ floor_of c.args.other.now.rate = c.other.invariant ∙ ap (λ (k : Key). floor_of k.rate) c.other.view_is in
    sym (stands_behind c.args.self.now c.args.other.now (omega (arith, here, there)))
