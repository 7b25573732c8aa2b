use Rattle.std.proofs.Common.{◌≡◌, [], sym, ap, ◌∙◌, subst}
use Rattle.chunk_index.specs.Ends.{seen_from}
use Rattle.chunk_index.specs.Keys.{IsInOrder}
use Rattle.chunk_index.specs.Merges.{ComesAt}
use Rattle.chunk_index.specs.Pairs.{pair_key}
use Rattle.chunk_index.proofs.Maps.{Numbers}
use Rattle.chunk_index.proofs.Merges.{none_comes, farther_comes, level_comes, rest_order}
use Rattle.chunk_index.proofs.numbers.NumberSpan.take_nearer.Goals as goal

pub returns-in_default-take_mapped-clause-nearer : goal.returns-in_default-take_mapped-clause-nearer
returns-in_default-take_mapped-clause-nearer c =
    let none : c.args.self.now.map ≡ [] = sym c.in-Ok.ensures.cases ∙ c.in_default-take_mapped.ensures.0 in
    subst (λ (t : Numbers). ComesAt pair_key c.args.end c.args.than.now t t) (sym none) (none_comes pair_key c.args.than.now c.args.end)

pub invariant_of-self : goal.invariant_of-self
invariant_of-self c =
    let whole = sym c.in-Ok.ensures.cases ∙ c.in-Some.ensures in
    record { map_order = rest_order pair_key c.args.end _ c.take_mapped.new.map (subst (IsInOrder pair_key) whole c.args.self.now.map_order) }

pub invariant_of-self-in-Equal : goal.invariant_of-self-in-Equal
invariant_of-self-in-Equal c =
    let whole = sym c.in-Ok.ensures.cases ∙ c.in-Some.ensures in
    record { map_order = rest_order pair_key c.args.end _ c.take_mapped.new.map (subst (IsInOrder pair_key) whole c.args.self.now.map_order) }

pub returns-in-Equal-clause-nearer : goal.returns-in-Equal-clause-nearer
returns-in-Equal-clause-nearer c =
    let whole = sym c.in-Ok.ensures.cases ∙ c.in-Some.ensures in
    subst (λ (t : Numbers). ComesAt pair_key c.args.end c.args.than.now t c.take_mapped.new.map) (sym whole)
    (level_comes pair_key c.args.than.now c.args.end _ c.take_mapped.new.map (subst (IsInOrder pair_key) whole c.args.self.now.map_order)
    (ap (seen_from c.args.end) (sym c.cmp.ensures) ∙ sym c.in-Equal.ensures))

pub returns-in-Greater-clause-nearer : goal.returns-in-Greater-clause-nearer
returns-in-Greater-clause-nearer c =
    let whole = sym c.in-Ok.ensures.cases ∙ c.in-Some.ensures in
    subst (λ (t : Numbers). ComesAt pair_key c.args.end c.args.than.now t t) (sym whole)
    (farther_comes pair_key c.args.than.now c.args.end _ c.take_mapped.new.map (subst (IsInOrder pair_key) whole c.args.self.now.map_order)
    (ap (seen_from c.args.end) (sym c.cmp.ensures) ∙ sym c.in-Greater.ensures))
