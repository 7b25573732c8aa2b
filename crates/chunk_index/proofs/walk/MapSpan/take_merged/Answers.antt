use Rattle.std.proofs.Common.{sym, ap, ◌∙◌}
use Rattle.chunk_index.specs.Ends.{seen_from}
use Rattle.chunk_index.specs.KeyOrder.{key_cmp}
use Rattle.chunk_index.specs.Keys.{key_of}
use Rattle.chunk_index.specs.Numbers.{span_left}
use Rattle.chunk_index.specs.Parts.{part_left}
use Rattle.chunk_index.specs.Sources.{map_listed}
use Rattle.chunk_index.proofs.Merges.{step_alone, step_nearer, step_second}
use Rattle.chunk_index.proofs.Parts.{part_order, span_order}
use Rattle.chunk_index.proofs.Walks.{left_order}
use Rattle.chunk_index.proofs.walk.MapSpan.take_merged.Goals as goal

pub returns-in_default : goal.returns-in_default
returns-in_default c =
    let s = c.args.self.now in
    let l = c.take_listed.new.self in
    let none = sym c.copy-fresh.ensures ∙ c.in_default.ensures.0 in
    step_alone key_of c.args.end (map_listed s) (map_listed l) (part_left s.fresh) c.take_listed.result (part_left l.fresh) none
    (c.take_listed.ensures.fresh ∙ none) c.take_listed.ensures.taken

pub returns-in-Some-take_nearer : goal.returns-in-Some-take_nearer
returns-in-Some-take_nearer c =
    let s = c.args.self.now in
    let near = c.in-Some-take_nearer.ensures.nearer in
    step_nearer key_of c.args.end (map_listed s) (map_listed c.take_nearer.new.self) (part_left s.fresh) c.in-Some-take_nearer.nearer c.in-Some.entry
    (part_left c.take.new.self) (part_left c.take_nearer.new.self.fresh) near.0 (sym c.copy-fresh.ensures ∙ c.in-Some.ensures)
    (left_order s.main.now s.top.now s.wanted (span_left s.numbers) (span_order s.numbers))
    (part_order key_of s.fresh.tree.now s.fresh.from s.fresh.to s.fresh.order)
    (ap (λ k. seen_from c.args.end (key_cmp (key_of c.in-Some-take_nearer.nearer) k)) (sym c.of.ensures) ∙ near.1) c.take_nearer.ensures.fresh

pub returns : goal.returns
returns c =
    let s = c.args.self.now in
    step_second key_of c.args.end (map_listed s) (map_listed c.take_nearer.new.self) (part_left s.fresh) c.of.result c.in-Some.entry
    (part_left c.take.new.self) c.in_default-take_nearer.ensures.nearer c.of.ensures (sym c.copy-fresh.ensures ∙ c.in-Some.ensures)
    (part_order key_of s.fresh.tree.now s.fresh.from s.fresh.to s.fresh.order)
