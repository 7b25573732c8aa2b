use Rattle.std.proofs.Common.{◌≡◌, Some, ap, ◌∙◌}
use Rattle.chunk_index.specs.declared.entry.Tag.TheVariants.{Both}
use Rattle.chunk_index.specs.declared.key.Key.{Key}
use Rattle.chunk_index.specs.Items.{Items, found, tag_set}
use Rattle.chunk_index.proofs.Items.{tag-twice, found-tag}
use Rattle.chunk_index.proofs.index.ChunkIndex.move_tag.Goals as goal

pub share-requires : goal.share-requires
share-requires c = (c.args.entry.now.number, ap (λ (k : Key). found c.args.self.now k) c.of-key.ensures ∙ c.requires)

pub set_apart-requires : goal.set_apart-requires
set_apart-requires c =
    let k = c.of-key.result in
    let n = c.args.entry.now.number in
    let was : found c.args.self.now k ≡ Some (n, c.args.from) = ap (λ (q : Key). found c.args.self.now q) c.of-key.ensures ∙ c.requires in
    ap (λ (items : Items). found items k) c.share.ensures ∙ found-tag c.args.self.now k n c.args.from Both was

pub returns : goal.returns
returns c =
    c.set_apart.ensures
    ∙ ap (λ (items : Items). tag_set items c.of-key.result c.args.to) c.share.ensures
    ∙ tag-twice c.args.self.now c.of-key.result Both c.args.to
    ∙ ap (λ (k : Key). tag_set c.args.self.now k c.args.to) c.of-key.ensures
