use Rattle.std.proofs.Common.{◌≡◌, Some, ap, ◌∙◌, subst}
use Rattle.chunk_index.specs.declared.entry.Tag.{Tag}
use Rattle.chunk_index.specs.declared.key.Key.{Key}
use Rattle.chunk_index.specs.Keys.{key_of}
use Rattle.chunk_index.specs.Items.{found}
use Rattle.chunk_index.proofs.index.ChunkIndex.retag.Goals as goal

pub move_tag-requires : goal.move_tag-requires
move_tag-requires c =
    let n = c.args.entry.now.number in
    let tag : c.requires.0 ≡ c.tag_of-from.result =
    c.tag_of-from.ensures n c.requires.0 (ap (λ (k : Key). found c.args.self.now k) c.of.ensures ∙ c.requires.1) in
    subst (λ (t : Tag). found c.args.self.now (key_of c.args.entry.now) ≡ Some (n, t)) tag c.requires.1
