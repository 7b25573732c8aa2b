use Rattle.std.proofs.Common.{◌≡◌, Some, ap, ◌∙◌, subst}
use Rattle.chunk_index.specs.declared.entry.Tag.{Tag}
use Rattle.chunk_index.specs.declared.key.Key.{Key}
use Rattle.chunk_index.specs.Keys.{key_of}
use Rattle.chunk_index.specs.Items.{found}
use Rattle.chunk_index.proofs.Items.{finds}
use Rattle.chunk_index.proofs.index.ChunkIndex.remove.Goals as goal

pub take-requires : goal.take-requires
take-requires c =
    let at = finds c.args.self.now (key_of c.args.entry.now) c.requires in
    let tag : at.1.0 ≡ c.tag_of-tag.result = c.tag_of-tag.ensures at.0 at.1.0 (ap (λ (k : Key). found c.args.self.now k) c.of.ensures ∙ at.1.1) in
    (at.0, subst (λ (t : Tag). found c.args.self.now (key_of c.args.entry.now) ≡ Some (at.0, t)) tag at.1.1)
