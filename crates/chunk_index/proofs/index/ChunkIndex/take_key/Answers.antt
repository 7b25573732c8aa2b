use Rattle.std.proofs.Common.{refl, ap, ◌∙◌}
use Rattle.chunk_index.specs.declared.entry.Tag.TheVariants.{Both}
use Rattle.chunk_index.specs.Keys.{without}
use Rattle.chunk_index.specs.Items.{Items, item_key, found, tag_set}
use Rattle.chunk_index.proofs.Items.{found-tag, without-tag}
use Rattle.chunk_index.proofs.index.ChunkIndex.take_key.Goals as goal

pub leave-requires : goal.leave-requires
leave-requires c =
    let k = c.args.key.now in
    let n = c.requires.0 in (
      n,
      ap (λ (items : Items). found items k) (c.share.ensures ∙ ap (λ (items : Items). tag_set items k Both) (c.if-end.ensures.none refl))
          ∙ found-tag c.args.self.now k n c.args.tag Both c.requires.1,
    )

pub returns : goal.returns
returns c =
    c.leave.ensures
    ∙ ap (λ (items : Items). without item_key items c.args.key.now)
    (c.share.ensures ∙ ap (λ (items : Items). tag_set items c.args.key.now Both) (c.if-end.ensures.none refl))
    ∙ without-tag c.args.self.now c.args.key.now Both
