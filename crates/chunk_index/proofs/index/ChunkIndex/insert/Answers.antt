use Rattle.std.proofs.Common.{ap, ◌∙◌}
use Rattle.chunk_index.specs.declared.entry.Tag.TheVariants.{Both}
use Rattle.chunk_index.specs.declared.key.Key.{Key}
use Rattle.chunk_index.specs.Items.{Items, found, tag_set, with_entry}
use Rattle.chunk_index.specs.Kept.{entry_from}
use Rattle.chunk_index.proofs.Items.{tag-put, found-put}
use Rattle.chunk_index.proofs.index.ChunkIndex.insert.Goals as goal

pub set_apart-requires : goal.set_apart-requires
set_apart-requires c =
    ap (λ (items : Items). found items c.of-key.result) c.in_ok-enter-in_default.ensures.ok
    ∙ found-put c.catch_up.new.self (entry_from c.of-key.result c.args.entry.number) Both

pub returns-in_ok-enter-in_default : goal.returns-in_ok-enter-in_default
returns-in_ok-enter-in_default c = record {
  ok = c.set_apart.ensures
      ∙ ap (λ (items : Items). tag_set items c.of-key.result c.args.tag) c.in_ok-enter-in_default.ensures.ok
      ∙ tag-put c.catch_up.new.self (entry_from c.of-key.result c.args.entry.number) Both c.args.tag
      ∙ ap (λ (k : Key). with_entry c.catch_up.new.self (entry_from k c.args.entry.number) c.args.tag) c.of-key.ensures
      ∙ ap (λ (items : Items). with_entry items c.args.entry c.args.tag) c.catch_up.ensures;
  err = tt;
}
