use Rattle.std.specs.Ordering.{is_ge}
use Rattle.chunk_index.specs.KeyOrder.{key_cmp}
use Rattle.chunk_index.specs.Keys.{key_of, not_before}
use Rattle.chunk_index.specs.Items.{is_in, same_tag, entries_tagged}
use Rattle.chunk_index.proofs.Lists.{filter_in_order}
use Rattle.chunk_index.proofs.Tags.{entries_in_order}
use Rattle.chunk_index.proofs.laws.walks_are_in_order.Goals as goal

pub returns : goal.returns
unfolding not_before
returns c =
    record {
      level = λ items l order. entries_in_order (is_in l) items order;
      tag = λ items t order. entries_in_order (same_tag t) items order;
      rest = λ items t k order.
          filter_in_order key_of (λ e. is_ge (key_cmp (key_of e) k)) (entries_tagged t items) (entries_in_order (same_tag t) items order);
    }
