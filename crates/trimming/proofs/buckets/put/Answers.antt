use Rattle.trimming.proofs.Listing.{put_has}
use Rattle.trimming.proofs.buckets.put.Goals as goal

pub returns : goal.returns
returns c = put_has c.args.lists.now.items c.args.at c.args.place c.index_mut.result.now c.push.new.self c.requires c.index_mut.ensures.value c.in_ok-push.ensures.items
