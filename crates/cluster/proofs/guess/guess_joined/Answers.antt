use Rattle.std.proofs.Common.{◌⊎◌, Contains}
use Rattle.graphs.specs.Certificates.{Part}
use Rattle.cluster.proofs.Images.{images_more, images_none}
use Rattle.cluster.proofs.guess.guess_joined.Goals as goal

pub loop-init : goal.loop-init
loop-init g c = images_none c.args.names.now (λ (part : Part). Contains c.args.first.now.parts part ⊎ Contains c.args.second.now.parts part) _ _ _ c.clear.ensures

pub loop-preserved : goal.loop-preserved
loop-preserved g c =
    images_more c.args.names.now (λ (part : Part). Contains c.args.first.now.parts part ⊎ Contains c.args.second.now.parts part)
    (λ (part : Part). Contains c.args.first.now.parts part ⊎ Contains c.args.second.now.parts part) _ _ _ _ _ _ c.loop.invariant c.put_either.ensures
    (λ p here. here)
