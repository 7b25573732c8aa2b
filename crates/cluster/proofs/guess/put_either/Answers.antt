use Rattle.std.proofs.Common.{◌⊎◌, Contains, inl, inr}
use Rattle.graphs.specs.Certificates.{Part}
use Rattle.cluster.proofs.Images.{puts_wider}
use Rattle.cluster.proofs.guess.put_either.Goals as goal

pub returns-then-is_before : goal.returns-then-is_before
returns-then-is_before g c =
    puts_wider c.args.names.now (λ (part : Part). Contains c.args.first.now.parts part ⊎ Contains c.args.second.now.parts part)
    (λ (part : Part). Contains c.args.first.now.parts part) _ _ _ _ _ _ c.put_next.ensures (λ p here. inl here)

pub returns : goal.returns
returns g c =
    puts_wider c.args.names.now (λ (part : Part). Contains c.args.first.now.parts part ⊎ Contains c.args.second.now.parts part)
    (λ (part : Part). Contains c.args.second.now.parts part) _ _ _ _ _ _ c.put_next-2.ensures (λ p here. inr here)
