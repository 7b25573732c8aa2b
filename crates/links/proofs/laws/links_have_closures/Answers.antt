use Rattle.links.proofs.Closed.{closes, orders, rates_are, ancestors_are}
use Rattle.links.proofs.laws.links_have_closures.Goals as goal

pub returns : goal.returns
returns c = record { closes = closes; order = orders; ancestors = ancestors_are; rates = rates_are }
