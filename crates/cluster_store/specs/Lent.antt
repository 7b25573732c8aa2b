-- Parts that are lent.
use Rattle.linearize.specs.Graphs.{sum_from}
use Rattle.graphs.specs.Certificates.{Part}
use Rattle.cluster.specs.declared.cluster.PartRef.{PartRef}

abbrev pub lent : PartRef → Part
lent part = record { rate = sum_from part.rate; ids = part.ids.now; flows = part.flows.now }
