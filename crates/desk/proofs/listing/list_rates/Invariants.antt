-- the rates so far are listed
use Rattle.std.proofs.Common.{◌≡◌, ◌++◌, map}
use Rattle.fee_rate.specs.Rates.{sum_from}
use Rattle.desk.specs.Copies.{rate_words}
use Rattle.desk.proofs.listing.list_rates.Given as goal

abbrev pub invariant-loop-rate : goal.invariant-loop-rate
invariant-loop-rate l = record { rest : l.fn.rates ≡ map sum_from l.yielded ++ l.rate-iterator; listed : l.list.items ≡ map rate_words (map sum_from l.yielded) }
