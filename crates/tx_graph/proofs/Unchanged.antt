-- What a call that changes nothing keeps.
use Rattle.std.proofs.Common.{◌≡◌, ◌≢◌, ℕ, ◌+◌, ◌≤◌, Option, None, Some, refl, ap, ◌∙◌, arith}
use Rattle.graphs.specs.declared.names.Verdict.{Verdict}
use Rattle.graphs.specs.declared.names.Verdict.TheVariants.{Better, Worse, Equal, Incomparable}
use Rattle.cluster.specs.Steps.{GrowsWithin}
use Rattle.graph_model.specs.declared.names.Limits.{Limits}
use Rattle.levels.specs.Levels.{OneLevel, Levels}
use Rattle.levels.specs.Levels as levels
use Rattle.levels.specs.Stays.{AllStay}
use Rattle.tx_graph.proofs.Staged.{committed, aborted}

pub all_stay : (levels : Levels) → AllStay levels levels
all_stay levels level = record { parts = λ part same. (λ here. here, λ here. here); in_order = λ p q one two before. before }

pub grows_by_none : (most steps : ℕ) → GrowsWithin most steps steps
grows_by_none most steps = record { grew = omega arith; few = omega arith }

pub within_one : (steps a : ℕ) → steps ≤ steps + a
within_one steps a = omega arith

pub plus_none : (n : ℕ) → n ≡ n + 0
plus_none n = omega arith

pub not_larger : (steps : ℕ) → steps ≤ steps
not_larger steps = omega arith

issued_in : (limits : Limits) (main : OneLevel) (staging : Option OneLevel) (issued : ℕ) (top : OneLevel)
    → (levels.with_top (record { limits = limits; main = main; staging = staging; issued = issued }) top).issued ≡ issued
issued_in limits main None issued top = refl
issued_in limits main (Some one) issued top = refl

-- another top level adds no name
pub issued_topped : (old new : Levels) (top : OneLevel) → new ≡ levels.with_top old top → new.issued ≡ old.issued
issued_topped old new top is = ap (λ (l : Levels). l.issued) is ∙ issued_in old.limits old.main old.staging old.issued top

-- a settlement adds no name
pub issued_settled : (old new : Levels) (verdict : Verdict) → (verdict ≡ Better → new ≡ committed old) → (verdict ≢ Better → new ≡ aborted old)
    → new.issued ≡ old.issued
issued_settled old new Better better other = ap (λ (l : Levels). l.issued) (better refl)
issued_settled old new Worse better other = ap (λ (l : Levels). l.issued) (other (λ e. cc))
issued_settled old new Equal better other = ap (λ (l : Levels). l.issued) (other (λ e. cc))
issued_settled old new Incomparable better other = ap (λ (l : Levels). l.issued) (other (λ e. cc))
