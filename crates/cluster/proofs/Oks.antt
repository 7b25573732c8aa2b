-- Facts of a cluster that a call made, and of steps that weren't taken.
use Rattle.std.proofs.Common.{◌≡◌, ℕ, List, [], ◌++◌, Result, Ok, Err, IfOk, ◌∙◌, ap, arith}
use Rattle.outside.specs.declared.errors.NoMemory.{NoMemory}
use Rattle.cluster.specs.Clusters.{Cluster}
use Rattle.cluster.specs.Steps.{GrowsWithin}

pub both_ok : {A : Type 0} (r : Result A NoMemory) (P Q R : A → Type 0) → ((a : A) → P a → Q a → R a) → IfOk r P → IfOk r Q → IfOk r R
both_ok (Ok a) P Q R f p q = f a p q
both_ok (Err e) P Q R f p q = tt

pub one_ok : (r : Result Cluster NoMemory) (P R : Cluster → Type 0) → ((c : Cluster) → P c → R c) → IfOk r P → IfOk r R
one_ok (Ok c) P R f p = f c p
one_ok (Err e) P R f p = tt

-- no step is within any bound
pub no_step : (most n : ℕ) → GrowsWithin most n n
no_step most n = record { grew = omega arith; few = omega arith }

-- what is put behind nothing
pub from_none : {old new added : List ℕ} → new ≡ old ++ added → old ≡ [] → new ≡ added
from_none {old} {new} {added} new_is none = new_is ∙ ap (λ (xs : List ℕ). xs ++ added) none
