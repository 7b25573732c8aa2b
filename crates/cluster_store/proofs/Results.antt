-- Equal things for equal things.
use Rattle.std.proofs.Common.{◌≡◌, ℕ, List, true, OnOk, Ok, Err, subst}
use Rattle.std.specs.declared.result.Result.{Result}
use Rattle.graphs.specs.Certificates.{Part}
use Rattle.chunk_index.specs.declared.entry.Tag.{Tag}
use Rattle.chunk_index.specs.declared.key.Key.{Key}
use Rattle.chunk_index.specs.Items.{Items}
use Rattle.cluster_store.specs.Kept.{fresh, Enters, Leaves}

pub on_ok : {X E : Type 0} {P Q : Type 0} (r : Result X E) → OnOk r P → (P → Q) → OnOk r Q
on_ok (Ok x) h f = f h
on_ok (Err e) h f = tt

pub fresh_same : (n m : ℕ) (ps ps' qs qs' : List Part) (k : Key) → n ≡ m → ps ≡ ps' → qs ≡ qs' → fresh n ps qs k ≡ true → fresh m ps' qs' k ≡ true
fresh_same n m ps ps' qs qs' k a b c f =
    subst (λ (x : ℕ). fresh x ps' qs' k ≡ true) a (subst (λ (x : List Part). fresh n x qs' k ≡ true) b (subst (λ (x : List Part). fresh n ps x k ≡ true) c f))

pub enters_same : (n m : ℕ) (t u : Tag) (ps ps' qs qs' : List Part) (old new : Items) → n ≡ m → t ≡ u → ps ≡ ps' → qs ≡ qs' → Enters n t ps qs old new
    → Enters m u ps' qs' old new
enters_same n m t u ps ps' qs qs' old new a b c d h =
    subst (λ (x : ℕ). Enters x u ps' qs' old new) a (subst (λ (x : Tag). Enters n x ps' qs' old new) b
    (subst (λ (x : List Part). Enters n t x qs' old new) c (subst (λ (x : List Part). Enters n t ps x old new) d h)))

pub leaves_same : (n m : ℕ) (ps ps' qs qs' : List Part) (old new : Items) → n ≡ m → ps ≡ ps' → qs ≡ qs' → Leaves n ps qs old new → Leaves m ps' qs' old new
leaves_same n m ps ps' qs qs' old new a b c h =
    subst (λ (x : ℕ). Leaves x ps' qs' old new) a (subst (λ (x : List Part). Leaves n x qs' old new) b (subst (λ (x : List Part). Leaves n ps x old new) c h))
