-- The key of a part of a cluster that is stored.
use Rattle.std.proofs.Common.{◌≡◌, ℕ, ◌<◌, length, Option, None, Some, sym, ap, ◌∙◌, subst, arith}
use Rattle.std.proofs.lemmas.Option.{slice_get-get_or}
use Rattle.std.specs.List.{slice_get}
use Rattle.graphs.specs.Certificates.{Part}
use Rattle.chunk_index.specs.declared.key.Key.{Key}
use Rattle.cluster.specs.Clusters.{Cluster}
use Rattle.cluster_store.specs.Keys.{key_part}
use Rattle.cluster_store.specs.Stores.{Stored, key_in, part_in, parts_in, no_part}

pub stored_low : {o : Option Stored} (s : Stored) (place : ℕ × ℕ) (c : Cluster)
    → Some s ≡ o → c ≡ s.cluster → place.1 < length (parts_in o) → place.1 < length c.parts
stored_low s place c is same below =
    subst (λ (x : Cluster). place.1 < length x.parts) (sym same) (subst (λ (t : Option Stored). place.1 < length (parts_in t)) (sym is) below)

pub stored_key : {o : Option Stored} {k : Key} (s : Stored) (place : ℕ × ℕ) (c : Cluster) → Some s ≡ o → c ≡ s.cluster → place.1 < length (parts_in o)
    → ((p : Part) → slice_get c.parts place.1 ≡ Some p → k ≡ key_part place.0 place.1 p) → k ≡ key_in o place
stored_key s place c is same below told =
    let low : place.1 < length s.cluster.parts = subst (λ (t : Option Stored). place.1 < length (parts_in t)) (sym is) below in
    told (part_in (Some s) place.1)
    (ap (λ (x : Cluster). slice_get x.parts place.1) same ∙ slice_get-get_or s.cluster.parts place.1 no_part low)
    ∙ ap (λ (t : Option Stored). key_in t place) is

-- no part is below nothing
pub none_below : {o : Option Stored} {n : ℕ} → None ≡ o → n < length (parts_in o) → ⊥
none_below {o} {n} is below =
    let low : n < length (parts_in None) = subst (λ (t : Option Stored). n < length (parts_in t)) (sym is) below in
    let none : n < 0 = low in
    absurd (omega arith)
