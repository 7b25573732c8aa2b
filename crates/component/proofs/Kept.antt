-- What a component keeps is the cluster that it stands for.
use Rattle.std.proofs.Common.{◌≡◌, ℕ, ◌<◌, length, refl, sym, ap, ◌∙◌, subst}
use Rattle.std.specs.Prelude.{Result, IfOk}
use Rattle.std.proofs.lemmas.Result.{IfOk-weaker}
use Rattle.cluster.specs.Clusters.{Cluster}
use Rattle.component.specs.Widths.{cluster_at, HasItsWidth}
use Rattle.component.specs.declared.width.Boxed.{Boxed}
use Rattle.component.specs.declared.width.Width.{Width}
use Rattle.component.specs.declared.width.Width.TheVariants.{Narrow, Wide}

pub narrow_is : {W : ℕ} (k : Width W) (c s : Cluster) → k ≡ Narrow c → cluster_at k ≡ s → c ≡ s
narrow_is k c s is view = sym (ap cluster_at is) ∙ view

pub wide_is : {W : ℕ} (k : Width W) (b : Boxed W) (c s : Cluster) → k ≡ Wide b → cluster_at k ≡ s → c ≡ b.cluster.value → c ≡ s
wide_is k b c s is view same = same ∙ sym (ap cluster_at is) ∙ view

-- what holds of a value holds of a result that has no other
pub handed : {T E : Type 0} (P : T → Type 0) (x : T) (r : Result T E) → IfOk r (λ y. y ≡ x) → P x → IfOk r P
handed P x r same holds = IfOk-weaker r (λ y. y ≡ x) P (λ y e. subst P (sym e) holds) same

-- one that is kept wide has more names than one word has room for
pub wide_large : {W : ℕ} (k : Width W) (b : Boxed W) (s : Cluster) → k ≡ Wide b → cluster_at k ≡ s → HasItsWidth k → 64 < length s.names
wide_large k b s is view fits = subst (λ (c : Cluster). 64 < length c.names) (wide_is k b b.cluster.value s is view refl) (subst HasItsWidth is fits)
