use Rattle.std.proofs.Common.{◌≡◌, ◌+◌, ◌*◌, ◌≤◌, ◌++◌, ℕ, length, lit<, sym, ap, ap₂, ◌∙◌, subst, subst₂, true≢false}
use Rattle.std.proofs.lemmas.Result.{IfOk-weaker}
use Rattle.cluster.specs.Clusters.{Cluster}
use Rattle.cluster.specs.Changes.{Joins}
use Rattle.record.specs.Changes.{AreJoined}
use Rattle.record.specs.Records.{IsFitted}
use Rattle.record.proofs.Likeness.{like_same, like_apart, like_across}
use Rattle.record.proofs.Ordered.{has_parts}
use Rattle.record.proofs.Together.{AreMore, are_few, first_within, second_within, joined_fits_over, joined_fits_within, total}
use Rattle.record.proofs.record.Record.joined.Goals as goal

pub returns-then-are_over-clause-fitted : goal.returns-then-are_over-clause-fitted
returns-then-are_over-clause-fitted g c =
    let counts : length c.names.result.now + length c.names-2.result.now ≡ length c.args.self.now.names + length c.args.other.now.names =
    ap₂ (λ (m n : ℕ). m + n) (ap length c.names.ensures.names) (ap length c.names-2.ensures.names) in
    let sizes : c.size.result + c.size-2.result ≡ total c.args.self.now + total c.args.other.now = ap₂ (λ (m n : ℕ). m + n) c.size.ensures.sum c.size-2.ensures.sum in
    let more = subst₂ (λ (m n : ℕ). AreMore c.args.limits.now m n) counts sizes (c.are_over.ensures.0 c.if-are_over.true) in
    IfOk-weaker c.joined_over.result (AreJoined c.args.self.now c.args.other.now c.args.parent c.args.child) (IsFitted (64 * g.row.W) c.args.limits.now)
    (λ r joined. joined_fits_over (64 * g.row.W) c.args.limits.now c.args.self.now c.args.other.now r c.args.parent c.args.child
    c.requires.may_join.one_fits.connected c.requires.may_join.other_fits.connected more joined) c.joined_over.ensures

pub unreachable-requires : goal.unreachable-requires
unreachable-requires g c =
    let counts : length c.names.result.now + length c.names-2.result.now ≡ length c.args.self.now.names + length c.args.other.now.names =
    ap₂ (λ (m n : ℕ). m + n) (ap length c.names.ensures.names) (ap length c.names-2.ensures.names) in
    let sizes : c.size.result + c.size-2.result ≡ total c.args.self.now + total c.args.other.now = ap₂ (λ (m n : ℕ). m + n) c.size.ensures.sum c.size-2.ensures.sum in
    let none : AreMore c.args.limits.now (length c.args.self.now.names + length c.args.other.now.names) (total c.args.self.now + total c.args.other.now) → ⊥ =
    λ more. true≢false (sym (c.are_over.ensures.1 (subst₂ (λ (m n : ℕ). AreMore c.args.limits.now m n) (sym counts) (sym sizes) more)) ∙ c.if-are_over.false) in
    has_parts (64 * g.row.W) c.args.self.now
    (first_within c.args.limits.now c.args.self.now c.args.other.now none (64 * g.row.W) c.requires.may_join.one_fits) c.in_default.ensures

pub unreachable-requires-in_default-component : goal.unreachable-requires-in_default-component
unreachable-requires-in_default-component g c =
    let counts : length c.names.result.now + length c.names-2.result.now ≡ length c.args.self.now.names + length c.args.other.now.names =
    ap₂ (λ (m n : ℕ). m + n) (ap length c.names.ensures.names) (ap length c.names-2.ensures.names) in
    let sizes : c.size.result + c.size-2.result ≡ total c.args.self.now + total c.args.other.now = ap₂ (λ (m n : ℕ). m + n) c.size.ensures.sum c.size-2.ensures.sum in
    let none : AreMore c.args.limits.now (length c.args.self.now.names + length c.args.other.now.names) (total c.args.self.now + total c.args.other.now) → ⊥ =
    λ more. true≢false (sym (c.are_over.ensures.1 (subst₂ (λ (m n : ℕ). AreMore c.args.limits.now m n) (sym counts) (sym sizes) more)) ∙ c.if-are_over.false) in
    has_parts (64 * g.row.W) c.args.other.now
    (second_within c.args.limits.now c.args.self.now c.args.other.now none (64 * g.row.W) c.requires.may_join.other_fits) c.in_default-component.ensures

pub joined-requires : goal.joined-requires
joined-requires g c =
    let counts : length c.names.result.now + length c.names-2.result.now ≡ length c.args.self.now.names + length c.args.other.now.names =
    ap₂ (λ (m n : ℕ). m + n) (ap length c.names.ensures.names) (ap length c.names-2.ensures.names) in
    let sizes : c.size.result + c.size-2.result ≡ total c.args.self.now + total c.args.other.now = ap₂ (λ (m n : ℕ). m + n) c.size.ensures.sum c.size-2.ensures.sum in
    let none : AreMore c.args.limits.now (length c.args.self.now.names + length c.args.other.now.names) (total c.args.self.now + total c.args.other.now) → ⊥ =
    λ more. true≢false (sym (c.are_over.ensures.1 (subst₂ (λ (m n : ℕ). AreMore c.args.limits.now m n) (sym counts) (sym sizes) more)) ∙ c.if-are_over.false) in
    let first : c.in-Some.one.now ≡ c.args.self.now = c.in-Some.ensures.0 in
    let second : c.in-Some-component.two.now ≡ c.args.other.now = c.in-Some-component.ensures.0 in
    let like = like_same c.in-Some.one.now c.args.self.now first in
    let other_like = like_same c.in-Some-component.two.now c.args.other.now second in (
      lit< tt,
      (
        lit< tt,
        (
          subst₂ (λ (x y : Cluster). length x.names + length y.names ≤ 64 * g.row.W) (sym first) (sym second)
              (are_few c.args.limits.now (64 * g.row.W) (length c.args.self.now.names + length c.args.other.now.names)
              (total c.args.self.now + total c.args.other.now) c.requires.may_join.few none),
          (
            like_apart c.in-Some.one.now c.args.self.now c.in-Some-component.two.now c.args.other.now like other_like c.requires.may_join.apart,
            like_across c.in-Some.one.now c.args.self.now c.in-Some-component.two.now c.args.other.now like other_like c.args.parent c.args.child
                c.requires.may_join.across,
          ),
        ),
      ),
    )

pub returns-clause-fitted : goal.returns-clause-fitted
returns-clause-fitted g c =
    let counts : length c.names.result.now + length c.names-2.result.now ≡ length c.args.self.now.names + length c.args.other.now.names =
    ap₂ (λ (m n : ℕ). m + n) (ap length c.names.ensures.names) (ap length c.names-2.ensures.names) in
    let sizes : c.size.result + c.size-2.result ≡ total c.args.self.now + total c.args.other.now = ap₂ (λ (m n : ℕ). m + n) c.size.ensures.sum c.size-2.ensures.sum in
    let none : AreMore c.args.limits.now (length c.args.self.now.names + length c.args.other.now.names) (total c.args.self.now + total c.args.other.now) → ⊥ =
    λ more. true≢false (sym (c.are_over.ensures.1 (subst₂ (λ (m n : ℕ). AreMore c.args.limits.now m n) (sym counts) (sym sizes) more)) ∙ c.if-are_over.false) in
    let first : c.in-Some.one.now ≡ c.args.self.now = c.in-Some.ensures.0 in
    let second : c.in-Some-component.two.now ≡ c.args.other.now = c.in-Some-component.ensures.0 in
    subst (λ (r : Cluster). IsFitted (64 * g.row.W) c.args.limits.now r) (sym c.within.ensures)
    (joined_fits_within (64 * g.row.W) c.args.limits.now c.args.self.now c.args.other.now c.in_ok-joined.joined c.args.parent c.args.child
    c.requires.may_join.one_fits.connected c.requires.may_join.other_fits.connected none
    (c.in_ok-joined.ensures.names ∙ ap₂ (λ (x y : Cluster). x.names ++ y.names) first second)
    (subst₂ (λ (x y : Cluster). Joins x.graph y.graph c.args.parent c.args.child c.in_ok-joined.joined.graph) first second c.in_ok-joined.ensures.graph)
    c.in_ok-joined.ensures.whole)
