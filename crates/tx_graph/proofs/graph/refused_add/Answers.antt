use Rattle.std.proofs.Common.{ℕ, arith, ◌≤◌, ◌<◌, sym, ◌∙◌, subst, inl, inr, refl, true≢false, None, Some}
use Rattle.std.proofs.lemmas.Int.{to_z-of_z}
use Rattle.std.specs.Int.{w64}
use Rattle.fee_rate.specs.Limits.{IsFee}
use Rattle.graph_model.specs.declared.names.Limits.{Limits}
use Rattle.graph_model.specs.declared.names.Refusal.TheVariants.{Full}
use Rattle.tx_graph.proofs.Calls.{last_row}
use Rattle.tx_graph.proofs.Counting.{one_count}
use Rattle.tx_graph.proofs.graph.refused_add.Goals as goal

pub returns-then-is_live : goal.returns-then-is_live
returns-then-is_live g c =
    let pays = subst IsFee (to_z-of_z w64 c.args.fee c.ranges.fee) (c.is_fee.ensures.0 c.if-not-is_fee.false) in
    record {
      row = λ live counts.
          inr (λ out. out pays, inr (λ out. out (c.is_size.ensures.0 c.if-not-is_size.false), inl (c.is_live.ensures.0 c.if-is_live.true, refl)));
    }

pub returns-then-size-limits : goal.returns-then-size-limits
returns-then-size-limits g c =
    let pays = subst IsFee (to_z-of_z w64 c.args.fee c.ranges.fee) (c.is_fee.ensures.0 c.if-not-is_fee.false) in
    record {
      row = λ live counts.
          inr (
            λ out. out pays,
            inr (
              λ out. out (c.is_size.ensures.0 c.if-not-is_size.false),
              inr (
                λ here. true≢false (sym (c.is_live.ensures.1 here) ∙ c.if-is_live.false),
                inl (subst (λ (l : Limits). l.size < c.args.size) c.limits-limits.ensures.limits c.if-size-limits.true, refl),
              ),
            ),
          );
    }

pub returns-then-live-limits : goal.returns-then-live-limits
returns-then-live-limits g c =
    let pays = subst IsFee (to_z-of_z w64 c.args.fee c.ranges.fee) (c.is_fee.ensures.0 c.if-not-is_fee.false) in
    let set = c.limits-limits.ensures.limits in
    let full = subst (λ (l : Limits). l.total ≤ c.live.result) set c.if-live-limits.true in
    let fits = subst (λ (l : Limits). c.args.size ≤ l.size) set c.if-size-limits.false in
    record {
      row = λ live counts.
          last_row c.args.levels.now live c.args.id c.args.fee c.args.size (Some Full) pays
          (c.is_size.ensures.0 c.if-not-is_size.false) (λ here. true≢false (sym (c.is_live.ensures.1 here) ∙ c.if-is_live.false)) fits
          (inl (subst (λ n. c.args.levels.now.limits.total ≤ n) (one_count c.args.levels.now c.live.result live c.live.ensures.count counts) full, refl));
    }

pub returns : goal.returns
returns g c =
    let pays = subst IsFee (to_z-of_z w64 c.args.fee c.ranges.fee) (c.is_fee.ensures.0 c.if-not-is_fee.false) in
    let set = c.limits-limits.ensures.limits in
    let room = subst (λ (l : Limits). c.live.result < l.total) set c.if-live-limits.false in
    let fits = subst (λ (l : Limits). c.args.size ≤ l.size) set c.if-size-limits.false in
    record {
      row = λ live counts.
          let left = subst (λ n. n < c.args.levels.now.limits.total) (one_count c.args.levels.now c.live.result live c.live.ensures.count counts) room in
          last_row c.args.levels.now live c.args.id c.args.fee c.args.size None pays
          (c.is_size.ensures.0 c.if-not-is_size.false) (λ here. true≢false (sym (c.is_live.ensures.1 here) ∙ c.if-is_live.false)) fits
          (inr (no_room c.args.levels.now.limits.total live left, refl));
    }
  where
    no_room : (total live : ℕ) → live < total → total ≤ live → ⊥
    no_room total live left full = omega (arith, full, left)

pub is_live-requires : goal.is_live-requires
is_live-requires g c = assumption

pub limits-limits-requires : goal.limits-limits-requires
limits-limits-requires g c = assumption

pub live-requires : goal.live-requires
live-requires g c = assumption

pub returns-then-not-is_fee : goal.returns-then-not-is_fee
returns-then-not-is_fee g c =
    record {
      row = λ live counts.
          inl (
            λ fine. true≢false (sym (c.is_fee.ensures.1 (subst IsFee (sym (to_z-of_z w64 c.args.fee c.ranges.fee)) fine)) ∙ c.if-not-is_fee.true),
            refl,
          );
    }

pub returns-then-not-is_size : goal.returns-then-not-is_size
returns-then-not-is_size g c =
    let pays = subst IsFee (to_z-of_z w64 c.args.fee c.ranges.fee) (c.is_fee.ensures.0 c.if-not-is_fee.false) in
    record {
      row = λ live counts. inr (λ out. out pays, inl (λ fine. true≢false (sym (c.is_size.ensures.1 fine) ∙ c.if-not-is_size.true), refl));
    }
