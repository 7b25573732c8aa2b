use Rattle.std.proofs.Common.{rules, arith, ◌≡◌, ◌<◌, length, sym, subst, ap, ◌∙◌, inl, inr, slice_index, nat_eq, SFits, to_z, of_z}
use Rattle.std.specs.Int.{w128}
use Rattle.std.proofs.lemmas.Int.{to_z-of_z}
use Rattle.std.specs.HashMap as hash
use Rattle.std.proofs.lemmas.Bool.{cases_eq}
use Rattle.std.proofs.lemmas.List.{get_or_default}
use Rattle.std.proofs.lemmas.List.Elements.{Contains-get_or}
use Rattle.std.proofs.lemmas.Option.{same_Some}
use Rattle.graphs.specs.Certificates.{rate_in, weight_in}
use Rattle.certificate.specs.Accounts.{account_at}
use Rattle.certificate.proofs.Bookings.{weight_of_name, member_place}
use Rattle.certificate.proofs.flows.is_balanced.Goals as goal

pub place_of-place-requires : goal.place_of-place-requires
place_of-place-requires c =
    let m = member_place _ _ _ c.requires.places (c.requires.members _ (Contains-get_or c.args.ids.now c.loop-id.id-index 0 c.loop-id-test.true)) in
    (m.0, m.2)

pub offset_bounds-accounts-place : goal.offset_bounds-accounts-place
offset_bounds-accounts-place c =
    let in' : c.place_of-place.result < length c.args.accounts.now =
    subst (λ n. c.place_of-place.result < n) c.requires.room (c.requires.places.sound _ _ c.place_of-place.ensures).0 in
    search rules

pub bounds-accounts-place : goal.bounds-accounts-place
bounds-accounts-place c = subst (λ n. c.place_of-place.result < n) c.requires.room (c.requires.places.sound _ _ c.place_of-place.ensures).0

pub returns-then-weight-accounts : goal.returns-then-weight-accounts
returns-then-weight-accounts c =
    let w = weight_of_name c.args.rate _ (rate_in c.args.txs.now (slice_index c.args.ids.now c.loop-id.id-index))
    c.weight.result c.weight.ensures c.rate_of-own.ensures.fee c.rate_of-own.ensures.size in
    let here = Contains-get_or c.args.ids.now c.loop-id.id-index 0 c.loop-id-test.true in
    let t = c.if-weight-accounts.true in
    let fine : SFits w128 c.weight.result = search rules in
    let good : SFits w128 (account_at c.args.accounts.now c.place_of-place.result).net = search rules in
    λ all. t (ap (of_z w128) (w ∙ all _ c.place_of-place.result here c.place_of-place.ensures))

pub loop-id-preserved : goal.loop-id-preserved
loop-id-preserved c k place less is =
    let w = weight_of_name c.args.rate _ (rate_in c.args.txs.now (slice_index c.args.ids.now c.loop-id.id-index))
    c.weight.result c.weight.ensures c.rate_of-own.ensures.fee c.rate_of-own.ensures.size in
    let fine : SFits w128 c.weight.result = search rules in
    let good : SFits w128 (account_at c.args.accounts.now c.place_of-place.result).net = search rules in
    let t = sym (to_z-of_z w128 c.weight.result fine) ∙ ap (to_z w128) c.if-weight-accounts.false ∙ to_z-of_z w128 _ good in
    elim (cases_eq k c.loop-id.id-index) [
      | inl same ↦
          (let at : c.place_of-place.result ≡ place =
          same_Some _ _ (sym c.place_of-place.ensures ∙ ap (λ i. hash.get nat_eq c.args.names.now (slice_index c.args.ids.now i)) (sym same) ∙ is) in
          ap (λ i. weight_in c.args.rate (rate_in c.args.txs.now (slice_index c.args.ids.now i))) same
          ∙ sym w ∙ t ∙ ap (λ p. (account_at c.args.accounts.now p).net) at)
      | inr other ↦ c.loop-id.invariant k place (omega arith) is
    ]

pub returns : goal.returns
returns c id place (k, in', at) is =
    let name = get_or_default c.args.ids.now k 0 id in' ∙ at in
    subst (λ x. weight_in c.args.rate (rate_in c.args.txs.now x) ≡ (account_at c.args.accounts.now place).net) name
    (c.loop-id.invariant k place (omega arith) (ap (hash.get nat_eq c.args.names.now) name ∙ is))
