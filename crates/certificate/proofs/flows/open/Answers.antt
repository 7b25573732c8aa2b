use Rattle.std.proofs.Common.{rules, arith, ◌<◌, length, sym, subst, nat_eq}
use Rattle.std.specs.HashMap as hash
use Rattle.std.proofs.lemmas.List.{take_all}
use Rattle.std.proofs.lemmas.List.Elements.{Contains-get_or}
use Rattle.certificate.specs.Accounts.{AreOpen}
use Rattle.certificate.proofs.Bookings.{open_none, open_more, empty_more, known_place}
use Rattle.certificate.proofs.flows.open.Goals as goal

pub place_of-place-requires : goal.place_of-place-requires
place_of-place-requires c =
    let k = c.requires.known _ (Contains-get_or c.args.ids.now c.loop-id.id-index 0 c.loop-id-test.true) in
    (k.0, k.2)

pub offset_bounds-accounts-place : goal.offset_bounds-accounts-place
offset_bounds-accounts-place c =
    let in' : c.place_of-place.result < length c.loop-id.accounts = subst (λ n. c.place_of-place.result < n) (sym c.loop-id.auto.accounts)
    (known_place _ c.args.ids.now _ c.loop-id.id-index _ c.loop-id-test.true c.requires.known c.place_of-place.ensures) in
    search rules

pub bounds-accounts-place : goal.bounds-accounts-place
bounds-accounts-place c = subst (λ n. c.place_of-place.result < n) (sym c.loop-id.auto.accounts)
    (known_place _ c.args.ids.now _ c.loop-id.id-index _ c.loop-id-test.true c.requires.known c.place_of-place.ensures)

pub loop-id-init : goal.loop-id-init
loop-id-init c = (open_none _ _ _ c.requires.later, λ x e. let l = c.requires.later x in absurd (omega arith))

pub loop-id-preserved : goal.loop-id-preserved
loop-id-preserved c =
    let in' = subst (λ n. c.place_of-place.result < n) (sym c.loop-id.auto.accounts)
    (known_place _ c.args.ids.now _ c.loop-id.id-index _ c.loop-id-test.true c.requires.known c.place_of-place.ensures) in (
      open_more _ c.args.ids.now c.args.part c.loop-id.accounts c.loop-id.id-index
          c.place_of-place.result c.loop-id-test.true c.loop-id.invariant.0 c.place_of-place.ensures in',
      empty_more c.args.part c.place_of-place.result c.loop-id.accounts in' c.loop-id.invariant.1,
    )

pub returns-clause-opened : goal.returns-clause-opened
returns-clause-opened c =
    let all = take_all c.loop-id.id-index c.args.ids.now (omega arith) in
    subst (λ l. AreOpen (hash.get nat_eq c.args.names.now) l c.args.part c.loop-id.accounts) all c.loop-id.invariant.0
