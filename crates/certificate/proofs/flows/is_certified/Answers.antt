use Rattle.std.proofs.Common.{◌≡◌, ◌<◌, arith, sym, subst, ◌∙◌, length, nat_eq}
use Rattle.std.specs.HashMap as hash
use Rattle.graphs.specs.Certificates.{Certifies, rate_in}
use Rattle.certificate.specs.Accounts.{AreBalanced, IsEdge}
use Rattle.certificate.proofs.Bookings.{member_place}
use Rattle.certificate.proofs.FlowLemmas.{names_apart, certifies, inside_part, balanced_part}
use Rattle.certificate.proofs.GraphLemmas.{same_answer}
use Rattle.certificate.proofs.flows.is_certified.Goals as goal

pub open-requires-clause-known : goal.open-requires-clause-known
open-requires-clause-known c id here =
    let (p, p_in, is) = member_place _ _ id c.requires.places (c.requires.members id here) in
    (p, subst (λ n. p < n) c.requires.room p_in, is)

pub flows_inside-requires : goal.flows_inside-requires
flows_inside-requires c id place is =
    let p_in = (c.requires.places.sound id place is).0 in
    let room : length c.open.new.accounts ≡ length c.args.accounts.now = omega arith in
    subst (λ n. place < n) (c.requires.room ∙ sym room) p_in

pub returns-then-not-flows_inside-clause-certified : goal.returns-then-not-flows_inside-clause-certified
returns-then-not-flows_inside-clause-certified c h = c.if-not-flows_inside.ensures
    (inside_part _ _ _ c.args.ids.now c.args.flows.now c.args.part c.open.new.accounts c.open.ensures.opened h)

pub book-requires-clause-inside : goal.book-requires-clause-inside
book-requires-clause-inside c flow here = let i = c.if-not-flows_inside.ensures flow here in (i.1, i.2)

pub book-requires-clause-apart : goal.book-requires-clause-apart
book-requires-clause-apart c = names_apart _ _ c.requires.places

pub returns-clause-certified : goal.returns-clause-certified
returns-clause-certified c =
    let balance = AreBalanced (hash.get nat_eq c.args.tables.now.names) (rate_in c.args.txs.now) c.args.rate c.args.ids.now c.book.new.accounts in
    same_answer c.is_balanced.result balance balance
    (Certifies (rate_in c.args.txs.now) (IsEdge c.args.tables.now) c.args.ids.now c.args.flows.now)
    (λ balanced. certifies _ _ _ _ c.args.rate c.args.ids.now c.args.flows.now c.args.part c.open.new.accounts c.book.new.accounts c.requires.places
    c.open.ensures.opened c.if-not-flows_once.ensures c.if-not-flows_inside.ensures c.requires.some c.book.ensures.parts
    c.book.ensures.net balanced c.requires.summed)
    (balanced_part _ _ _ c.args.rate c.args.ids.now c.args.flows.now c.args.part c.open.new.accounts c.book.new.accounts
    c.open.ensures.opened c.book.ensures.parts c.book.ensures.net c.requires.summed) c.is_balanced.ensures
