-- The fourth test, put together.
use Rattle.std.proofs.Common.{◌≡◌, ℕ, ◌<◌, ◌≤◌, List, [], length, sym, ap, ◌∙◌, subst, get_or, Option, Some}
use Rattle.std.specs.Prelude.{Contains}
use Rattle.std.proofs.lemmas.Option.{same_Some}
use Rattle.lists.specs.Distinct.{AreDistinct}
use Rattle.fee_rate.specs.declared.rates.Sum.{Sum}
use Rattle.graphs.specs.declared.names.Flow.{Flow}
use Rattle.graphs.specs.Rates.{sums}
use Rattle.graphs.specs.Certificates.{Certifies, HasFlows, given, gotten, weight_in}
use Rattle.graphs.specs.Certificates as model
use Rattle.certificate.specs.declared.flows.Account.{Account}
use Rattle.certificate.specs.declared.owned.Part.{Part}
use Rattle.certificate.specs.Accounts.{account_at, IsOpen, AreOpen, AreNet, KeepParts, AreInside, AreBalanced, ends_of}
use Rattle.certificate.specs.Parts.{part_of, parts_of, ids_at, flows_at}
use Rattle.places.specs.Places.{ArePlaces}
use Rattle.certificate.proofs.PartLemmas.{ids_here, part_at, contains_part, some_part}
use Rattle.std.proofs.lemmas.List.{get_or-map}

-- two names at one place are one
pub names_apart : (names : List ℕ) (find : ℕ → Option ℕ) → ArePlaces names find → (a b p : ℕ) → find a ≡ Some p → find b ≡ Some p → a ≡ b
names_apart names find h a b p e f = sym (h.sound a p e).1 ∙ (h.sound b p f).1

-- an open account is of one of the names
open_member : (names : List ℕ) (find : ℕ → Option ℕ) (ids : List ℕ) (part : ℕ) (accounts : List Account) (id : ℕ)
    → ArePlaces names find → AreOpen find ids part accounts → IsOpen find accounts part id → Contains ids id
open_member names find ids part accounts id h o (p, is, in', of) =
    let (other, there, other_is) = o.only p of in
    subst (λ x. Contains ids x) (names_apart names find h other id p other_is is) there

-- the account of a name is of the part, also after flows are booked
member_part : (find : ℕ → Option ℕ) (ids : List ℕ) (part : ℕ) (accounts booked : List Account) (id p : ℕ)
    → AreOpen find ids part accounts → KeepParts accounts booked → Contains ids id → find id ≡ Some p → (account_at booked p).part ≡ part
member_part find ids part accounts booked id p o k there is =
    let (q, q_is, q_in, of) = o.here id there in
    let same : q ≡ p = same_Some q p (sym q_is ∙ is) in
    k p ∙ subst (λ x. (account_at accounts x).part ≡ part) same of

pub certifies : (names : List ℕ) (find : ℕ → Option ℕ) (rate : ℕ → Sum) (IsLink : ℕ → ℕ → Type 0)
    (whole : Sum) (ids : List ℕ) (flows : List Flow) (part : ℕ) (accounts booked : List Account)
    → ArePlaces names find → AreOpen find ids part accounts
    → AreDistinct (ends_of flows) → AreInside find IsLink accounts part flows → ((flow : Flow) → Contains flows flow → 1 ≤ flow.amount)
    → KeepParts accounts booked → AreNet find part flows booked → AreBalanced find rate whole ids booked
    → whole ≡ sums rate ids → Certifies rate IsLink ids flows
certifies names find rate IsLink whole ids flows part accounts booked h o once inside some keep net balanced is = record {
  once = once;
  links = λ flow here. (inside flow here).0;
  inside = λ flow here. let i = inside flow here in
      (open_member names find ids part accounts flow.child h o i.1, open_member names find ids part accounts flow.parent h o i.2);
  some = some;
  balanced =
      λ id there.
      let (p, p_is, p_in, of) = o.here id there in
      let b = balanced id p there p_is in
      let n = net id p p_is (member_part find ids part accounts booked id p o keep there p_is) in
      ap (λ (s : Sum). weight_in s (rate id)) (sym is) ∙ b ∙ n;
}

pub inside_part : (find : ℕ → Option ℕ) (rate : ℕ → Sum) (IsLink : ℕ → ℕ → Type 0) (ids : List ℕ) (flows : List Flow) (part : ℕ) (accounts : List Account)
    → AreOpen find ids part accounts → Certifies rate IsLink ids flows
    → AreInside find IsLink accounts part flows
inside_part find rate IsLink ids flows part accounts o c flow here =
    let i = c.inside flow here in
    (c.links flow here, o.here flow.child i.0, o.here flow.parent i.1)

pub balanced_part : (find : ℕ → Option ℕ) (rate : ℕ → Sum) (IsLink : ℕ → ℕ → Type 0)
    (whole : Sum) (ids : List ℕ) (flows : List Flow) (part : ℕ) (accounts booked : List Account)
    → AreOpen find ids part accounts → KeepParts accounts booked
    → AreNet find part flows booked → whole ≡ sums rate ids → Certifies rate IsLink ids flows → AreBalanced find rate whole ids booked
balanced_part find rate IsLink whole ids flows part accounts booked o keep net is c id p there p_is =
    ap (λ (s : Sum). weight_in s (rate id)) is ∙ c.balanced id there ∙ sym (net id p p_is (member_part find ids part accounts booked id p o keep there p_is))

-- ---- all parts
pub flows_here : (parts : List Part) (k : ℕ) (part : Part) → k < length parts → part ≡ get_or parts k part → part.flows ≡ flows_at parts k
flows_here parts k part in' is = ap (λ (p : Part). p.flows) is ∙ sym (get_or-map (λ (p : Part). p.flows) parts k part [] in')

abbrev pub IsCertified : (ℕ → Sum) → (ℕ → ℕ → Type 0) → List Part → ℕ → Type 0
IsCertified rate IsLink parts k = Certifies rate IsLink (ids_at parts k) (flows_at parts k)

pub all_certified : (rate : ℕ → Sum) (IsLink : ℕ → ℕ → Type 0) (parts : List Part)
    → ((k : ℕ) → k < length parts → IsCertified rate IsLink parts k) → HasFlows rate IsLink (parts_of parts)
all_certified rate IsLink parts all part here =
    let at = part_at parts part here in
    let ids : part.ids ≡ ids_at parts at.k = ap (λ (x : model.Part). x.ids) at.is ∙ ids_here parts at.k at.it at.within at.here in
    let flows : part.flows ≡ flows_at parts at.k = ap (λ (x : model.Part). x.flows) at.is ∙ flows_here parts at.k at.it at.within at.here in
    subst (λ l. Certifies rate IsLink l part.flows) (sym ids) (subst (λ f. Certifies rate IsLink (ids_at parts at.k) f) (sym flows) (all at.k at.within))

pub certified_part : (rate : ℕ → Sum) (IsLink : ℕ → ℕ → Type 0) (parts : List Part) (k : ℕ)
    → k < length parts → HasFlows rate IsLink (parts_of parts) → IsCertified rate IsLink parts k
certified_part rate IsLink parts k in' h =
    let (it, is) = some_part parts k in' in
    let ids = ids_here parts k it in' is in
    let flows = flows_here parts k it in' is in
    subst (λ l. Certifies rate IsLink l (flows_at parts k)) ids
    (subst (λ f. Certifies rate IsLink it.ids f) flows (h (part_of it) (contains_part parts k it in' is)))
