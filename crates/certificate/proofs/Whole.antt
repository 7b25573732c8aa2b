-- The tests together.
use Rattle.std.proofs.Common.{◌≡◌, ◌≢◌, ℕ, ◌<◌, ◌≤◌, zero, suc, List, [], ◌∷◌, length, refl, sym, ap, ◌∙◌, subst, arith, get_or, map, Option, Result, Err}
use Rattle.std.specs.Prelude.{Contains, sum_by}
use Rattle.std.proofs.lemmas.List.Sums.{sum_by-cons}
use Rattle.fee_rate.specs.declared.rates.Sum.{Sum}
use Rattle.graphs.specs.Certificates.{Txs, rate_in, graph_of, HasGraph, HasOrder, HasFalling, HasFlows, IsCertificate, Certifies}
use Rattle.graphs.specs.Certificates as model
use Rattle.graphs.specs.Rates.{HasSizes}
use Rattle.certificate.specs.declared.fault.CheckFault.{CheckFault}
use Rattle.certificate.specs.declared.fault.CheckFault.TheVariants.{Order, Falling, Flow, Graph, Memory}
use Rattle.certificate.specs.Faults.{Says}
use Rattle.places.specs.Places.{ArePlaces}
use Rattle.certificate.specs.Tables.{names_of, AreInLimits}
use Rattle.certificate.proofs.RateLemmas.{within_name}
use Rattle.certificate.specs.declared.owned.Part.{Part}
use Rattle.certificate.specs.Accounts.{ArePayable, amount_of}
use Rattle.certificate.specs.Answers.{AreClaims}
use Rattle.certificate.specs.Parts.{parts_of, ids_at, flows_at}
use Rattle.certificate.proofs.FlowLemmas.{flows_here}
use Rattle.certificate.proofs.PartLemmas.{ids_here, part_at, some_part}

-- a part at a position is one of the parts
part_in : (parts : List Part) (k : ℕ) (it : Part) → k < length parts → it ≡ get_or parts k it → Contains parts it
part_in parts k it in' is = (k, in', sym is)

pub filled_at : (parts : List Part) → AreClaims parts → (k : ℕ) → k < length parts → ids_at parts k ≢ []
filled_at parts c k in' none =
    let (it, is) = some_part parts k in' in
    c.filled it (part_in parts k it in' is) (ids_here parts k it in' is ∙ none)

amount_at : (parts : List Part) (k : ℕ) → k < length parts → amount_of (flows_at parts k) ≤ sum_by (λ (p : Part). amount_of p.flows) parts
amount_at [] k in' = absurd (omega arith)
amount_at (p ∷ parts) zero in' = omega (arith, sum_by-cons (λ (q : Part). amount_of q.flows) p parts)
amount_at (p ∷ parts) (suc k) in' = let more = amount_at parts k (omega arith) in omega (arith, sum_by-cons (λ (q : Part). amount_of q.flows) p parts)

pub payable : (parts : List Part) → AreClaims parts → ArePayable parts
payable parts c = record {
  some =
      λ k flow in' here.
      let (it, is) = some_part parts k in' in
      c.some it flow (part_in parts k it in' is) (subst (λ l. Contains l flow) (sym (flows_here parts k it in' is)) here);
  total = λ k in'. let t = c.total in let a = amount_at parts k in' in omega arith;
}

-- flows over links are flows over whatever these are
pub flows_linked : (rate : ℕ → Sum) (L L' : ℕ → ℕ → Type 0) (parts : List model.Part)
    → ((a b : ℕ) → L a b → L' a b) → HasFlows rate L parts → HasFlows rate L' parts
flows_linked rate L L' parts f h part here =
    let c = h part here in
    record {
      once = c.once;
      links = λ flow there. f flow.parent flow.child (c.links flow there);
      inside = c.inside;
      some = c.some;
      balanced = c.balanced;
    }

pub ids_same : (parts : List Part) → map (λ (p : model.Part). p.ids) (parts_of parts) ≡ map (λ (p : Part). p.ids) parts
ids_same [] = refl
ids_same (p ∷ parts) = ap (λ l. p.ids ∷ l) (ids_same parts)

pub is_certificate : (txs : Txs) (edges : List (ℕ × ℕ)) (parts : List Part) → AreClaims parts
    → HasOrder (graph_of txs edges) (parts_of parts) → HasFalling (rate_in txs) (parts_of parts)
    → HasFlows (rate_in txs) (λ parent child. Contains edges (parent, child)) (parts_of parts)
    → IsCertificate (rate_in txs) (graph_of txs edges) (λ parent child. Contains edges (parent, child)) (parts_of parts)
is_certificate txs edges parts c o f g = record {
  filled =
      λ part here none.
      let at = part_at parts part here in
      c.filled at.it (part_in parts at.k at.it at.within at.here) (sym (ap (λ (p : model.Part). p.ids) at.is) ∙ none);
  order = o;
  falling = f;
  flows = g;
}

pub says_not : (mine fault : CheckFault) (T : Type 0) → fault ≡ mine → (mine ≡ Memory → ⊥) → Says mine T fault → T → ⊥
says_not mine Memory T e n s t = n (sym e)
says_not mine Order T e n s t = s.1 t
says_not mine Falling T e n s t = s.1 t
says_not mine Flow T e n s t = s.1 t
says_not mine Graph T e n s t = s.1 t

err_same : (a b : CheckFault) → ◌≡◌ {A = Result (Unit {0}) CheckFault} (Err a) (Err b) → a ≡ b
err_same a b e = cc

pub same_err : (r : Result (Unit {0}) CheckFault) (a b : CheckFault) → r ≡ Err a → r ≡ Err b → a ≡ b
same_err r a b e f = err_same a b (sym e ∙ f)

pub has_sizes : (txs : Txs) (find : ℕ → Option ℕ) → ArePlaces (names_of txs) find → AreInLimits txs → HasSizes (rate_in txs) (names_of txs)
has_sizes txs find h l id here = (within_name txs find id h l here).some
