use Rattle.std.proofs.Common.{◌≡◌, ℕ, ◌*◌, ◌∷◌, [], ◌++◌, ◌∙◌, ap, arith, length, List}
use Rattle.std.specs.Ordering.{nat_cmp}
use Rattle.std.specs.FinSet as fin
use Rattle.fee_rate.specs.declared.rates.FeeRate.{FeeRate}
use Rattle.graphs.specs.declared.names.Flow.{Flow}
use Rattle.graphs.specs.Certificates.{Part}
use Rattle.linearize.specs.Graphs.{sum_at, sum_from}
use Rattle.linearize.specs.Drafts.{Written}
use Rattle.linearize.proofs.Alone.{alone_added}
use Rattle.linearize.proofs.split.alone.Goals as goal

pub returns-in-Some-clause-adds : goal.returns-in-Some-clause-adds
returns-in-Some-clause-adds g c =
    let p : ℕ = c.in-Some.place in
    let old : Written = c.args.draft.now in
    let r = c.requires.room in
    let made : c.close.new.self ≡ record {
      parts = old.parts ++ record { rate = sum_at c.args.dep.now p; ids = p ∷ []; flows = [] } ∷ [];
      ids = [];
      flows = [];
    } =
    c.close.ensures
    ∙ ap (λ (w : Written). record {
      parts = w.parts ++ record { rate = sum_from c.rate.result; ids = w.ids; flows = w.flows } ∷ [];
      ids = [];
      flows = [];
    }) c.put.ensures
    ∙ ap (λ (xs : List ℕ). record {
      parts = old.parts ++ record { rate = sum_from c.rate.result; ids = xs ++ p ∷ []; flows = old.flows } ∷ [];
      ids = [];
      flows = [];
    }) r.ids
    ∙ ap (λ (fs : List Flow). record {
      parts = old.parts ++ record { rate = sum_from c.rate.result; ids = p ∷ []; flows = fs } ∷ [];
      ids = [];
      flows = [];
    }) r.flows
    ∙ ap (λ (own : FeeRate). record {
      parts = old.parts ++ record { rate = sum_from own; ids = p ∷ []; flows = [] } ∷ [];
      ids = [];
      flows = [];
    }) c.rate.ensures in
    alone_added (64 * g.row.W) c.args.dep.now c.args.within.now p c.requires.closed c.requires.members c.in-Some.ensures.least.member c.requires.one
    c.requires.covers.0 c.requires.covers.1 old c.close.new.self made

pub returns-in_default-clause-adds : goal.returns-in_default-clause-adds
returns-in_default-clause-adds g c =
    absurd (omega (arith, c.requires.one, ap (λ s. fin.len s) c.in_default.ensures.least, fin.len-empty nat_cmp))

pub returns-in-Some-clause-one : goal.returns-in-Some-clause-one
returns-in-Some-clause-one g c =
    let p : ℕ = c.in-Some.place in
    let own : Part = record { rate = sum_from c.rate.result; ids = c.put.new.self.ids; flows = c.put.new.self.flows } in
    record {
      part = own;
      is = ap (λ (w : Written). w.parts) c.close.ensures ∙ ap (λ (w : Written). w.parts ++ own ∷ []) c.put.ensures;
      places = ap (λ (w : Written). length w.ids) c.put.ensures ∙ ap (λ (xs : List ℕ). length (xs ++ p ∷ [])) c.requires.room.ids;
    }

pub returns-in_default-clause-one : goal.returns-in_default-clause-one
returns-in_default-clause-one g c =
    absurd (omega (arith, c.requires.one, ap (λ s. fin.len s) c.in_default.ensures.least, fin.len-empty nat_cmp))
