use Rattle.std.proofs.Common.{◌≡◌, ◌≤◌, ◌+◌, ◌*◌, ◌∷◌, [], ◌++◌, ◌∙◌, ℕ, ap, arith, length, lit<, List, length-append}
use Rattle.bitset.specs.Places.{places}
use Rattle.closure_flow.specs.Scratches.{flow_of}
use Rattle.graphs.specs.declared.names.Flow.{Flow}
use Rattle.graphs.specs.Certificates.{Part}
use Rattle.linearize.specs.Graphs.{sum_from}
use Rattle.linearize.specs.Drafts.{Written, all_flows, flows_in}
use Rattle.linearize.specs.Orders.{flows_of}
use Rattle.linearize.proofs.Parts.{few_flows, one_added}
use Rattle.linearize.proofs.Sizes.{words_fit, scratch_fits}
use Rattle.linearize.proofs.part.emit.Goals as goal

pub send_all-requires : goal.send_all-requires
send_all-requires g c =
    let n : ℕ = 64 * g.row.W in
    let list : List Flow = flows_of n c.args.parents.now c.args.within.now (flow_of c.args.scratch.now) (places n c.args.within.now) in
    let few = few_flows n c.args.dep.now c.args.parents.now c.args.within.now (flow_of c.args.scratch.now)
    c.requires.closed c.requires.members c.requires.covers in
    let all = length-append (flows_in c.put_places.new.draft.parts) c.put_places.new.draft.flows in
    let parts = ap (λ ps. length (flows_in ps)) c.put_places.ensures.parts in
    let none : length c.put_places.new.draft.flows ≡ 0 = ap length (c.put_places.ensures.flows ∙ c.requires.room.flows) in
    let room : 4 * (length (all_flows c.put_places.new.draft) + length list) ≤ n * n =
    (let r = c.requires.room.for_flows in omega (arith, few, all, parts, none, r)) in (
      scratch_fits g.row.W c.requires.narrow,
      (words_fit g.row.W c.requires.narrow, (lit< tt, (c.requires.narrow, (c.requires.covers.there, room)))),
    )

pub returns-clause-adds : goal.returns-clause-adds
returns-clause-adds g c =
    let n : ℕ = 64 * g.row.W in
    let list : List Flow = flows_of n c.args.parents.now c.args.within.now (flow_of c.args.scratch.now) (places n c.args.within.now) in
    let ids : List ℕ = c.put_places.new.draft.ids in
    one_added n c.args.dep.now c.args.parents.now c.args.within.now (flow_of c.args.scratch.now)
    c.requires.closed c.requires.members c.requires.covers ids c.requires.balanced c.put_places.ensures.order
    c.args.draft.now c.close.new.self (sum_from c.args.whole) c.requires.some c.put_places.ensures.count c.requires.uncut c.requires.whole
    (c.close.ensures
    ∙ ap (λ (w : Written). record {
      parts = w.parts ++ record { rate = sum_from c.args.whole; ids = w.ids; flows = w.flows } ∷ [];
      ids = [];
      flows =
          [];
    }) c.send_all.ensures
    ∙ ap (λ (ps : List Part). record {
      parts =
          ps ++ record { rate = sum_from c.args.whole; ids = ids; flows = c.put_places.new.draft.flows ++ list } ∷ [];
      ids = [];
      flows = [];
    })
    c.put_places.ensures.parts
    ∙ ap (λ (fs : List Flow). record {
      parts =
          c.args.draft.now.parts ++ record { rate = sum_from c.args.whole; ids = ids; flows = fs ++ list } ∷ [];
      ids = [];
      flows = [];
    })
    (c.put_places.ensures.flows ∙ c.requires.room.flows))

pub returns-clause-one : goal.returns-clause-one
returns-clause-one g c =
    let own : Part = record { rate = sum_from c.args.whole; ids = c.send_all.new.draft.ids; flows = c.send_all.new.draft.flows } in
    record {
      part = own;
      is = ap (λ (w : Written). w.parts) c.close.ensures ∙ ap (λ (w : Written). w.parts ++ own ∷ []) c.send_all.ensures
          ∙ ap (λ (ps : List Part). ps ++ own ∷ []) c.put_places.ensures.parts;
      places = ap (λ (w : Written). length w.ids) c.send_all.ensures ∙ c.put_places.ensures.count;
    }
