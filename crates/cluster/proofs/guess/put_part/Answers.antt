use Rattle.std.proofs.Common.{◌∷◌, [], ◌++◌, List, Contains, inl, inr, refl, subst, arith}
use Rattle.std.proofs.lemmas.Bool.{cases_Bool}
use Rattle.std.proofs.lemmas.List.Elements.{Contains-append_left}
use Rattle.graphs.specs.Certificates.{Part}
use Rattle.linearize.specs.Graphs.{sum_from}
use Rattle.linearize.specs.declared.old.OldPart.{OldPart}
use Rattle.cluster.proofs.Images.{part_put}
use Rattle.cluster.proofs.guess.put_part.Goals as goal

pub returns : goal.returns
returns c =
    let own : Part = record { rate = sum_from c.args.part.rate; ids = c.args.part.ids.now; flows = c.args.part.flows.now } in
    let old : OldPart = record {
      rate = c.args.part.rate;
      start = c.len-start.result;
      end = c.len.result;
      flow_start = c.len-flow_start.result;
      flow_end = c.len-2.result;
      known = c.put_flows_if-sure.result;
    } in
    let pushed : (o : OldPart) → Contains c.push_part-pushed.new.parts.items o → Contains (c.args.guess.now.parts.items ++ old ∷ []) o = λ o here.
    elim (cases_Bool c.push_part-pushed.result) as (λ _. Contains (c.args.guess.now.parts.items ++ old ∷ []) o) [
      | inl put ↦ subst (λ (ps : List OldPart). Contains ps o) (c.push_part-pushed.ensures.put put) here
      | inr none ↦ Contains-append_left c.args.guess.now.parts.items (old ∷ []) o
          (subst (λ (ps : List OldPart). Contains ps o) (c.push_part-pushed.ensures.none none) here)
    ] in
    part_put c.args.names.now c.args.part.ids.now c.args.part.flows.now own c.args.known c.put_places-whole.result c.put_flows_if-sure.result
    c.args.guess.now.places.items c.put_places-whole.new.places.items c.args.guess.now.flows.items c.put_flows_if-sure.new.out.items
    c.args.guess.now.parts.items c.push_part-pushed.new.parts.items old refl c.put_places-whole.ensures c.put_flows_if-sure.ensures.puts
    c.put_flows_if-sure.ensures.asked (omega (arith, c.len-start.ensures)) (omega (arith, c.len.ensures)) (omega (arith, c.len-flow_start.ensures))
    (omega (arith, c.len-2.ensures)) refl pushed
