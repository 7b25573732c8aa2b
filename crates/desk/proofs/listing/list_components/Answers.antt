use Rattle.std.proofs.Common.{◌∷◌, [], List, ℕ, map, Contains, inl, inr, sym, ap, subst, ◌∙◌}
use Rattle.std.proofs.lemmas.List.{map-append}
use Rattle.std.proofs.lemmas.List.Elements.{Contains-push_cases}
use Rattle.cluster.specs.Clusters.{Cluster}
use Rattle.record.specs.Records.{IsConnected}
use Rattle.desk.specs.Copies.{AddsGroup, AreGrouped}
use Rattle.desk.proofs.Lists.{gave_all, grouped_push, names_of, now, rest_on}
use Rattle.desk.proofs.listing.list_components.Goals as goal

pub loop-record-preserved : goal.loop-record-preserved
loop-record-preserved c =
    let given = c.loop-record.yielded in
    let one = c.in-Some.record in
    let was = c.loop-record.invariant in
    let more = map-append now given (one ∷ []) in record {
      rest = rest_on now c.args.components given c.loop-record.record-iterator c.next.new.self one was.rest c.in-Some.ensures.steps;
      listed = subst (λ (lists : List (List ℕ)). AreGrouped lists c.put_names.new.list)
          (sym (ap (map names_of) more ∙ map-append names_of (map now given) (one.now ∷ [])))
          (grouped_push (map names_of (map now given)) one.now.names c.loop-record.list c.put_names.new.list was.listed
          (subst (λ (names : List ℕ). AddsGroup names c.loop-record.list c.put_names.new.list) c.names.ensures.names c.in_ok-put_names.ensures));
      whole = λ d here. elim (Contains-push_cases (map now given) one.now d (subst (λ (cs : List Cluster). Contains cs d) more here)) [
        | inl before ↦ was.whole d before
        | inr same ↦ subst IsConnected same c.names.ensures.record.connected
      ];
    }

pub returns-clause-listed : goal.returns-clause-listed
returns-clause-listed c =
    subst (λ (cs : List Cluster). AreGrouped (map names_of cs) c.loop-record.list)
    (gave_all c.args.components (map now c.loop-record.yielded) c.loop-record.record-iterator c.loop-record.invariant.rest c.in-None.ensures.steps.0)
    c.loop-record.invariant.listed

pub returns-clause-whole : goal.returns-clause-whole
returns-clause-whole c = λ d here. c.loop-record.invariant.whole d (subst (λ (cs : List Cluster). Contains cs d)
    (sym (gave_all c.args.components (map now c.loop-record.yielded) c.loop-record.record-iterator c.loop-record.invariant.rest c.in-None.ensures.steps.0)) here)
