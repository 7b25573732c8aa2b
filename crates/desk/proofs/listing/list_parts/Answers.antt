use Rattle.std.proofs.Common.{List, map, ◌∷◌, [], sym, subst}
use Rattle.std.proofs.lemmas.List.{map-append}
use Rattle.cluster_store.specs.Lent.{lent}
use Rattle.graphs.specs.Certificates.{Part}
use Rattle.desk.specs.Copies.{IsListed}
use Rattle.desk.proofs.Lists.{rest_on, gave_all, listed_push}
use Rattle.desk.proofs.listing.list_parts.Goals as goal

pub loop-part-preserved : goal.loop-part-preserved
loop-part-preserved c = record {
  rest = rest_on lent c.args.parts c.loop-part.yielded c.loop-part.part-iterator c.next.new.self c.in-Some.part c.loop-part.invariant.rest
      c.in-Some.ensures.steps;
  listed = subst (λ (parts : List Part). IsListed parts c.put_part.new.list) (sym (map-append lent c.loop-part.yielded (c.in-Some.part ∷ [])))
      (listed_push (map lent c.loop-part.yielded) (lent c.in-Some.part) c.loop-part.list c.put_part.new.list c.loop-part.invariant.listed
      c.in_ok-put_part.ensures);
}

pub returns : goal.returns
returns c =
    subst (λ (parts : List Part). IsListed parts c.loop-part.list)
    (gave_all c.args.parts (map lent c.loop-part.yielded) c.loop-part.part-iterator c.loop-part.invariant.rest c.in-None.ensures.steps.0)
    c.loop-part.invariant.listed
