use Rattle.std.proofs.Common.{◌≡◌, ◌+◌, ℕ, List, get_or, take, sym, ◌∙◌, subst, arith}
use Rattle.std.proofs.lemmas.List.{take_all}
use Rattle.std.proofs.lemmas.List.Elements.{Contains-get_or}
use Rattle.links.specs.Leaving.{Adds}
use Rattle.links.specs.Links.{Links, Has}
use Rattle.reorg.specs.Blocks.{ArePairsBy, LeadsTo}
use Rattle.reorg.proofs.Pairing.{longer, by_more}
use Rattle.reorg.proofs.linking.pairs_below.Goals as goal

pub put_walked-requires : goal.put_walked-requires
put_walked-requires c =
    let ids = c.args.ids.now in let k = c.loop-id.id-index in
    subst (λ (l : Links). Has l (get_or ids k 0)) (sym c.loop-id.invariant.same) (c.requires (get_or ids k 0) (Contains-get_or ids k 0 c.loop-id-test.true))

pub loop-id-preserved : goal.loop-id-preserved
loop-id-preserved c =
    let ids = c.args.ids.now in let k = c.loop-id.id-index in
    record {
      same = c.in_ok-put_walked.ensures.same ∙ c.loop-id.invariant.same;
      pairs = by_more (LeadsTo c.args.links.now.pairs) (take k ids) (take (k + 1) ids) (get_or ids k 0) c.loop-id.list.items c.put_walked.new.list.items
          (longer ids k c.loop-id-test.true) c.loop-id.invariant.pairs
          (subst (λ (l : Links). Adds (λ m d. (m ≡ get_or ids k 0) × LeadsTo l.pairs m d) c.loop-id.list.items c.put_walked.new.list.items)
          c.loop-id.invariant.same c.in_ok-put_walked.ensures.adds);
    }

pub returns : goal.returns
returns c =
    subst (λ (ns : List ℕ). ArePairsBy (LeadsTo c.args.links.now.pairs) ns c.loop-id.list.items) (take_all c.loop-id.id-index c.args.ids.now (omega arith))
    c.loop-id.invariant.pairs
