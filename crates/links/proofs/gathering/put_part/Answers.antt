use Rattle.std.proofs.Common.{◌≡◌, ◌+◌, ℕ, true, false, List, length, map, get_or, nat_eq, sym, ap, ◌∙◌, subst, arith}
use Rattle.std.specs.HashMap as hash
use Rattle.std.proofs.lemmas.List.{get_or_read}
use Rattle.links.specs.Links.{Links}
use Rattle.links.specs.Kept.{names_of}
use Rattle.links.specs.declared.ways.Ways.{Ways}
use Rattle.links.specs.Walkers.{FindsAll, mark_at}
use Rattle.links.specs.Gathering.{AreFound, AreInto, AreClosed, IsSearch, MarksMore, both_ways, tx_at}
use Rattle.links.proofs.Walking.{found_below}
use Rattle.links.proofs.Trails.{both_within, found_closed}
use Rattle.links.proofs.Finding.{found_again, found_next}
use Rattle.links.proofs.gathering.put_part.Goals as goal

pub returns-then-index : goal.returns-then-index
returns-then-index c =
    let taken = c.args.search.now.taken.items in
    let place = c.args.place in
    let sized = c.requires.found.search_is.sized in
    let here : mark_at taken place ≡ true = sym (get_or_read taken place c.index.result.now (omega (arith, c.requires.place)) c.index.ensures false) ∙ c.if-index.true in
    record {
      search_is = c.requires.found.search_is;
      steps_are = c.requires.found.steps_are;
      found = found_again (record { txs = c.args.txs.now; pairs = c.args.pairs.now }) place taken c.args.parts.now.items c.requires.found.found here;
    }

pub part_at-requires-clause-closed : goal.part_at-requires-clause-closed
part_at-requires-clause-closed c =
    let count = length c.args.txs.now in
    let steps = c.args.maps.now.up.steps.items in
    let found = c.take.new.search.walker.found.items in
    let all = subst (λ (ss : List (ℕ × ℕ)). FindsAll ss c.args.place found) c.requires.found.steps_are c.take.ensures.found in
    subst (AreClosed count steps) (sym c.as_slice.ensures.value) (found_closed count steps c.args.place found c.requires.maps.up.within c.requires.place all)

pub returns : goal.returns
returns c =
    let old : Links = record { txs = c.args.txs.now; pairs = c.args.pairs.now } in
    let count = length c.args.txs.now in
    let taken = c.args.search.now.taken.items in
    let place = c.args.place in
    let sized = c.requires.found.search_is.sized in
    let maps = c.args.maps.now in
    let steps = maps.up.steps.items in
    let found = c.take.new.search.walker.found.items in
    let part = c.in_ok-part.part in
    let free : mark_at taken place ≡ false = sym (get_or_read taken place c.index.result.now (omega (arith, c.requires.place)) c.index.ensures false) ∙ c.if-index.false in
    let all = subst (λ (ss : List (ℕ × ℕ)). FindsAll ss place found) c.requires.found.steps_are c.take.ensures.found in
    let within = found_below count (both_ways steps) place found (both_within count steps c.requires.maps.up.within) c.requires.place all in
    let marks : MarksMore count taken found c.take.new.search.taken.items =
    subst (λ (n : ℕ). MarksMore n taken found c.take.new.search.taken.items) sized c.take.ensures.taken in
    let txs = c.in_ok-part.ensures.txs ∙ ap (map (tx_at c.args.txs.now)) c.as_slice.ensures.value in
    let into = subst (λ (xs : List ℕ). AreInto (map (λ q. get_or (names_of c.args.txs.now) q 0) xs) c.args.pairs.now part.pairs) c.as_slice.ensures.value
    c.in_ok-part.ensures.pairs in
    let around = c.take.ensures.around in
    record {
      search_is = subst (λ (n : ℕ). IsSearch n c.take.new.search) sized c.take.ensures.search;
      steps_are = ap (λ (w : Ways). w.steps.items) around ∙ c.requires.found.steps_are;
      found = subst (AreFound old (place + 1) c.take.new.search.taken.items) (sym c.in_ok-push.ensures.items)
          (found_next old part (hash.get nat_eq maps.places) steps place found c.requires.maps.places c.requires.maps.steps c.requires.place all within txs into
          taken c.take.new.search.taken.items c.args.parts.now.items c.requires.found.found free marks);
    }
