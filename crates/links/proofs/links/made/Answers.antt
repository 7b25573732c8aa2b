use Rattle.std.proofs.Common.{◌≡◌, ℕ, List, length, sym, subst, arith}
use Rattle.graphs.specs.Certificates.{Txs}
use Rattle.links.specs.Links.{AreAmong}
use Rattle.links.specs.Kept.{names_of, AreMaps}
use Rattle.links.specs.Walkers.{IsReady}
use Rattle.links.proofs.Composing.{same_among, are_links}
use Rattle.links.proofs.links.made.Goals as goal

pub maps_of-requires-clause-among : goal.maps_of-requires-clause-among
maps_of-requires-clause-among c =
    subst (λ (ps : List (ℕ × ℕ)). AreAmong (names_of c.as_slice.result.now) ps) (sym c.as_slice-2.ensures.value)
    (subst (λ (ts : Txs). AreAmong (names_of ts) c.in_ok-pairs.pairs.items) (sym c.as_slice.ensures.value)
    (same_among (names_of c.args.txs.items) c.args.pairs.now c.in_ok-pairs.pairs.items c.in_ok-pairs.ensures.same c.requires.among))

pub invariant_of-result : goal.invariant_of-result
invariant_of-result c = record {
  links = are_links c.args.txs.items c.args.pairs.now c.in_ok-pairs.pairs.items c.requires.once c.requires.in_range c.requires.among c.requires.no_cycle
      c.in_ok-pairs.ensures.same c.in_ok-pairs.ensures.once;
  maps_are = subst (λ (ps : List (ℕ × ℕ)). AreMaps c.args.txs.items ps c.in_ok-maps.maps) c.as_slice-2.ensures.value
      (subst (λ (ts : Txs). AreMaps ts c.as_slice-2.result.now c.in_ok-maps.maps) c.as_slice.ensures.value c.in_ok-maps.ensures);
  ready = (let l : c.len.result ≡ length c.args.txs.items = omega (arith, c.len.ensures) in subst (λ (n : ℕ). IsReady n c.in_ok-walker.walker) l c.in_ok-walker.ensures);
  names = omega (arith, c.in_ok-listed.ensures.exact, c.in_ok-listed.ensures.capacity);
}
