-- Links are made of what was put together.
use Rattle.std.proofs.Common.{◌≡◌, ℕ, List, Contains, lit<, sym, ◌∙◌, subst, subst₂}
use Rattle.lists.specs.Distinct.{AreDistinct}
use Rattle.graphs.specs.Certificates.{Txs}
use Rattle.graphs.specs.Graphs.{HasNoCycle}
use Rattle.links.specs.Links.{AreAmong, AreInRange, AreSame}
use Rattle.links.specs.Kept.{names_of}
use Rattle.levels.specs.Gathered.{PutsAll}
use Rattle.levels.proofs.Collected.{all_acyclic, all_among, all_in_range, met_at, names_once}
use Rattle.levels.proofs.shelves.Shelves.gathered.Goals as goal

pub put_all-requires : goal.put_all-requires
put_all-requires g c = (
  lit< tt,
  (
    c.requires.order,
    λ n here. met_at g.row.W c.args.self.now c.requires.order c.args.txs.now c.args.pairs.now c.requires.may c.in_ok-outs.outs.items c.in_ok-outs.ensures n
        (subst (λ (ns : List ℕ). Contains ns n) c.as_slice.ensures.value here),
  ),
)

pub new-requires-clause-once : goal.new-requires-clause-once
new-requires-clause-once g c =
    let shelf = c.args.self.now in
    let puts = subst (λ (ns : List ℕ). PutsAll shelf ns c.in_ok-all.all.items c.in_ok-between.between.items c.put_all.new.txs.items c.put_all.new.pairs.items)
    c.as_slice.ensures.value c.in_ok-put_all.ensures in
    subst (λ (ts : Txs). AreDistinct (names_of ts)) (sym c.as_slice-2.ensures.value)
    (names_once g.row.W shelf c.requires.order c.args.txs.now c.args.pairs.now c.requires.may c.in_ok-outs.outs.items c.in_ok-outs.ensures
    c.in_ok-between.between.items c.in_ok-between.ensures c.put_all.new.txs.items c.put_all.new.pairs.items
    (subst (λ (ts : Txs). PutsAll shelf c.in_ok-outs.outs.items ts c.in_ok-between.between.items c.put_all.new.txs.items c.put_all.new.pairs.items)
    c.in_ok-all.ensures.items puts))

pub new-requires-clause-in_range : goal.new-requires-clause-in_range
new-requires-clause-in_range g c =
    let shelf = c.args.self.now in
    let puts = subst (λ (ns : List ℕ). PutsAll shelf ns c.in_ok-all.all.items c.in_ok-between.between.items c.put_all.new.txs.items c.put_all.new.pairs.items)
    c.as_slice.ensures.value c.in_ok-put_all.ensures in
    subst (λ (ts : Txs). AreInRange ts) (sym c.as_slice-2.ensures.value)
    (all_in_range g.row.W shelf c.requires.order c.args.txs.now c.args.pairs.now c.requires.may c.in_ok-outs.outs.items c.in_ok-outs.ensures
    c.in_ok-between.between.items c.in_ok-between.ensures c.put_all.new.txs.items c.put_all.new.pairs.items
    (subst (λ (ts : Txs). PutsAll shelf c.in_ok-outs.outs.items ts c.in_ok-between.between.items c.put_all.new.txs.items c.put_all.new.pairs.items)
    c.in_ok-all.ensures.items puts))

pub new-requires-clause-among : goal.new-requires-clause-among
new-requires-clause-among g c =
    let shelf = c.args.self.now in
    let puts = subst (λ (ns : List ℕ). PutsAll shelf ns c.in_ok-all.all.items c.in_ok-between.between.items c.put_all.new.txs.items c.put_all.new.pairs.items)
    c.as_slice.ensures.value c.in_ok-put_all.ensures in
    subst₂ (λ (ts : Txs) (ps : List (ℕ × ℕ)). AreAmong (names_of ts) ps) (sym c.as_slice-2.ensures.value) (sym c.as_slice-3.ensures.value)
    (all_among g.row.W shelf c.requires.order c.args.txs.now c.args.pairs.now c.requires.may c.in_ok-outs.outs.items c.in_ok-outs.ensures
    c.in_ok-between.between.items c.in_ok-between.ensures c.put_all.new.txs.items c.put_all.new.pairs.items
    (subst (λ (ts : Txs). PutsAll shelf c.in_ok-outs.outs.items ts c.in_ok-between.between.items c.put_all.new.txs.items c.put_all.new.pairs.items)
    c.in_ok-all.ensures.items puts))

pub new-requires-clause-no_cycle : goal.new-requires-clause-no_cycle
new-requires-clause-no_cycle g c =
    let shelf = c.args.self.now in
    let puts = subst (λ (ns : List ℕ). PutsAll shelf ns c.in_ok-all.all.items c.in_ok-between.between.items c.put_all.new.txs.items c.put_all.new.pairs.items)
    c.as_slice.ensures.value c.in_ok-put_all.ensures in
    subst (λ (ps : List (ℕ × ℕ)). HasNoCycle ps) (sym c.as_slice-3.ensures.value)
    (all_acyclic g.row.W shelf c.requires.order c.args.txs.now c.args.pairs.now c.requires.may c.in_ok-outs.outs.items c.in_ok-outs.ensures
    c.in_ok-between.between.items c.in_ok-between.ensures c.put_all.new.txs.items c.put_all.new.pairs.items
    (subst (λ (ts : Txs). PutsAll shelf c.in_ok-outs.outs.items ts c.in_ok-between.between.items c.put_all.new.txs.items c.put_all.new.pairs.items)
    c.in_ok-all.ensures.items puts))

pub returns : goal.returns
returns g c =
    let shelf = c.args.self.now in
    let links = c.in_ok-links.links in
    let txs_are : links.txs ≡ c.put_all.new.txs.items = c.in_ok-links.ensures.txs ∙ c.as_slice-2.ensures.value in
    let puts = subst (λ (ns : List ℕ). PutsAll shelf ns c.in_ok-all.all.items c.in_ok-between.between.items c.put_all.new.txs.items c.put_all.new.pairs.items)
    c.as_slice.ensures.value c.in_ok-put_all.ensures in
    record {
      met = c.in_ok-outs.ensures;
      here = c.in_ok-between.between.items;
      are_here = c.in_ok-between.ensures;
      all_pairs = c.put_all.new.pairs.items;
      puts =
          subst (λ (ts : Txs). PutsAll shelf c.in_ok-outs.outs.items c.args.txs.now c.in_ok-between.between.items ts c.put_all.new.pairs.items) (sym txs_are)
          (subst (λ (ts : Txs). PutsAll shelf c.in_ok-outs.outs.items ts c.in_ok-between.between.items c.put_all.new.txs.items c.put_all.new.pairs.items)
          c.in_ok-all.ensures.items puts);
      whole = c.txs-txs.ensures.whole;
      same = subst (λ (ps : List (ℕ × ℕ)). AreSame ps links.pairs) c.as_slice-3.ensures.value c.in_ok-links.ensures.pairs;
    }
