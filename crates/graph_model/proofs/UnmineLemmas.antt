-- A block that is taken back directly after it was mined.
use Rattle.std.proofs.Common.{◌≡◌, ℕ, ◌+◌, ◌<◌, ◌≤◌, false, List, ◌∷◌, length, Some, is_some, sym, refl, ap, subst, ◌∙◌, inl, inr, ◌⊎◌, arith, true≢false}
use Rattle.std.specs.Prelude.{Contains, take, sum_by}
use Rattle.std.specs.FinMap as finmap
use Rattle.lists.proofs.Cases.{some_none}
use Rattle.lists.proofs.Told.{told_number}
use Rattle.lists.proofs.Entries.{Contains-map, not_empty}
use Rattle.arithmetic.proofs.Sums.{sum_by_along}
use Rattle.fee_rate.specs.declared.rates.Sum.{Sum}
use Rattle.graphs.specs.Graphs.{Graph, AreConnected}
use Rattle.graphs.specs.Drops.{DropsNames}
use Rattle.graphs.specs.Alikes.{AreAlike}
use Rattle.graphs.proofs.AlikeLemmas.{alike_back, connected_to}
use Rattle.graphs.proofs.WalkLemmas.{AreConnected-sym, AreConnected-trans}
use Rattle.graph_model.specs.declared.limits.TheConstants.{MAX_BLOCKS}
use Rattle.graph_model.specs.declared.names.Refusal.{Refusal}
use Rattle.graph_model.specs.declared.names.Refusal.TheVariants.{Memory}
use Rattle.graph_model.specs.Limits.{Bounds, AreOver}
use Rattle.graph_model.specs.Oversize.{AreOfOneComponent}
use Rattle.graph_model.specs.States.{PlainState, MinedBlock, State, Table, top_of, IsLive, rate_of, sum_in, size_of}
use Rattle.graph_model.specs.Commands.{Mine, Unmine}
use Rattle.graph_model.specs.Replies.{Reply, Done, Refused, Unmined}
use Rattle.graph_model.specs.Refusals.{RefusalIs, IsInOver, BringsOver, latest_of, latest_ids}
use Rattle.graph_model.specs.Changes.{begun, IsKept, Forgets, IsMinedBlock, Mines, PutsNames, Restores, Unmines}
use Rattle.graph_model.specs.Steps.{Step}
use Rattle.graph_model.specs.Validity.{IsValid, IsValidState}
use Rattle.graph_model.specs.UnmineLaws.{MinedComesBack}
use Rattle.graph_model.proofs.ValidLemmas.{told_kept}
use Rattle.graph_model.proofs.TxLemmas.{size_told}
use Rattle.graph_model.proofs.TrimLemmas.{rising_once}
use Rattle.graph_model.proofs.FirstLemmas.{first_in}
use Rattle.graph_model.proofs.BackLemmas.{names_back, ancestors_back}
use Rattle.graph_model.proofs.SameMinedLemmas.{tx_of}
use Rattle.graph_model.proofs.RestoreLemmas.{joined_name}
use Rattle.graph_model.proofs.MinedLemmas.{CanMine, can_mine, mined_ids, len_fewer}

-- ---- the state after `mine`

-- Main was a graph that lost its listed names to a block; then the table lost them too.
module _ (old : PlainState) (ids : List ℕ) (valid : IsValid old) (can : CanMine old ids) (block : MinedBlock) (is : IsMinedBlock old ids block)
    (graph : Graph) (drops : DropsNames old.main ids graph) (table : Table) where
  abbrev base : PlainState
  base = record (begun old) { blocks = take MAX_BLOCKS (block ∷ old.blocks); main = graph }

  abbrev mid : PlainState
  mid = record base { table = table }

  module _ (forgets : Forgets base mid) where
    latest : latest_ids mid.blocks ≡ ids
    latest = mined_ids old ids block is

    out : (id : ℕ) → Contains ids id → IsKept base id → ⊥
    out id listed kept = elim kept [
      | inl here ↦ ((drops.names id).0 here).1 listed
      | inr here ↦ ((drops.names id).0 (subst (λ (g : Graph). Contains g.names id) (ap (top_of graph) can.alone) here)).1 listed
    ]

    gone : (id : ℕ) → Contains ids id → IsLive mid id → ⊥
    gone id listed live = true≢false (sym live ∙ ap is_some (forgets.dropped id (out id listed)))

    was_live : (id : ℕ) → IsLive mid id → IsLive old id
    was_live id live = elim (told_kept base id) [
      | inl kept ↦ sym (ap is_some (forgets.kept id kept)) ∙ live
      | inr none ↦ absurd (true≢false (sym live ∙ ap is_some (forgets.dropped id none)))
    ]

    room : finmap.len table + length ids ≤ old.limits.total
    room =
        let fewer : finmap.len table + length ids ≤ finmap.len old.table =
        len_fewer ids old.table table can.once (λ id listed. (valid.live id).1 (inl (can.inside id listed))) was_live gone in
        let few : finmap.len old.table ≤ old.limits.total = valid.few in
        omega (arith, fewer, few)

    -- ---- and after `unmine`

    module _ (new : PlainState) (blocks : List MinedBlock) (back : Restores (record mid { blocks = blocks }) block.txs block.pairs new) where
      puts : PutsNames graph ids block.pairs new.main
      puts = subst (λ ns. PutsNames graph ns block.pairs new.main) latest back.graph

      entry : (id : ℕ) → Contains old.main.names id → rate_of old.table id ≡ rate_of new.table id
      entry id here = elim (told_number ids id) [
        | inl listed ↦ ap sum_in (sym (back.listed id (rate_of old.table id).fee (rate_of old.table id).size
            (subst (λ txs. Contains txs (tx_of old.table id)) (sym is.txs) (Contains-map (tx_of old.table) ids id listed))))
        | inr none ↦ ap sum_in (sym (back.others id (λ listed. none (subst (λ ns. Contains ns id) latest listed))
            ∙ forgets.kept id (inl ((drops.names id).1 (here, none)))))
      ]

      pub alike_again : AreAlike (rate_of old.table) old.main (rate_of new.table) new.main
      alike_again = record {
        names = names_back old.main graph new.main ids block.pairs valid.main.whole drops can.parents can.inside is.pairs puts;
        sums = entry;
        ancestors = ancestors_back old.main graph new.main ids block.pairs valid.main.whole drops can.parents can.inside is.pairs puts;
      }

      limits_are : new.limits ≡ old.limits
      limits_are = ap (λ (s : PlainState). s.limits) back.same

      -- no component is over the limits then
      none_in_over : old.limits.defer ≡ false → (id : ℕ) → Contains ids id → (why : Refusal) → IsInOver new id why → ⊥
      none_in_over strict id listed why (xs, lists, told) =
          let to_old : (q : ℕ) → Contains xs q → AreConnected old.main.pairs id q = λ q here.
          connected_to (rate_of new.table) (rate_of old.table) new.main old.main
          (alike_back (rate_of old.table) (rate_of new.table) old.main new.main alike_again) id q ((lists.exact q).0 here) in
          let inside : (q : ℕ) → Contains xs q → Contains old.main.names q = λ q here.
          let trail = to_old q here in joined_name old.main valid.main.whole id q trail.0 trail.1 (can.inside id listed) in
          let of : AreOfOneComponent old.main xs = record {
            once = rising_once xs lists.rising;
            inside = inside;
            together = λ a b here there. AreConnected-trans old.main.pairs a id b (AreConnected-sym old.main.pairs id a (to_old a here)) (to_old b there);
          } in
          let sizes : sum_by (size_of new.table) xs ≡ sum_by (size_of old.table) xs = sum_by_along (size_of new.table) (size_of old.table) xs (λ q here.
          sym (size_told new.table q) ∙ ap (λ (s : Sum). s.size) (sym (entry q (inside q here))) ∙ size_told old.table q) in
          let over : AreOver old.limits (size_of old.table) xs = elim told [
            | inl many ↦ inl (subst (λ (l : Bounds). l.count < length xs) limits_are many.0)
            | inr large ↦ inr (subst (λ n. old.limits.size < n) sizes (subst (λ (l : Bounds). l.size < sum_by (size_of new.table) xs) limits_are large.1))
          ] in
          valid.main.within strict (xs, of, over)

    none_over : (why : Refusal) → BringsOver mid block.txs block.pairs why → ⊥
    none_over why brings =
        none_in_over brings.next mid.blocks brings.restores brings.strict brings.id
        (subst (λ ns. Contains ns brings.id) latest
        (first_in (λ before id. (any : Refusal) × IsInOver brings.next id any) (latest_ids mid.blocks) brings.id brings.first)) why brings.over

    not_full : old.limits.total < finmap.len table + length (latest_ids mid.blocks) → ⊥
    not_full full =
        let fits : finmap.len table + length (latest_ids mid.blocks) ≤ old.limits.total =
        subst (λ ns. finmap.len table + length ns ≤ old.limits.total) (sym latest) room in
        omega (arith, full, fits)

    -- nothing refuses `unmine`
    pub none_refuses : (why : Refusal) → RefusalIs mid Unmine (Some why) → ⊥
    none_refuses why row = elim row [
      | inl staged ↦ true≢false (sym staged.0 ∙ ap is_some can.alone)
      | inr one ↦ elim one.1 [
        | inl none ↦ not_empty none.0
        | inr two ↦ elim two.1 [
          | inl live ↦ gone live.0
              (subst (λ ns. Contains ns live.0) latest (first_in (λ before id. IsLive mid id) (latest_ids mid.blocks) live.0 live.1)) live.1.has
          | inr three ↦ elim three.1 [
            | inl full ↦ not_full full.0
            | inr four ↦ elim four.1 [ inl over ↦ none_over over.0 over.1 | inr none ↦ some_none why none.1 ]
          ]
        ]
      ]
    ]

-- ---- the law

-- a valid state after `mine`
record IsMined (old : PlainState) (ids : List ℕ) (mid : PlainState) : Type 0 where
  can : CanMine old ids
  block : MinedBlock
  is : IsMinedBlock old ids block
  graph : Graph
  drops : DropsNames old.main ids graph
  forgets : Forgets (record (begun old) { blocks = take MAX_BLOCKS (block ∷ old.blocks); main = graph }) mid

mined : (old mid : State) (ids : List ℕ) → Step old (Mine ids) Done mid → IsMined old.plain ids mid.plain
mined old mid ids step = elim step [
  | inl refused ↦ absurd (no_refusal refused.why refused.told)
  | inr rest ↦ elim rest [
    | inl lacks ↦ elim lacks [ inl none ↦ absurd (no_refusal Memory none.told) | inr gives ↦ absurd (no_refusal Memory gives.told) ]
    | inr accepted ↦ of_change (can_mine old.plain ids accepted.none) accepted.accepts.plain.change
  ]
]
  where
    no_refusal : (why : Refusal) → Done ≡ Refused why → ⊥
    no_refusal why e = cc

    of_change : CanMine old.plain ids → Mines old.plain ids mid.plain → IsMined old.plain ids mid.plain
    of_change can (block, is, lost) = record { can = can; block = block; is = is; graph = lost.0; drops = lost.1; forgets = lost.2 }

module _ (old mid : PlainState) (ids : List ℕ) (valid : IsValid old) (was : IsMined old ids mid) where
  -- the same state, with all but its table spelled out
  abbrev shown : PlainState
  shown = record (begun old) { blocks = take MAX_BLOCKS (was.block ∷ old.blocks); main = was.graph; table = mid.table }

  shown_forgets : Forgets (record (begun old) { blocks = take MAX_BLOCKS (was.block ∷ old.blocks); main = was.graph }) shown
  shown_forgets = record { same = refl; kept = was.forgets.kept; dropped = was.forgets.dropped }

  none_refuses_mid : (why : Refusal) → RefusalIs mid Unmine (Some why) → ⊥
  none_refuses_mid why row = none_refuses old ids valid was.can was.block was.is was.graph was.drops mid.table shown_forgets why
      (subst (λ (s : PlainState). RefusalIs s Unmine (Some why)) was.forgets.same row)

  alike_mid : (new : PlainState) → Unmines mid new → AreAlike (rate_of old.table) old.main (rate_of new.table) new.main
  alike_mid new unmines =
      let back : Unmines shown new = subst (λ (s : PlainState). Unmines s new) was.forgets.same unmines in
      alike_again old ids valid was.can was.block was.is was.graph was.drops mid.table shown_forgets new back.1
      (subst (λ (b : MinedBlock). Restores (record shown { blocks = back.1 }) b.txs b.pairs new) (sym (ap latest_of back.2)) back.3)

  latest_mid : latest_ids mid.blocks ≡ ids
  latest_mid = ap (λ (s : PlainState). latest_ids s.blocks) was.forgets.same ∙ mined_ids old ids was.block was.is

answered : (old mid new : State) (ids : List ℕ) (reply : Reply) → IsValidState old → Step old (Mine ids) Done mid → Step mid Unmine reply new
    → (reply ≡ Unmined ids) ⊎ (reply ≡ Refused Memory)
answered old mid new ids reply valid mines step =
    let was : IsMined old.plain ids mid.plain = mined old mid ids mines in
    elim step [
      | inl refused ↦ absurd (none_refuses_mid old.plain mid.plain ids valid.plain was refused.why refused.first)
      | inr rest ↦ elim rest [
        | inl lacks ↦ inr (elim lacks [ inl none ↦ none.told | inr gives ↦ gives.told ])
        | inr accepted ↦ inl (accepted.accepts.plain.answer ∙ ap Unmined (latest_mid old.plain mid.plain ids valid.plain was))
      ]
    ]

restored : (old mid new : State) (ids back : List ℕ) → IsValidState old → Step old (Mine ids) Done mid → Step mid Unmine (Unmined back) new
    → AreAlike (rate_of old.plain.table) old.plain.main (rate_of new.plain.table) new.plain.main
restored old mid new ids back valid mines step =
    let was : IsMined old.plain ids mid.plain = mined old mid ids mines in
    elim step [
      | inl refused ↦ absurd (no_refusal refused.why refused.told)
      | inr rest ↦ elim rest [
        | inl lacks ↦ elim lacks [ inl none ↦ absurd (no_refusal Memory none.told) | inr gives ↦ absurd (no_refusal Memory gives.told) ]
        | inr accepted ↦ alike_mid old.plain mid.plain ids valid.plain was new.plain accepted.accepts.plain.change
      ]
    ]
  where
    no_refusal : (why : Refusal) → Unmined back ≡ Refused why → ⊥
    no_refusal why e = cc

pub mined_comes_back : MinedComesBack
mined_comes_back = record {
  answered = λ old mid new ids reply valid types mines step. answered old mid new ids reply valid mines step;
  restored = λ old mid new ids back valid types mines step. restored old mid new ids back valid mines step;
}
