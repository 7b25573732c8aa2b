-- What a draft has is what is taken.
use Rattle.std.proofs.Common.{◌≡◌, ℕ, ℤ, pos, ◌+◌, ◌-◌, ◌*◌, ◌+ℤ◌, ◌<◌, ◌≤◌, unsigned_abs, Bool, true, false, true≢false, List, [], ◌∷◌, ◌++◌, map, Contains, refl, sym, ap, ◌∙◌, subst, arith}
use Rattle.std.specs.Prelude.{Result, Ok, Err, OnOk, IsErr}
use Rattle.std.proofs.lemmas.Int.{ints}
use Rattle.std.proofs.lemmas.List.{map-append, append-nil}
use Rattle.std.proofs.lemmas.List.Elements.{Contains-append_right}
use Rattle.lists.proofs.Entries.{Contains-head, Contains-map}
use Rattle.std.proofs.lemmas.List.Concat.{flat_map-append}
use Rattle.std.proofs.lemmas.List.Sums.{sum_by-cons}
use Rattle.arithmetic.specs.Sums.{total}
use Rattle.arithmetic.proofs.Sums.{total-append}
use Rattle.fee_rate.specs.declared.limits.TheConstants.{MAX_FEE}
use Rattle.fee_rate.specs.declared.rates.Sum.{Sum}
use Rattle.graphs.specs.Certificates.{Part}
use Rattle.graphs.specs.Rates.{sum_of}
use Rattle.graph_model.specs.Answers.{order_of}
use Rattle.graph_model.specs.Commands.{Block}
use Rattle.graph_model.specs.Replies.{Built, Refused, block_reply}
use Rattle.graph_model.specs.States.{State}
use Rattle.graph_model.specs.declared.names.Picked.{Picked}
use Rattle.graph_model.specs.declared.names.Refusal.TheVariants.{Memory}
use Rattle.cluster_store.specs.Stores.{Shown}
use Rattle.diagram.specs.Parts.{sums_of}
use Rattle.outside.specs.declared.errors.NoMemory.{NoMemory}
use Rattle.tx_graph.specs.Dropped.{AreOfClusters, ArePaidBySize, IsBlockOf}
use Rattle.tx_graph.specs.Kept.{Kept, StandsFor, MakesStep}
use Rattle.block_builder.specs.Building.{is_marked, AddsMark}
use Rattle.block_builder.specs.Drafts.{took, size_of, MayTake, Tells, IsDraft, Drafts, IsFilled, ArePicked}
use Rattle.block_builder.specs.declared.draft.Draft.{Draft}
use Rattle.block_builder.proofs.Marking.{Entry, shown_in, left_out, took_one, took_none, size_one, marked_none, marked_more, not_taken, none_fit, left_none, left_taken, left_passed, left_marked, shown_left_out, is_block}

-- ---- sums

size_told : (parts : List Part) → (sum_of (sums_of parts)).size ≡ size_of parts
size_told [] = refl
size_told (p ∷ parts) =
    sum_by-cons (λ (s : Sum). s.size) p.rate (sums_of parts) ∙ ap (λ n. p.rate.size + n) (size_told parts) ∙ sym (sum_by-cons (λ (q : Part). q.rate.size) p parts)

fee_one : (parts : List Part) (p : Part) → (sum_of (sums_of (parts ++ p ∷ []))).fee ≡ (sum_of (sums_of parts)).fee +ℤ p.rate.fee
fee_one parts p =
    let one : total (λ (s : Sum). s.fee) (p.rate ∷ []) ≡ p.rate.fee = omega (arith, ints) in
    ap (total (λ (s : Sum). s.fee)) (map-append (λ (q : Part). q.rate) parts (p ∷ [])) ∙ total-append (λ (s : Sum). s.fee) (sums_of parts) (p.rate ∷ [])
    ∙ ap (λ n. (sum_of (sums_of parts)).fee +ℤ n) one

-- ---- no part yet

pub drafts_none : (limit : ℕ) → IsDraft limit [] (pos 0) limit [] []
drafts_none limit = record {
  tells = record { marked = marked_none limit; ids_are = refl; fee_is = refl; size_is = omega arith };
  pays = omega (arith, ints);
  left_out = left_none;
}

-- ---- one part more

module _ (limit : ℕ) (ids : List ℕ) (fee : ℤ) (left : ℕ) (gone : List Entry) (s : Shown) where
  -- which isn't taken
  tells_none : Tells limit ids fee left gone → (MayTake limit gone s → ⊥) → Tells limit ids fee left (gone ++ (s, false) ∷ [])
  tells_none tells none =
      let one = took_none gone s in
      record {
        marked = marked_more limit gone s false tells.marked (not_taken limit gone s none);
        ids_are = tells.ids_are ∙ ap order_of (sym one);
        fee_is = tells.fee_is ∙ ap (λ ps. (sum_of (sums_of ps)).fee) (sym one);
        size_is = ap (λ ps. left + size_of ps) one ∙ tells.size_is;
      }

  module _ (marks : List Bool) (draft : IsDraft limit ids fee left marks gone) where
    pays_none : unsigned_abs fee ≤ MAX_FEE * size_of (took (gone ++ (s, false) ∷ []))
    pays_none = subst (λ ps. unsigned_abs fee ≤ MAX_FEE * size_of ps) (sym (took_none gone s)) draft.pays

    pub drafts_passed : is_marked marks s.number ≡ true → IsDraft limit ids fee left marks (gone ++ (s, false) ∷ [])
    drafts_passed out =
        let found = (draft.left_out s.number).0 out in
        record {
          tells = tells_none draft.tells (λ may. true≢false (sym (may.0 found.0 false found.1 found.2)));
          pays = pays_none;
          left_out = left_passed marks gone draft.left_out s out;
        }

    pub drafts_large : (new : List Bool) → AddsMark marks new s.number → left < s.part.rate.size → IsDraft limit ids fee left new (gone ++ (s, false) ∷ [])
    drafts_large new adds over = record {
      tells = tells_none draft.tells (λ may. omega (arith, over, may.1, draft.tells.size_is));
      pays = pays_none;
      left_out = left_marked marks gone draft.left_out s new adds;
    }

    -- all of its cluster were taken
    all_taken : is_marked marks s.number ≡ false → (t : Shown) (was : Bool) → Contains gone (t, was) → t.number ≡ s.number → was ≡ true
    all_taken fresh t true here same = refl
    all_taken fresh t false here same = absurd (true≢false (sym ((draft.left_out s.number).1 (t, here, same)) ∙ fresh))

    -- which is
    pub drafts_taken : (more : List ℕ) (paid : ℤ) (rest : ℕ) → is_marked marks s.number ≡ false → s.part.rate.size ≤ left
        → unsigned_abs s.part.rate.fee ≤ MAX_FEE * s.part.rate.size → more ≡ ids ++ s.part.ids → paid ≡ fee +ℤ s.part.rate.fee
        → rest + s.part.rate.size ≡ left → IsDraft limit more paid rest marks (gone ++ (s, true) ∷ [])
    drafts_taken more paid rest fresh fits pays more_is paid_is rest_is =
        let one = took_one gone s in
        let size = size_one gone s in
        let whole = draft.tells.size_is in
        let may : MayTake limit gone s = (all_taken fresh, omega (arith, fits, whole)) in
        record {
          tells = record {
            marked = marked_more limit gone s true draft.tells.marked ((λ yes. may), (λ _. refl));
            ids_are = more_is ∙ ap (λ is. is ++ s.part.ids) draft.tells.ids_are
                ∙ sym (ap order_of one ∙ flat_map-append (λ (p : Part). p.ids) (took gone) (s.part ∷ [])
                ∙ ap (λ is. order_of (took gone) ++ is) (append-nil s.part.ids));
            fee_is = paid_is ∙ ap (λ n. n +ℤ s.part.rate.fee) draft.tells.fee_is ∙ sym (ap (λ ps. (sum_of (sums_of ps)).fee) one ∙ fee_one (took gone) s.part);
            size_is = omega (arith, size, whole, rest_is);
          };
          pays = let before = draft.pays in omega (arith, ints, before, pays, paid_is, size);
          left_out = left_taken marks gone draft.left_out s;
        }

-- ---- all parts

module _ (limit : ℕ) (ids : List ℕ) (fee : ℤ) (left least : ℕ) (gone : List Entry) (rest : List Shown) where
  -- none of the rest fits
  pub tells_all : Tells limit ids fee left gone → left < least → ((s : Shown) → Contains rest s → least ≤ s.part.rate.size)
      → Tells limit ids fee left (gone ++ left_out rest)
  tells_all tells low large =
      let whole = tells.size_is in
      let all = none_fit limit gone rest tells.marked (λ s here. let size = large s here in omega (arith, low, size, whole)) in
      record {
        marked = all.marked;
        ids_are = tells.ids_are ∙ ap order_of (sym all.same);
        fee_is = tells.fee_is ∙ ap (λ ps. (sum_of (sums_of ps)).fee) (sym all.same);
        size_is = ap (λ ps. left + size_of ps) all.same ∙ whole;
      }

  pub shown_all : shown_in (gone ++ left_out rest) ≡ shown_in gone ++ rest
  shown_all = map-append (λ (e : Entry). e.0) gone (left_out rest) ∙ ap (λ ss. shown_in gone ++ ss) (shown_left_out rest)

-- ---- the block

module _ (limit : ℕ) (ids : List ℕ) (fee : ℤ) (left : ℕ) (gone : List Entry) (tells : Tells limit ids fee left gone) where
  pub picked_told : (picked : Picked) → picked.fee ≡ fee → picked.size + left ≡ limit → picked.ids ≡ ids → ArePicked (took gone) picked
  picked_told picked fee_is size_is ids_are =
      let whole = tells.size_is in
      let size = size_told (took gone) in
      record {
        fee = fee_is ∙ tells.fee_is;
        size = omega (arith, size_is, whole, size);
        ids = ids_are ∙ tells.ids_are;
      }

  pub block_told : (kept : Kept) (shown : List Shown) → shown_in gone ≡ shown → map (λ (s : Shown). s.part) shown ≡ kept.levels.main.parts
      → ((state : State) → StandsFor kept state → AreOfClusters state.plain.main shown) → IsBlockOf kept limit (took gone)
  block_told kept shown is whole numbers state stands =
      is_block state.plain.main limit gone tells.marked (subst (AreOfClusters state.plain.main) (sym is) (numbers state stands)) kept.levels.main.parts
      (ap (map (λ (s : Shown). s.part)) is ∙ whole)

pub reply_told : (taken : List Part) (picked : Picked) → ArePicked taken picked
    → Built (sum_of (sums_of taken)) (order_of taken) ≡ Built (record { fee = picked.fee; size = picked.size }) picked.ids
reply_told taken picked are = λ i. Built (record { fee = sym are.fee i; size = sym are.size i }) (sym are.ids i)

-- what a filled draft picks is the block
pub makes_block : (draft : Draft) (kept : Kept) (shown : List Shown) (limit : ℕ) (picked : Picked) → IsFilled draft shown → draft.limit ≡ limit
    → map (λ (s : Shown). s.part) shown ≡ kept.levels.main.parts
    → ((state : State) → StandsFor kept state → AreOfClusters state.plain.main shown) → picked.fee ≡ draft.fee → picked.size ≡ draft.limit - draft.left
    → picked.ids ≡ draft.ids.items → (taken : List Part) × IsBlockOf kept limit taken × ArePicked taken picked
makes_block draft kept shown limit picked (gone, is, tells) same whole numbers fee_is size_is ids_are =
    let told = tells.size_is in (
      took gone,
      subst (λ n. IsBlockOf kept n (took gone)) same
          (block_told draft.limit draft.ids.items draft.fee draft.left gone tells kept shown is whole numbers),
      picked_told draft.limit draft.ids.items draft.fee draft.left gone tells picked fee_is (omega (arith, size_is, told)) ids_are,
    )

-- so a block is answered
pub steps_filled : (kept : Kept) (limit : ℕ) (picked : Picked) → (taken : List Part) × IsBlockOf kept limit taken × ArePicked taken picked
    → ((size : ℕ) (taken : List Part) → IsBlockOf kept size taken → MakesStep kept kept (Block size) (Built (sum_of (sums_of taken)) (order_of taken)))
    → MakesStep kept kept (Block limit) (Built (record { fee = picked.fee; size = picked.size }) picked.ids)
steps_filled kept limit picked (taken, block, are) steps =
    subst (λ reply. MakesStep kept kept (Block limit) reply) (reply_told taken picked are) (steps limit taken block)

-- and so is one for which there is no memory
pub steps_unfilled : (kept : Kept) (limit : ℕ) (r : Result Picked NoMemory) → IsErr r → ((size : ℕ) → MakesStep kept kept (Block size) (Refused Memory))
    → MakesStep kept kept (Block limit) (block_reply r)
steps_unfilled kept limit (Ok picked) failed steps = absurd (true≢false (sym failed))
steps_unfilled kept limit (Err why) failed steps = steps limit

-- ---- the calls

pub ok_then : {T E A B : Type 0} (r : Result T E) → OnOk r A → (A → B) → OnOk r B
ok_then (Ok x) holds f = f holds
ok_then (Err e) holds f = tt

pub fee_within : (limit : ℕ) (ids : List ℕ) (fee : ℤ) (left : ℕ) (marks : List Bool) (gone : List Entry) → IsDraft limit ids fee left marks gone
    → unsigned_abs fee ≤ MAX_FEE * limit
fee_within limit ids fee left marks gone draft =
    let pays = draft.pays in
    let whole = draft.tells.size_is in
    omega (arith, pays, whole)

-- The draft has what is taken of the parts that don't come any more.
pub record IsSoFar (draft : Draft) (all rest : List Shown) : Type 0 where
  pub gone : List Entry
  pub cut : all ≡ shown_in gone ++ rest
  pub drafts : Drafts draft gone

-- where none that comes fits
pub filled_early : (draft : Draft) (all rest : List Shown) (least : ℕ) → IsSoFar draft all rest → draft.left < least
    → ((s : Shown) → Contains all s → least ≤ s.part.rate.size) → IsFilled draft all
filled_early draft all rest least so low large =
    let here : (s : Shown) → Contains rest s → least ≤ s.part.rate.size = λ s there.
    large s (subst (λ (ss : List Shown). Contains ss s) (sym so.cut) (Contains-append_right (shown_in so.gone) rest s there)) in (
      so.gone ++ left_out rest,
      shown_all draft.limit draft.ids.items draft.fee draft.left least so.gone rest ∙ sym so.cut,
      tells_all draft.limit draft.ids.items draft.fee draft.left least so.gone rest so.drafts.tells low here,
    )

-- the next part is in range for its size
pub next_paid : (draft : Draft) (all rest behind : List Shown) (s : Shown) → IsSoFar draft all rest → rest ≡ s ∷ behind
    → ArePaidBySize (map (λ (t : Shown). t.part) all) → unsigned_abs s.part.rate.fee ≤ MAX_FEE * s.part.rate.size
next_paid draft all rest behind s so is paid =
    paid s.part (Contains-map (λ (t : Shown). t.part) all s (subst (λ (ss : List Shown). Contains ss s) (sym so.cut)
    (Contains-append_right (shown_in so.gone) rest s (subst (λ (ss : List Shown). Contains ss s) (sym is) (Contains-head s behind)))))
