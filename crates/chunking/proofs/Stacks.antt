-- The stack of the rule: finished parts, and behind them the one that may still be joined to them.
use Rattle.std.proofs.Common.{◌≡◌, ℕ, ◌+◌, ◌-◌, ◌^◌, ◌<◌, ◌≤◌, List, [], ◌∷◌, ◌++◌, refl, sym, ap, ◌∙◌, subst, arith, length, take, get_or, set}
use Rattle.std.specs.Prelude.{All}
use Rattle.std.specs.List.{flat_map}
use Rattle.std.proofs.lemmas.List.{append-nil, append_assoc, length-append, take_more, take_more_set, same_from_push}
use Rattle.std.proofs.lemmas.List.Concat.{flat_map-append}
use Rattle.std.proofs.lemmas.List.Elements.{All-push, All-nil, All-head}
use Rattle.lists.proofs.Entries.{All-front, All-back}
use Rattle.fee_rate.specs.declared.rates.FeeRate.{FeeRate}
use Rattle.fee_rate.specs.declared.rates.Sum.{Sum}
use Rattle.fee_rate.specs.Laws.{joined}
use Rattle.fee_rate.specs.Limits.{IsRate, IsSum}
use Rattle.fee_rate.specs.Rates.{AtMost, Below}
use Rattle.chunking.specs.declared.chunks.Chunk.{Chunk}
use Rattle.chunking.specs.Chunkings.{sum_of, IsPart, Fall, AreChunks, chunks_from}
use Rattle.chunking.proofs.Fronts.{last_split}
use Rattle.chunking.proofs.Sums.{sum_of-append, Sized, sized, some_size, in_range}
use Rattle.chunking.proofs.Joins.{joined_part, single_part}

abbrev whole : List (List FeeRate) → List FeeRate
whole parts = flat_map (λ part. part) parts

-- the finished parts and the last one are the rates so far; the chunks show the finished ones
pub record Stack (rates : List FeeRate) (chunks : List Chunk) (sum : Sum) : Type 0 where
  pub done : List (List FeeRate)
  pub last : List FeeRate
  pub whole : flat_map (λ part. part) done ++ last ≡ rates
  pub each : All IsPart done
  pub fall : Fall done
  pub part : IsPart last
  pub shown : chunks ≡ chunks_from 0 done
  pub sum_is : sum ≡ sum_of last

-- ---- lists of chunks

chunks_from-push : (n : ℕ) (parts : List (List FeeRate)) (p : List FeeRate)
    → chunks_from n (parts ++ (p ∷ [])) ≡ chunks_from n parts ++ (record { end = n + (length (whole parts) + length p); sum = sum_of p } ∷ [])
chunks_from-push n [] p =
    let e : length p ≡ 0 + length p = omega arith in
    ap (λ m. record { end = n + m; sum = sum_of p } ∷ []) e
chunks_from-push n (q ∷ parts) p =
    let e : (n + length q) + (length (whole parts) + length p) ≡ n + (length (q ++ whole parts) + length p) = omega (arith, length-append q (whole parts)) in
    ap (λ l. record { end = n + length q; sum = sum_of q } ∷ l)
    (chunks_from-push (n + length q) parts p ∙ ap (λ m. chunks_from (n + length q) parts ++ (record { end = m; sum = sum_of p } ∷ [])) e)

whole-push : (parts : List (List FeeRate)) (p : List FeeRate) → whole (parts ++ (p ∷ [])) ≡ whole parts ++ p
whole-push parts p = flat_map-append (λ part. part) parts (p ∷ []) ∙ ap (λ l. whole parts ++ l) (append-nil p)

none_nil : (before : List (List FeeRate)) (a b : List FeeRate) (after : List (List FeeRate)) → before ++ (a ∷ b ∷ after) ≡ [] → ⊥
none_nil [] a b after e = cc
none_nil (x ∷ before) a b after e = cc

-- ---- falling rates
fall_nil : Fall []
fall_nil = record { neighbours = λ before a b after e. absurd (none_nil before a b after e) }

none_one : (p : List FeeRate) (before : List (List FeeRate)) (a b : List FeeRate) (after : List (List FeeRate)) → before ++ (a ∷ b ∷ after) ≡ p ∷ [] → ⊥
none_one p [] a b after e = let t : b ∷ after ≡ [] = (cc) in cc
none_one p (x ∷ []) a b after e = let t : a ∷ b ∷ after ≡ [] = (cc) in cc
none_one p (x ∷ y ∷ before) a b after e = let t : y ∷ (before ++ (a ∷ b ∷ after)) ≡ [] = (cc) in cc

fall_one : (p : List FeeRate) → Fall (p ∷ [])
fall_one p = record { neighbours = λ before a b after e. absurd (none_one p before a b after e) }

fall_front : (parts rest : List (List FeeRate)) → Fall (parts ++ rest) → Fall parts
fall_front parts rest h = record {
  neighbours = λ before a b after e. h.neighbours before a b (after ++ rest) (sym (append_assoc before (a ∷ b ∷ after) rest) ∙ ap (λ l. l ++ rest) e);
}

push_step : (xs : List (List FeeRate)) (p q : List FeeRate) → Fall (xs ++ (p ∷ [])) → AtMost (sum_of q) (sum_of p)
    → (before : List (List FeeRate)) (a b : List FeeRate) (after : List (List FeeRate))
    → before ++ (a ∷ b ∷ after) ≡ (xs ++ (p ∷ [])) ++ (q ∷ []) → AtMost (sum_of b) (sum_of a)
push_step xs p q h low before a b [] e =
    let shape : (before ++ (a ∷ [])) ++ (b ∷ []) ≡ (xs ++ (p ∷ [])) ++ (q ∷ []) = append_assoc before (a ∷ []) (b ∷ []) ∙ e in
    let (fronts, lasts) = same_from_push (before ++ (a ∷ [])) (xs ++ (p ∷ [])) b q shape in
    let (_, heads) = same_from_push before xs a p fronts in
    rw (lasts, heads) low
push_step xs p q h low before a b (c ∷ after) e =
    let (ys, y, f) = last_split c after in
    let shape : (before ++ (a ∷ b ∷ ys)) ++ (y ∷ []) ≡ (xs ++ (p ∷ [])) ++ (q ∷ []) =
    append_assoc before (a ∷ b ∷ ys) (y ∷ []) ∙ ap (λ l. before ++ (a ∷ b ∷ l)) (sym f) ∙ e
    in
    let (fronts, _) = same_from_push (before ++ (a ∷ b ∷ ys)) (xs ++ (p ∷ [])) y q shape in
    h.neighbours before a b ys fronts

fall_push : (xs : List (List FeeRate)) (p q : List FeeRate) → Fall (xs ++ (p ∷ [])) → AtMost (sum_of q) (sum_of p) → Fall ((xs ++ (p ∷ [])) ++ (q ∷ []))
fall_push xs p q h low = record { neighbours = push_step xs p q h low }

-- ---- the rule's steps
-- the next entry is a part of its own
pub stack_start : (rates : List FeeRate) (at : ℕ) (r : FeeRate) (chunks : List Chunk) (sum : Sum) → at < length rates
    → r ≡ get_or rates at r → sum ≡ sum_of (r ∷ []) → AreChunks (take at rates) chunks → Stack (take (at + 1) rates) chunks sum
stack_start rates at r chunks sum in' read is c = record {
  done = c.parts;
  last = r ∷ [];
  whole = ap (λ l. l ++ (r ∷ [])) c.chunking.whole ∙ sym (take_more rates at r in' ∙ ap (λ x. take at rates ++ (x ∷ [])) (sym read));
  each = c.chunking.each;
  fall = c.chunking.fall;
  part = single_part r;
  shown = c.shown;
  sum_is = is;
}

pub last_range : (rates : List FeeRate) (chunks : List Chunk) (sum : Sum) → All IsRate rates
    → length rates ≤ 2 ^ 20 → Stack rates chunks sum → IsSum sum × (1 ≤ sum.size)
last_range rates chunks sum fine few s =
    let f : All IsRate (whole s.done ++ s.last) = subst (All IsRate) (sym s.whole) fine in
    let e = ap length s.whole in
    let rest = All-back IsRate (whole s.done) s.last f in
    let here = in_range s.last rest (omega (arith, length-append (whole s.done) s.last)) in
    let some = some_size s.last (sized s.last rest) s.part.some in
    subst (λ x. IsSum x × (1 ≤ x.size)) (sym s.sum_is) (here, some)

-- the stack with its top taken off
pub record Popped (rates : List FeeRate) (chunks : List Chunk) (top sum : Sum) : Type 0 where
  pub rest : List (List FeeRate)
  pub part : List FeeRate
  pub last : List FeeRate
  pub whole : flat_map (λ p. p) rest ++ (part ++ last) ≡ rates
  pub each : All IsPart rest
  pub fall : Fall (rest ++ (part ∷ []))
  pub top_part : IsPart part
  pub last_part : IsPart last
  pub shown : chunks ≡ chunks_from 0 rest
  pub top_is : top ≡ sum_of part
  pub sum_is : sum ≡ sum_of last

record Split (chunks : List Chunk) (top : Chunk) (done : List (List FeeRate)) : Type 0 where
  pub rest : List (List FeeRate)
  pub part : List FeeRate
  pub shape : done ≡ rest ++ (part ∷ [])
  pub shown : chunks ≡ chunks_from 0 rest
  pub top_is : top.sum ≡ sum_of part

split : (chunks : List Chunk) (top : Chunk) (done : List (List FeeRate)) → chunks ++ (top ∷ []) ≡ chunks_from 0 done → Split chunks top done
split [] top [] e = cc
split (c ∷ chunks) top [] e = cc
split chunks top (q ∷ done) e =
    let (rest, part, shape) = last_split q done in
    let (fronts, tops) = same_from_push chunks (chunks_from 0 rest) top _ (e ∙ ap (chunks_from 0) shape ∙ chunks_from-push 0 rest part) in
    record { rest = rest; part = part; shape = shape; shown = fronts; top_is = ap (λ (c : Chunk). c.sum) tops }

popped_from : (rates : List FeeRate) (chunks all : List Chunk) (top : Chunk) (sum : Sum)
    → all ≡ chunks ++ (top ∷ []) → Stack rates all sum → Popped rates chunks top.sum sum
popped_from rates chunks all top sum e s =
    let p = split chunks top s.done (sym e ∙ s.shown) in
    let each : All IsPart (p.rest ++ (p.part ∷ [])) = subst (All IsPart) p.shape s.each in
    record {
      rest = p.rest;
      part = p.part;
      last = s.last;
      whole = sym (append_assoc (whole p.rest) p.part s.last) ∙ ap (λ l. l ++ s.last) (sym (whole-push p.rest p.part))
          ∙ ap (λ d. whole d ++ s.last) (sym p.shape) ∙ s.whole;
      each = All-front IsPart p.rest (p.part ∷ []) each;
      fall = subst Fall p.shape s.fall;
      top_part = All-head IsPart p.part [] (All-back IsPart p.rest (p.part ∷ []) each);
      last_part = s.part;
      shown = p.shown;
      top_is = p.top_is;
      sum_is = s.sum_is;
    }

pub popped : (rates : List FeeRate) (out : List Chunk) (n : ℕ) (d : Chunk) (sum : Sum) → 0 < n → n ≤ length out
    → Stack rates (take n out) sum → Popped rates (take (n - 1) out) (get_or out (n - 1) d).sum sum
popped rates out n d sum some room s =
    let e : n ≡ (n - 1) + 1 = omega arith in
    let in' : n - 1 < length out = omega arith in
    popped_from rates (take (n - 1) out) (take n out) (get_or out (n - 1) d) sum (ap (λ m. take m out) e ∙ take_more out (n - 1) d in') s

-- what is known of the top
pub record Fits (top sum : Sum) : Type 0 where
  pub here : IsSum top
  pub some : 1 ≤ top.size
  pub both : IsSum (joined top sum)

pub top_range : (rates : List FeeRate) (chunks : List Chunk) (top sum : Sum)
    → All IsRate rates → length rates ≤ 2 ^ 20 → Popped rates chunks top sum → Fits top sum
top_range rates chunks top sum fine few p =
    let f : All IsRate (whole p.rest ++ (p.part ++ p.last)) = subst (All IsRate) (sym p.whole) fine in
    let both : All IsRate (p.part ++ p.last) = All-back IsRate (whole p.rest) (p.part ++ p.last) f in
    let here : All IsRate p.part = All-front IsRate p.part p.last both in
    let n = ap length p.whole in
    let m = length-append (whole p.rest) (p.part ++ p.last) in
    let k = length-append p.part p.last in
    let top' : Sum = sum_of p.part in
    let fit : Fits (sum_of p.part) (sum_of p.last) = record {
      here = in_range p.part here (omega arith);
      some = some_size p.part (sized p.part here) p.top_part.some;
      both = subst IsSum (sum_of-append p.part p.last) (in_range (p.part ++ p.last) both (omega arith));
    } in
    subst (λ s. Fits top s) (sym p.sum_is) (subst (λ t. Fits t (sum_of p.last)) (sym p.top_is) fit)

-- the top joined to the last part
pub stack_join : (rates : List FeeRate) (chunks : List Chunk) (top sum new : Sum) → All IsRate rates
    → Popped rates chunks top sum → Below top sum → new ≡ joined top sum → Stack rates chunks new
stack_join rates chunks top sum new fine p rise e =
    let f : All IsRate (whole p.rest ++ (p.part ++ p.last)) = subst (All IsRate) (sym p.whole) fine in
    let both : Sized (p.part ++ p.last) = sized (p.part ++ p.last) (All-back IsRate (whole p.rest) (p.part ++ p.last) f) in
    let rise' : Below (sum_of p.part) (sum_of p.last) = subst (λ s. Below (sum_of p.part) s) p.sum_is (subst (λ t. Below t sum) p.top_is rise) in
    record {
      done = p.rest;
      last = p.part ++ p.last;
      whole = p.whole;
      each = p.each;
      fall = fall_front p.rest (p.part ∷ []) p.fall;
      part = joined_part p.part p.last p.top_part p.last_part (All-front (λ r. 1 ≤ r.size) p.part p.last both)
          (All-back (λ r. 1 ≤ r.size) p.part p.last both) rise';
      shown = p.shown;
      sum_is = e ∙ ap (λ t. joined t sum) p.top_is ∙ ap (λ s. joined (sum_of p.part) s) p.sum_is ∙ sym (sum_of-append p.part p.last);
    }

-- the last part put on the stack
finish : (rates : List FeeRate) (done : List (List FeeRate)) (last : List FeeRate) (chunks after : List Chunk) (c : Chunk)
    → whole done ++ last ≡ rates → All IsPart done → IsPart last → Fall (done ++ (last ∷ [])) → chunks ≡ chunks_from 0 done
    → c.end ≡ length rates → c.sum ≡ sum_of last → after ≡ chunks ++ (c ∷ []) → AreChunks rates after
finish rates done last chunks after c w each part fall shown end sum e =
    let l : 0 + (length (whole done) + length last) ≡ length rates = omega (arith, length-append (whole done) last, ap length w) in
    let c_is : c ≡ record { end = 0 + (length (whole done) + length last); sum = sum_of last } =
    ap (λ n. let k : Chunk = record { end = n; sum = c.sum } in k) (end ∙ sym l)
    ∙ ap (λ s. let k : Chunk = record { end = 0 + (length (whole done) + length last); sum = s } in k) sum in
    record {
      parts = done ++ (last ∷ []);
      chunking = record { whole = whole-push done last ∙ w; each = All-push IsPart done last each part; fall = fall };
      shown = e ∙ ap (λ x. x ++ (c ∷ [])) shown ∙ ap (λ x. chunks_from 0 done ++ (x ∷ [])) c_is ∙ sym (chunks_from-push 0 done last);
    }

bare : (parts : List (List FeeRate)) → chunks_from 0 parts ≡ [] → parts ≡ []
bare [] e = refl
bare (p ∷ parts) e = cc

-- at the bottom
pub end_alone : (rates : List FeeRate) (out : List Chunk) (n : ℕ) (c : Chunk) → 0 < length out → n ≡ 0
    → c.end ≡ length rates → Stack rates (take n out) c.sum → AreChunks rates (take (n + 1) (set out n c))
end_alone rates out n c room zero' end s =
    let chunks : take n out ≡ [] = ap (λ m. take m out) zero' in
    let none : s.done ≡ [] = bare s.done (sym s.shown ∙ chunks) in
    let fall : Fall (s.done ++ (s.last ∷ [])) = subst (λ d. Fall (d ++ (s.last ∷ []))) (sym none) (fall_one s.last) in
    finish rates s.done s.last (take n out) _ c s.whole s.each s.part fall s.shown end s.sum_is (take_more_set out n c (omega arith))

fall_behind : (chunks : List Chunk) (top : Chunk) (done : List (List FeeRate)) (last : List FeeRate) (sum : Sum)
    → Split chunks top done → Fall done → sum ≡ sum_of last → AtMost sum top.sum → Fall (done ++ (last ∷ []))
fall_behind chunks top done last sum p fall is low =
    let low' : AtMost (sum_of last) (sum_of p.part) = subst (λ x. AtMost x (sum_of p.part)) is (subst (λ x. AtMost sum x) p.top_is low) in
    subst (λ x. Fall (x ++ (last ∷ []))) (sym p.shape) (fall_push p.rest p.part last (subst Fall p.shape fall) low')

-- on a top that is not lower
pub end_behind : (rates : List FeeRate) (out : List Chunk) (n : ℕ) (c : Chunk) (d : Chunk) → 0 < n → n < length out → c.end ≡ length rates
    → AtMost c.sum (get_or out (n - 1) d).sum → Stack rates (take n out) c.sum → AreChunks rates (take (n + 1) (set out n c))
end_behind rates out n c d some room end low s =
    let e : n ≡ (n - 1) + 1 = omega arith in
    let in' : n - 1 < length out = omega arith in
    let top = get_or out (n - 1) d in
    let p = split (take (n - 1) out) top s.done (sym (ap (λ m. take m out) e ∙ take_more out (n - 1) d in') ∙ s.shown) in
    let fall = fall_behind _ _ s.done s.last c.sum p s.fall s.sum_is low in
    finish rates s.done s.last (take n out) _ c s.whole s.each s.part fall s.shown end s.sum_is (take_more_set out n c room)

pub none_yet : (out : List Chunk) → AreChunks [] (take 0 out)
none_yet out = record {
  parts = [];
  chunking = record { whole = refl; each = All-nil IsPart; fall = fall_nil };
  shown = refl;
}
