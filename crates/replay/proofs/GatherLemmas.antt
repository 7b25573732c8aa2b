-- Replies that gather before a sink.
use Rattle.std.proofs.Common.{◌≡◌, ℕ, ◌+◌, ◌≤◌, List, [], ◌++◌, length, take, drop, Option, None, Some, Result, Ok, Err, refl, sym, ap, subst, ◌∙◌, arith, append_assoc, append-nil, length-drop, take-append-drop}
use Rattle.std.proofs.lemmas.List.{take_at, append_cancel_left}
use Rattle.std.specs.Io.KnownBytes.{Appends, append_known}
use Rattle.std.proofs.KnownBytes.{Appends-trans, Appends-nil}
use Rattle.outside.specs.Transfers.{AppendsFront, Writes}
use Rattle.replay.specs.Gatherings.{Grows, Sends, HasSent, Gathers}
use lib.Seq.{take-add}

-- one more write took bytes behind those that went out
pub sent_more : (items : List ℕ) (at count : ℕ) (a b c : Option (List ℕ)) (piece : List ℕ) → piece ≡ drop at items
    → Appends a b (take at items) → Appends b c (take count piece) → Appends a c (take (at + count) items)
sent_more items at count a b c piece is one two =
    subst (λ (bytes : List ℕ). Appends a c bytes) (ap (λ (bytes : List ℕ). take at items ++ take count bytes) is ∙ sym (take-add at count items))
    (Appends-trans a b c (take at items) (take count piece) one two)

-- what is left after the bytes that went out were turned to the end and dropped
pub left_behind : (items turned left : List ℕ) (at n : ℕ) → at ≤ length items → turned ≡ drop at items ++ take at items
    → left ≡ take n turned → n + at ≡ length items → items ≡ take at items ++ left
left_behind items turned left at n within turn cut sum =
    sym (take-append-drop at items) ∙ ap (λ (bytes : List ℕ). take at items ++ bytes)
    (sym (cut ∙ ap (take n) turn ∙ take_at (drop at items) (take at items) n (omega (arith, length-drop at items))))

pub grows_on : (a b c : Option (List ℕ)) → Grows a b → Grows b c → Grows a c
grows_on a b c one two = (one.0 ++ two.0, Appends-trans a b c one.0 two.0 one.1 two.1)

pub grows_none : (a : Option (List ℕ)) → Grows a a
grows_none a = ([], Appends-nil a)

pub sends_none : (a : Option (List ℕ)) (held : List ℕ) → Sends a a held held
sends_none a held = ([], refl, Appends-nil a)

-- What went out is a front of what was held and of the text, where together with what is held now it is a front of both.
out_of_both : (x y held now part : List ℕ) (grown : List ℕ) → y ≡ x ++ grown → y ++ now ≡ (x ++ held) ++ part → grown ++ now ≡ held ++ part
out_of_both x y held now part grown more whole =
    append_cancel_left x (grown ++ now) (held ++ part)
    (sym (append_assoc x grown now) ∙ (ap (λ (bytes : List ℕ). bytes ++ now) (sym more) ∙ whole ∙ append_assoc x held part))

front_of_both : (a b : Option (List ℕ)) (held now text : List ℕ) → Grows a b
    → AppendsFront (append_known a held) (append_known b now) text → AppendsFront a b (held ++ text)
front_of_both None b held now text grows part = ([], (held ++ text, refl), tt)
front_of_both (Some x) None held now text grows part = absurd grows.1
front_of_both (Some x) (Some y) held now text grows part =
    let out = out_of_both x y held now part.0 grows.0 grows.1 part.2 in (
      grows.0,
      (
        now ++ part.1.0,
        sym (append_assoc grows.0 now part.1.0) ∙ ap (λ (bytes : List ℕ). bytes ++ part.1.0) out
            ∙ append_assoc held part.0 part.1.0 ∙ ap (λ (bytes : List ℕ). held ++ bytes) part.1.1,
      ),
      grows.1,
    )

all_of_both : (a b : Option (List ℕ)) (held now text : List ℕ) → Grows a b
    → Appends (append_known a held) (append_known b now) text → HasSent a b (held ++ text) now
all_of_both None b held now text grows whole = tt
all_of_both (Some x) None held now text grows whole = absurd grows.1
all_of_both (Some x) (Some y) held now text grows whole = (grows.0, sym (out_of_both x y held now text grows.0 grows.1 whole), grows.1)

-- a text was written to the sink before the sink
pub gathers_of : {T E : Type 0} (a b old new : Option (List ℕ)) (held left text : List ℕ) (p q : ℕ) (result : Result T E)
    → old ≡ append_known a held → new ≡ append_known b left → Writes old new p q result text → Grows a b → Gathers a b held left result text
gathers_of a b old new held left text p q (Ok value) first second writes grows =
    record {
      ok = all_of_both a b held left text grows
          (subst (λ (o : Option (List ℕ)). Appends o (append_known b left) text) first
          (subst (λ (n : Option (List ℕ)). Appends old n text) second writes.ok));
      err = tt;
    }
gathers_of a b old new held left text p q (Err error) first second writes grows =
    record {
      ok = tt;
      err = front_of_both a b held left text grows
          (subst (λ (o : Option (List ℕ)). AppendsFront o (append_known b left) text) first
          (subst (λ (n : Option (List ℕ)). AppendsFront old n text) second writes.err));
    }

-- ---- what went out since the first
pub sent_nothing : (a : Option (List ℕ)) → HasSent a a [] []
sent_nothing None = tt
sent_nothing (Some x) = ([], refl, sym (append-nil x))

pub sent_on : (a b c : Option (List ℕ)) (all held text left : List ℕ) → HasSent a b all held → HasSent b c (held ++ text) left → HasSent a c (all ++ text) left
sent_on None b c all held text left one two = tt
sent_on (Some x) None c all held text left one two = absurd one
sent_on (Some x) (Some y) None all held text left one two = absurd two
sent_on (Some x) (Some y) (Some z) all held text left one two = (
  one.0 ++ two.0,
  ap (λ (bytes : List ℕ). bytes ++ text) one.1 ∙ append_assoc one.0 held text
      ∙ ap (λ (bytes : List ℕ). one.0 ++ bytes) two.1 ∙ sym (append_assoc one.0 two.0 left),
  two.2 ∙ ap (λ (bytes : List ℕ). bytes ++ two.0) one.2 ∙ append_assoc x one.0 two.0,
)

pub sent_more_of : (a b c : Option (List ℕ)) (all held left : List ℕ) → HasSent a b all held → Sends b c held left → HasSent a c all left
sent_more_of None b c all held left one two = tt
sent_more_of (Some x) None c all held left one two = absurd one
sent_more_of (Some x) (Some y) None all held left one two = absurd two.2
sent_more_of (Some x) (Some y) (Some z) all held left one two = (
  one.0 ++ two.0,
  one.1 ∙ ap (λ (bytes : List ℕ). one.0 ++ bytes) two.1 ∙ sym (append_assoc one.0 two.0 left),
  two.2 ∙ ap (λ (bytes : List ℕ). bytes ++ two.0) one.2 ∙ append_assoc x one.0 two.0,
)

-- all went out
pub sent_all : (a b c : Option (List ℕ)) (all held : List ℕ) → HasSent a b all held → Appends b c held → Appends a c all
sent_all None b c all held one two = tt
sent_all (Some x) None c all held one two = absurd one
sent_all (Some x) (Some y) None all held one two = absurd two
sent_all (Some x) (Some y) (Some z) all held one two = two ∙ ap (λ (bytes : List ℕ). bytes ++ held) one.2
    ∙ append_assoc x one.0 held ∙ ap (λ (bytes : List ℕ). x ++ bytes) (sym one.1)

-- a front of all went out
pub sent_front : (a b c : Option (List ℕ)) (all held text : List ℕ) → HasSent a b all held → AppendsFront b c (held ++ text) → AppendsFront a c (all ++ text)
sent_front None b c all held text one two = ([], (all ++ text, refl), tt)
sent_front (Some x) None c all held text one two = absurd one
sent_front (Some x) (Some y) None all held text one two = absurd two.2
sent_front (Some x) (Some y) (Some z) all held text one two = (
  one.0 ++ two.0,
  (
    two.1.0,
    append_assoc one.0 two.0 two.1.0 ∙ ap (λ (bytes : List ℕ). one.0 ++ bytes) two.1.1
        ∙ sym (append_assoc one.0 held text) ∙ ap (λ (bytes : List ℕ). bytes ++ text) (sym one.1),
  ),
  two.2 ∙ ap (λ (bytes : List ℕ). bytes ++ two.0) one.2 ∙ append_assoc x one.0 two.0,
)
