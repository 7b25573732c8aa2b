-- What is left of some clusters without some names, and of one more.
use Rattle.std.proofs.Common.{◌≡◌, ℕ, ◌-◌, ◌<◌, true, List, [], ◌∷◌, ◌++◌, length, get_or, Contains, inl, inr, ◌⊎◌, ◌↔◌, refl, sym, ap, ◌∙◌, subst, subst₂, arith, length-append}
use Rattle.std.specs.List.{AllPairs}
use Rattle.std.proofs.lemmas.Bool.{cases_lt}
use Rattle.std.proofs.lemmas.List.{get_or_append_left, get_or-append_right}
use Rattle.std.proofs.lemmas.List.Elements.{Contains-append_left, Contains-append_right, Contains-append_cases, Contains-get_or}
use Rattle.lists.proofs.Entries.{Contains-head, Contains-one}
use Rattle.graphs.specs.Closures.{is_ancestor, rate_of}
use Rattle.cluster.specs.Changes.{IsAncestorIn, IsSplit}
use Rattle.cluster.specs.Clusters.{Cluster}
use Rattle.record.specs.Records.{IsConnected}
use Rattle.levels.specs.Changes.{IsNamed}
use Rattle.levels.specs.Moves.{DropsIn}
use Rattle.levels.proofs.Making.{named_one, one_named}

-- ---- lists

pub pairs_joined : {A : Type 0} (R : A → A → Type 0) (xs ys : List A) → AllPairs R xs → AllPairs R ys
    → ((x y : A) → Contains xs x → Contains ys y → R x y) → AllPairs R (xs ++ ys)
pairs_joined R xs ys first second across i j d before low = elim (cases_lt j (length xs)) [
  | inl early ↦
      subst₂ R (sym (get_or_append_left xs ys d i (omega (arith, before, early)))) (sym (get_or_append_left xs ys d j early)) (first i j d before early)
  | inr late ↦
      let there : j - length xs < length ys = omega (arith, late, low, length-append xs ys) in
      elim (cases_lt i (length xs)) [
        | inl early ↦ subst₂ R (sym (get_or_append_left xs ys d i early)) (sym (get_or-append_right xs ys (length xs) j d refl late))
            (across (get_or xs i d) (get_or ys (j - length xs) d) (Contains-get_or xs i d early) (Contains-get_or ys (j - length xs) d there))
        | inr beyond ↦ subst₂ R (sym (get_or-append_right xs ys (length xs) i d refl beyond)) (sym (get_or-append_right xs ys (length xs) j d refl late))
            (second (i - length xs) (j - length xs) d (omega (arith, before, beyond)) there)
      ]
]

pub empty_of : {A : Type 0} (xs : List A) → ((x : A) → Contains xs x → ⊥) → xs ≡ []
empty_of [] none = refl
empty_of (x ∷ xs) none = absurd (none x (Contains-head x xs))

-- ---- names of clusters

named_left : (xs ys : List Cluster) (id : ℕ) → IsNamed xs id → IsNamed (xs ++ ys) id
named_left xs ys id (c, there, here) = (c, Contains-append_left xs ys c there, here)

named_right : (xs ys : List Cluster) (id : ℕ) → IsNamed ys id → IsNamed (xs ++ ys) id
named_right xs ys id (c, there, here) = (c, Contains-append_right xs ys c there, here)

named_cases : (xs ys : List Cluster) (id : ℕ) → IsNamed (xs ++ ys) id → IsNamed xs id ⊎ IsNamed ys id
named_cases xs ys id (c, there, here) = elim (Contains-append_cases xs ys c there) [ inl one ↦ inl (c, one, here) | inr two ↦ inr (c, two, here) ]

above_left : (xs ys : List Cluster) (a d : ℕ) → IsAncestorIn xs a d → IsAncestorIn (xs ++ ys) a d
above_left xs ys a d (c, there, up) = (c, Contains-append_left xs ys c there, up)

above_right : (xs ys : List Cluster) (a d : ℕ) → IsAncestorIn ys a d → IsAncestorIn (xs ++ ys) a d
above_right xs ys a d (c, there, up) = (c, Contains-append_right xs ys c there, up)

above_cases : (xs ys : List Cluster) (a d : ℕ) → IsAncestorIn (xs ++ ys) a d → IsAncestorIn xs a d ⊎ IsAncestorIn ys a d
above_cases xs ys a d (c, there, up) = elim (Contains-append_cases xs ys c there) [ inl one ↦ inl (c, one, up) | inr two ↦ inr (c, two, up) ]

-- where one is an ancestor of another in whole clusters, both are names
ends_named : (xs : List Cluster) → ((c : Cluster) → Contains xs c → IsConnected c) → (a d : ℕ) → IsAncestorIn xs a d
    → IsNamed xs a × IsNamed xs d
ends_named xs whole a d (c, there, up) =
    let cluster = whole c there in
    let ends = cluster.order.among a d up in
    ((c, there, (cluster.members a).0 ends.0), (c, there, (cluster.members d).0 ends.1))

-- ---- what is told of the entries of lists alone

-- other lists of the same clusters and names
pub drops_same : (olds news news' : List Cluster) (gone gone' : List ℕ) → ((c : Cluster) → Contains news c ↔ Contains news' c)
    → ((id : ℕ) → Contains gone id ↔ Contains gone' id) → DropsIn olds news gone → DropsIn olds news' gone'
drops_same olds news news' gone gone' alike so drops = record {
  each = λ c there. let lost = drops.each c there in (lost.0, (so lost.0).0 lost.1, lost.2);
  names = λ id. (
    λ (c, there, here).
        let was = (drops.names id).0 (c, (alike c).1 there, here) in (was.0, λ lost. was.1 ((so id).1 lost)),
    λ (named, kept).
        let now = (drops.names id).1 (named, λ lost. kept ((so id).0 lost)) in (now.0, (alike now.0).0 now.1, now.2),
  );
  rates = λ c there id here b was held. drops.rates c ((alike c).1 there) id here b was held;
  ancestors = λ a d. (
    λ (c, there, up).
        let was = (drops.ancestors a d).0 (c, (alike c).1 there, up) in
        (λ lost. was.0 ((so a).1 lost), λ lost. was.1 ((so d).1 lost), was.2),
    λ (first, second, up).
        let now = (drops.ancestors a d).1 (λ lost. first ((so a).0 lost), λ lost. second ((so d).0 lost), up) in (now.0, (alike now.0).0 now.1, now.2),
  );
}

-- ---- both of two changes of other clusters

module _ (olds more news pieces : List Cluster) (gone run : List ℕ) (first : DropsIn olds news gone) (second : DropsIn more pieces run)
    (olds_whole : (c : Cluster) → Contains olds c → IsConnected c) (more_whole : (c : Cluster) → Contains more c → IsConnected c)
    (apart : (id : ℕ) → IsNamed olds id → IsNamed more id → ⊥)
    (gone_in : (id : ℕ) → Contains gone id → IsNamed more id → ⊥) (run_in : (id : ℕ) → Contains run id → IsNamed olds id → ⊥) where
  names_both : (id : ℕ) → IsNamed (news ++ pieces) id ↔ (IsNamed (olds ++ more) id × (Contains (gone ++ run) id → ⊥))
  names_both id = (
    λ named. elim (named_cases news pieces id named) [
      | inl one ↦
          let was = (first.names id).0 one in
          (named_left olds more id was.0, λ lost. elim (Contains-append_cases gone run id lost) [ inl early ↦ was.1 early | inr late ↦ run_in id late was.0 ])
      | inr two ↦
          let was = (second.names id).0 two in
          (named_right olds more id was.0, λ lost. elim (Contains-append_cases gone run id lost) [ inl early ↦ gone_in id early was.0 | inr late ↦ was.1 late ])
    ],
    λ (named, kept). elim (named_cases olds more id named) [
      | inl one ↦ named_left news pieces id ((first.names id).1 (one, λ lost. kept (Contains-append_left gone run id lost)))
      | inr two ↦ named_right news pieces id ((second.names id).1 (two, λ lost. kept (Contains-append_right gone run id lost)))
    ],
  )

  above_both : (a d : ℕ) → IsAncestorIn (news ++ pieces) a d
      ↔ ((Contains (gone ++ run) a → ⊥) × (Contains (gone ++ run) d → ⊥) × IsAncestorIn (olds ++ more) a d)
  above_both a d = (
    λ up. elim (above_cases news pieces a d up) [
      | inl one ↦
          let was = (first.ancestors a d).0 one in
          let ends = ends_named olds olds_whole a d was.2 in (
            λ lost. elim (Contains-append_cases gone run a lost) [ inl early ↦ was.0 early | inr late ↦ run_in a late ends.0 ],
            λ lost. elim (Contains-append_cases gone run d lost) [ inl early ↦ was.1 early | inr late ↦ run_in d late ends.1 ],
            above_left olds more a d was.2,
          )
      | inr two ↦
          let was = (second.ancestors a d).0 two in
          let ends = ends_named more more_whole a d was.2 in (
            λ lost. elim (Contains-append_cases gone run a lost) [ inl early ↦ gone_in a early ends.0 | inr late ↦ was.0 late ],
            λ lost. elim (Contains-append_cases gone run d lost) [ inl early ↦ gone_in d early ends.1 | inr late ↦ was.1 late ],
            above_right olds more a d was.2,
          )
    ],
    λ (a_kept, d_kept, up). elim (above_cases olds more a d up) [
      | inl one ↦ above_left news pieces a d ((first.ancestors a d).1
          (λ lost. a_kept (Contains-append_left gone run a lost), λ lost. d_kept (Contains-append_left gone run d lost), one))
      | inr two ↦ above_right news pieces a d ((second.ancestors a d).1
          (λ lost. a_kept (Contains-append_right gone run a lost), λ lost. d_kept (Contains-append_right gone run d lost), two))
    ],
  )

  pub drops_both : DropsIn (olds ++ more) (news ++ pieces) (gone ++ run)
  drops_both = record {
    each = λ c there. elim (Contains-append_cases olds more c there) [
      | inl one ↦ let lost = first.each c one in (lost.0, Contains-append_left gone run lost.0 lost.1, lost.2)
      | inr two ↦ let lost = second.each c two in (lost.0, Contains-append_right gone run lost.0 lost.1, lost.2)
    ];
    names = names_both;
    rates = λ c there id here b was held. elim (Contains-append_cases news pieces c there) [
      | inl one ↦ elim (Contains-append_cases olds more b was) [
        | inl early ↦ first.rates c one id here b early held
        | inr late ↦ absurd (apart id ((first.names id).0 (c, one, here)).0 (b, late, held))
      ]
      | inr two ↦ elim (Contains-append_cases olds more b was) [
        | inl early ↦ absurd (apart id (b, early, held) ((second.names id).0 (c, two, here)).0)
        | inr late ↦ second.rates c two id here b late held
      ]
    ];
    ancestors = above_both;
  }

-- ---- what is left of one cluster

module _ (c : Cluster) (run : List ℕ) (pieces : List Cluster) (cluster : IsConnected c)
    (whole : (d : Cluster) → Contains pieces d → IsConnected d) (split : IsSplit c.graph run pieces)
    (inside : (id : ℕ) → Contains run id → Contains c.names id) (some : (id : ℕ) × Contains run id) where
  piece_names : (id : ℕ) → IsNamed pieces id ↔ (Contains c.names id × (Contains run id → ⊥))
  piece_names id = (
    λ (d, there, here).
        let one = whole d there in
        let was = (split.ancestors id id).0 (d, there, one.order.reflexive id ((one.members id).1 here)) in
        ((cluster.members id).0 (cluster.order.among id id was.2).0, was.0),
    λ (here, kept).
        let now = (split.ancestors id id).1 (kept, kept, cluster.order.reflexive id ((cluster.members id).1 here)) in
        let one = whole now.0 now.1 in
        (now.0, now.1, (one.members id).0 (one.order.among id id now.2).0),
  )

  itself : (b : Cluster) → Contains (c ∷ []) b → c ≡ b
  itself b there = Contains-one c b there

  pub drops_one : DropsIn (c ∷ []) pieces run
  drops_one = record {
    each = λ b there. (some.0, some.1, subst (λ (x : Cluster). Contains x.names some.0) (itself b there) (inside some.0 some.1));
    names = λ id. (
      λ named. let was = (piece_names id).0 named in (one_named c id was.0, was.1),
      λ (named, kept). (piece_names id).1 (named_one c id named, kept),
    );
    rates = λ d there id here b was held.
        split.rates d there id here ∙ ap (λ (x : Cluster). rate_of x.graph id) (itself b was);
    ancestors = λ a d. (
      λ up. let was = (split.ancestors a d).0 up in (was.0, was.1, (c, Contains-head c [], was.2)),
      λ (first, second, (b, there, up)).
          (split.ancestors a d).1 (first, second, subst (λ (x : Cluster). is_ancestor x.graph a d ≡ true) (sym (itself b there)) up),
    );
  }

  pub piece_in : (d : Cluster) → Contains pieces d → (id : ℕ) → Contains d.names id → Contains c.names id
  piece_in d there id here = ((piece_names id).0 (d, there, here)).0
