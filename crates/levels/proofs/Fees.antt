-- A name gets another fee in the clusters that the levels have of it.
use Rattle.std.proofs.Common.{◌≡◌, ◌≢◌, ℕ, ℤ, ◌*◌, List, [], ◌∷◌, map, Contains, Option, Some, None, IsSome, is_some, inl, inr, ◌⊎◌, refl, sym, ap, ◌∙◌, subst, true≢false, SFits, w64, of_z, to_z}
use Rattle.std.specs.Prelude.{option_map, option_to_list}
use Rattle.std.proofs.lemmas.Int.{to_z-of_z}
use Rattle.std.proofs.lemmas.Option.{none-some, same_Some}
use Rattle.std.specs.FinMap as finmap
use Rattle.lists.specs.Distinct.{AreDistinct}
use Rattle.lists.proofs.Entries.{map-Contains, Contains-cases, Contains-head, Contains-later, none_in_empty}
use Rattle.fee_rate.specs.declared.rates.FeeRate.{FeeRate}
use Rattle.graphs.specs.declared.names.Level.{Level}
use Rattle.graphs.specs.declared.names.Level.TheVariants.{Main, Top}
use Rattle.graphs.specs.Closures.{Closure, rate_of, SetsFee}
use Rattle.cluster.specs.Clusters.{Cluster}
use Rattle.cluster_store.specs.Changes.{ExchangesEach}
use Rattle.cluster_store.specs.Stores.{Exchange, Stored}
use Rattle.levels.specs.Moves.{AreNumbersOf, ArePriced, IsPriced, SetsFeeAt, SetsFees}
use Rattle.levels.specs.Shelves.{Shelf, IsInOrder, numbers_at, seen_at, stored_at, view_of}
use Rattle.levels.specs.Tops.{HaveSameNames}
use Rattle.cluster_store.proofs.Listed.{only_one}
use Rattle.levels.proofs.Graphs.{cases_option}
use Rattle.levels.proofs.Exchanging.{IsExchanged, by_number, exchanged_at, rebuilds_swapped}
use Rattle.levels.proofs.Ordered.{fitted_record}
use Rattle.levels.proofs.Finds.{indexed_at}
use Rattle.cluster_store.proofs.Seen.{same_seen}
use Rattle.levels.proofs.Seen.{seen_is_stored}

-- two numbers with the same bits are the same
same_reading : (x y : ℤ) → SFits w64 x → SFits w64 y → of_z w64 x ≡ of_z w64 y → x ≡ y
same_reading x y one two same = sym (to_z-of_z w64 x one) ∙ ap (to_z w64) same ∙ to_z-of_z w64 y two

-- the fee that a cluster answers of a name, against another
module _ (rate : FeeRate) (c : Cluster) (id : ℕ) (fee : ℤ) (told : rate ≡ rate_of c.graph id) where
  pub same_bits : (rate_of c.graph id).fee ≡ fee → of_z w64 rate.fee ≡ of_z w64 fee
  same_bits same = ap (λ (r : FeeRate). of_z w64 r.fee) told ∙ ap (of_z w64) same

  pub same_fee : SFits w64 rate.fee → SFits w64 fee → of_z w64 rate.fee ≡ of_z w64 fee → (rate_of c.graph id).fee ≡ fee
  same_fee one two same = ap (λ (r : FeeRate). r.fee) (sym told) ∙ same_reading rate.fee fee one two same

-- a fee that is the same
sets_same : (g : Closure) (id : ℕ) (fee : ℤ) → (rate_of g id).fee ≡ fee → SetsFee g g id fee
sets_same g id fee same = record {
  members = λ p. refl;
  rate_is = λ i. record { fee = same i; size = (rate_of g id).size };
  rates = λ p other. refl;
  ancestors = λ a d. refl;
}

-- ---- the clusters that have the name

-- each level that has the name has this fee for it
abbrev pub HaveFee : ℕ → ℤ → Shelf → Type 0
HaveFee id fee shelf =
    (level : Level) (n : ℕ) (c : Cluster) → finmap.get (numbers_at level shelf) id ≡ Some n → seen_at level shelf.store.clusters n ≡ Some c
    → (rate_of c.graph id).fee ≡ fee

-- the name has one rate in both levels
abbrev pub HasOneRate : ℕ → Shelf → Type 0
HasOneRate id shelf =
    (n m : ℕ) (c d : Cluster) → finmap.get (numbers_at Main shelf) id ≡ Some n → finmap.get (numbers_at Top shelf) id ≡ Some m
    → seen_at Main shelf.store.clusters n ≡ Some c → seen_at Top shelf.store.clusters m ≡ Some d → rate_of c.graph id ≡ rate_of d.graph id

-- a shelf that stays as it is where the fee is the same
pub fees_same : (w id : ℕ) (fee : ℤ) (shelf : Shelf) → IsInOrder w shelf → HaveFee id fee shelf → SetsFees w id fee shelf shelf
fees_same w id fee shelf order have = record { main = at Main; top = at Top; numbers = refl; staging = refl; limits = refl }
  where
    at : (level : Level) → SetsFeeAt w id fee level shelf shelf
    at level = record {
      here = λ number was is seen. let indexed = indexed_at w shelf order level in (
        was,
        refl,
        sets_same was.graph id fee (have level number was is seen),
        rebuilds_swapped (64 * w) number was was (view_of level shelf) (view_of level shelf) indexed refl (indexed.whole number was seen) refl seen seen
            (λ n other. refl),
      );
      away = λ none n. refl;
    }

-- the numbers that the levels have for the name
pub numbers_one : (id first : ℕ) (shelf : Shelf) (level : Level) → finmap.get (numbers_at level shelf) id ≡ Some first
    → (finmap.get (numbers_at Main shelf) id ≡ None) ⊎ (finmap.get (numbers_at Main shelf) id ≡ Some first)
    → (finmap.get (numbers_at Top shelf) id ≡ None) ⊎ (finmap.get (numbers_at Top shelf) id ≡ Some first) → AreNumbersOf id first None shelf
numbers_one id first shelf level is main top = record {
  level = level;
  first_is = is;
  one = λ none l. from l;
  two = λ number some. absurd (none-some number some);
}
  where
    from : (l : Level) → (finmap.get (numbers_at l shelf) id ≡ None) ⊎ (finmap.get (numbers_at l shelf) id ≡ Some first)
    from Main = main
    from Top = top

pub numbers_apart : (id main top : ℕ) (shelf : Shelf) → finmap.get (numbers_at Main shelf) id ≡ Some main → finmap.get (numbers_at Top shelf) id ≡ Some top
    → main ≢ top → AreNumbersOf id main (Some top) shelf
numbers_apart id main top shelf one two apart = record {
  level = Main;
  first_is = one;
  one = λ none. absurd (none-some top (sym none));
  two = λ number is. let same = same_Some top number is in (one, two ∙ ap Some same, λ e. apart (e ∙ sym same));
}

pub numbers_none : (id : ℕ) (shelf : Shelf) → finmap.get (numbers_at Main shelf) id ≡ None → finmap.get (numbers_at Top shelf) id ≡ None
    → (IsSome (finmap.get (numbers_at Main shelf) id) ⊎ IsSome (finmap.get (numbers_at Top shelf) id)) → ⊥
numbers_none id shelf main top live = elim live [
  | inl some ↦ true≢false (sym some ∙ ap is_some main)
  | inr some ↦ true≢false (sym some ∙ ap is_some top)
]

module _ (w id first : ℕ) (second : Option ℕ) (shelf : Shelf) (order : IsInOrder w shelf) (are : AreNumbersOf id first second shelf) where
  pub first_there : (c : Cluster) × (stored_at shelf.store.clusters first ≡ Some c) × Contains c.names id
  first_there =
      let at = (indexed_at w shelf order are.level).stands id first are.first_is in
      (at.cluster, seen_is_stored are.level shelf.store.clusters first at.cluster at.there, at.here)

  pub second_there : (number : ℕ) → second ≡ Some number → (c : Cluster) × (stored_at shelf.store.clusters number ≡ Some c) × Contains c.names id
  second_there number is =
      let at = order.top.stands id number (are.two number is).1 in
      (at.cluster, seen_is_stored Top shelf.store.clusters number at.cluster at.there, at.here)

  -- a level that has the name has one of the numbers for it
  pub all_numbers : (level : Level) (n : ℕ) → finmap.get (numbers_at level shelf) id ≡ Some n → Contains (first ∷ option_to_list second) n
  all_numbers level n is = from second refl
    where
      as_two : (number : ℕ) → second ≡ Some number → (l : Level) → finmap.get (numbers_at l shelf) id ≡ Some n → (n ≡ first) ⊎ (n ≡ number)
      as_two number two Main at = inl (same_Some n first (sym at ∙ (are.two number two).0))
      as_two number two Top at = inr (same_Some n number (sym at ∙ (are.two number two).1))

      from : (o : Option ℕ) → second ≡ o → Contains (first ∷ option_to_list second) n
      from None one = subst (λ o. Contains (first ∷ option_to_list o) n) (sym one) (elim (are.one one level) [
        | inl none ↦ absurd (none-some n (sym none ∙ is))
        | inr some ↦ subst (Contains (first ∷ [])) (same_Some first n (sym some ∙ is)) (Contains-head first [])
      ])
      from (Some number) two = subst (λ o. Contains (first ∷ option_to_list o) n) (sym two) (elim (as_two number two level is) [
        | inl same ↦ subst (Contains (first ∷ number ∷ [])) (sym same) (Contains-head first (number ∷ []))
        | inr same ↦ subst (Contains (first ∷ number ∷ [])) (sym same) (Contains-later first number (number ∷ []) (Contains-head number []))
      ])

  -- where every level has this fee of it the first has
  pub first_fee : (c : Cluster) → stored_at shelf.store.clusters first ≡ Some c → (fee : ℤ) → HaveFee id fee shelf → (rate_of c.graph id).fee ≡ fee
  first_fee c at fee have =
      let s = (indexed_at w shelf order are.level).stands id first are.first_is in
      let same = same_Some s.cluster c (sym (seen_is_stored are.level shelf.store.clusters first s.cluster s.there) ∙ at) in
      have are.level first c are.first_is (s.there ∙ ap Some same)

  -- the fee of the first is that of every level
  pub one_fee : HasOneRate id shelf → (c : Cluster) → stored_at shelf.store.clusters first ≡ Some c → (fee : ℤ) → (rate_of c.graph id).fee ≡ fee
      → HaveFee id fee shelf
  one_fee one c at fee same level n d is seen = ap (λ (r : FeeRate). r.fee) (from are.level are.first_is level n d is seen) ∙ same
    where
      stored : (l : Level) (e : Cluster) → seen_at l shelf.store.clusters first ≡ Some e → e ≡ c
      stored l e there = same_Some e c (sym (seen_is_stored l shelf.store.clusters first e there) ∙ at)

      -- it is seen in its own level
      there : (l : Level) → finmap.get (numbers_at l shelf) id ≡ Some first → seen_at l shelf.store.clusters first ≡ Some c
      there l is_first =
          let s = (indexed_at w shelf order l).stands id first is_first in s.there ∙ ap Some (stored l s.cluster s.there)

      alike : (l : Level) → finmap.get (numbers_at l shelf) id ≡ Some first → (m : ℕ) (e : Cluster) → finmap.get (numbers_at l shelf) id ≡ Some m
          → seen_at l shelf.store.clusters m ≡ Some e → rate_of e.graph id ≡ rate_of c.graph id
      alike l is_first m e number at_m =
          let same_number : m ≡ first = same_Some m first (sym number ∙ is_first) in
          ap (λ (z : Cluster). rate_of z.graph id) (stored l e (ap (seen_at l shelf.store.clusters) (sym same_number) ∙ at_m))

      from : (l : Level) → finmap.get (numbers_at l shelf) id ≡ Some first → (k : Level) (m : ℕ) (e : Cluster)
          → finmap.get (numbers_at k shelf) id ≡ Some m → seen_at k shelf.store.clusters m ≡ Some e → rate_of e.graph id ≡ rate_of c.graph id
      from Main is_first Main m e number at_m = alike Main is_first m e number at_m
      from Top is_first Top m e number at_m = alike Top is_first m e number at_m
      from Main is_first Top m e number at_m = sym (one first m c e is_first number (there Main is_first) at_m)
      from Top is_first Main m e number at_m = one m first e c number is_first at_m (there Top is_first)

-- ---- one cluster with another fee, and two

module _ (w id : ℕ) (fee : ℤ) (shelf : Shelf) (x : Exchange) (one : IsPriced w id fee x shelf) where
  pub priced_one : ArePriced w id fee (x ∷ []) shelf
  priced_one z here = elim (Contains-cases x z [] here) [
    | inl same ↦ subst (λ (y : Exchange). IsPriced w id fee y shelf) same one
    | inr none ↦ absurd (none_in_empty z none)
  ]

  pub priced_two : (y : Exchange) → IsPriced w id fee y shelf → ArePriced w id fee (x ∷ y ∷ []) shelf
  priced_two y two z here = elim (Contains-cases x z (y ∷ []) here) [
    | inl same ↦ subst (λ (e : Exchange). IsPriced w id fee e shelf) same one
    | inr later ↦ elim (Contains-cases y z [] later) [
      | inl same ↦ subst (λ (e : Exchange). IsPriced w id fee e shelf) same two
      | inr none ↦ absurd (none_in_empty z none)
    ]
  ]

-- ---- what the store makes of it

module _ (w id first : ℕ) (second : Option ℕ) (fee : ℤ) (list : List Exchange) (old : Shelf) (order : IsInOrder w old)
    (are : AreNumbersOf id first second old) (priced : ArePriced w id fee list old) (told : map (λ x. x.number) list ≡ first ∷ option_to_list second) where
  its_number : (n : ℕ) → Contains (map (λ x. x.number) list) n → (x : Exchange) × Contains list x × (x.number ≡ n)
  its_number n here = map-Contains (λ (x : Exchange). x.number) list n here

  two_numbers : (o : Option ℕ) → second ≡ o → AreDistinct (first ∷ option_to_list o)
  two_numbers None is = ((λ here. none_in_empty first here), tt)
  two_numbers (Some number) is = ((λ here. (are.two number is).2 (only_one number first here)), ((λ here. none_in_empty number here), tt))

  stored_some : (c : Cluster) (o : Option Stored) → option_map (λ (s : Stored). s.cluster) o ≡ Some c → IsSome o
  stored_some c None is = absurd (none-some c is)
  stored_some c (Some s) is = refl

  pub same_names : HaveSameNames w list old
  same_names = record {
    held = record {
      once = subst AreDistinct (sym told) (two_numbers second refl);
      there = λ n here.
          let x = its_number n here in
          let p = priced x.0 x.1 in
          subst (λ m. IsSome (finmap.get old.store.clusters m)) x.2 (stored_some p.was (finmap.get old.store.clusters x.0.number) p.at);
    };
    fitted = λ x here. (priced x here).fitted;
    names = λ x c here at.
        let p = priced x here in p.names ∙ ap (λ (d : Cluster). d.names) (same_Some p.was c (sym p.at ∙ at));
  }

  module _ (new : Shelf) (x : ExchangesEach list old.store.clusters new.store.clusters) (numbers : (new.main ≡ old.main) × (new.staging ≡ old.staging) × (new.limits ≡ old.limits)) where
    level_numbers : (level : Level) → numbers_at level new ≡ numbers_at level old
    level_numbers Main = numbers.0
    level_numbers Top = λ i. numbers_at Top (record { limits = new.limits; main = numbers.0 i; staging = numbers.1 i; store = new.store })

    -- what was seen under a number whose cluster is exchanged
    was_is : (level : Level) (n : ℕ) (c : Cluster) (e : IsExchanged list old new n) → seen_at level old.store.clusters n ≡ Some c
        → (priced e.by e.in_list).was ≡ c
    was_is level n c e seen =
        let p = priced e.by e.in_list in
        same_Some p.was c (sym p.at ∙ ap (stored_at old.store.clusters) e.number_is ∙ seen_is_stored level old.store.clusters n c seen)

    -- under a number that the name hasn't all that is seen stays
    unseen : (level : Level) (n : ℕ) → (finmap.get (numbers_at level old) id ≡ Some n → ⊥)
        → seen_at level new.store.clusters n ≡ seen_at level old.store.clusters n
    unseen level n away = elim (by_number w list old new order same_names x level_numbers n) [
      | inl stays ↦ same_seen level old.store.clusters new.store.clusters n stays
      | inr e ↦
          let none : seen_at level old.store.clusters n ≡ None = elim (cases_option (seen_at level old.store.clusters n)) [
            | inl none ↦ none
            | inr some ↦
                let held = subst (λ (c : Cluster). Contains c.names id) (was_is level n some.0 e some.1) (priced e.by e.in_list).held in
                absurd (away ((indexed_at w old order level).listed n id some.0 some.1 held))
          ] in
          e.seen level ∙ ap (option_map (λ _. e.by.cluster)) none ∙ sym none
    ]

    fee_at : (level : Level) → SetsFeeAt w id fee level old new
    fee_at level = record {
      here = λ number was is seen.
          let e = exchanged_at w list old new order same_names x level_numbers number
          (subst (λ (ns : List ℕ). Contains ns number) (sym told) (all_numbers w id first second old order are level number is)) in
          let p = priced e.by e.in_list in
          let one : p.was ≡ was = was_is level number was e seen in
          let names : e.by.cluster.names ≡ was.names = p.names ∙ ap (λ (c : Cluster). c.names) one in (
            e.by.cluster,
            names,
            subst (λ (c : Cluster). SetsFee c.graph e.by.cluster.graph id fee) one p.sets,
            rebuilds_swapped (64 * w) number was e.by.cluster (view_of level old) (view_of level new) (indexed_at w old order level) (level_numbers level)
                (fitted_record (64 * w) old.limits e.by.cluster p.fitted) names seen (e.seen level ∙ ap (option_map (λ _. e.by.cluster)) seen)
                (λ n other. unseen level n (λ same. other (same_Some n number (sym same ∙ is)))),
          );
      away = λ none n. unseen level n (λ some. none-some n (sym none ∙ some));
    }

    pub fees_exchanged : SetsFees w id fee old new
    fees_exchanged = record { main = fee_at Main; top = fee_at Top; numbers = numbers.0; staging = numbers.1; limits = numbers.2 }
