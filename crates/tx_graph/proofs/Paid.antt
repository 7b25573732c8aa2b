-- Another fee of a name, in each level that has it.
use Rattle.std.proofs.Common.{◌≡◌, ◌≢◌, ℕ, ℤ, Bool, true, false, sym, refl, ap, subst, subst₂, ◌∙◌, inl, inr, ◌⊎◌, None, Some, Option, is_some, true≢false}
use Rattle.std.specs.FinMap as finmap
use Rattle.std.proofs.lemmas.Bool.{cases_eq}
use Rattle.fee_rate.specs.declared.rates.FeeRate.{FeeRate}
use Rattle.graphs.specs.declared.names.Level.{Level}
use Rattle.graphs.specs.declared.names.Level.TheVariants.{Main, Top}
use Rattle.graphs.specs.Closures.{Closure, is_member, is_ancestor, rate_of}
use Rattle.graphs.specs.Graphs.{Graph}
use Rattle.graphs.proofs.ClosingLemmas.{closes_like}
use Rattle.graph_model.specs.Commands.{SetFee}
use Rattle.graph_model.specs.Limits.{bounds_of}
use Rattle.graph_model.specs.Changes.{with_fee}
use Rattle.graph_model.specs.Replies.{Done}
use Rattle.graph_model.specs.States.{Table, Entry, size_of, size_in, top_of}
use Rattle.levels.specs.Levels.{OneLevel, Levels, HavePicks, SetsFeeOf, SetsFeeIn, level_at, IsLive}
use Rattle.tx_graph.specs.Kept.{Kept, HasRates, IsGraphOf, IsStagingOf, MakesStep, entry_of}
use Rattle.tx_graph.proofs.Standing.{Meets}
use Rattle.tx_graph.proofs.Picked.{AreSameLevel, KeepsParts, AcceptsAll, picks_follow, steps_made}
use Rattle.graph_model.proofs.ValidLemmas.{get-put_same, get-put_other}

member_or_not : (g : Closure) (id : ℕ) → (is_member g id ≡ true) ⊎ (is_member g id ≡ false)
member_or_not g id = by (is_member g id)
  where
    by : (b : Bool) → (b ≡ true) ⊎ (b ≡ false)
    by true = inl refl
    by false = inr refl

-- ---- one level

module _ (id : ℕ) (fee : ℤ) (was now : OneLevel) (sets : SetsFeeOf id fee was now) where
  graph_paid : (graph : Graph) → IsGraphOf was graph → IsGraphOf now graph
  graph_paid graph of = elim (member_or_not was.graph id) [
    | inl member ↦
        let set = sets.0 member in
        record {
          closure = closes_like (is_member was.graph) (is_ancestor was.graph) graph of.closure
              (is_member now.graph) (is_ancestor now.graph) set.members (λ a d here there. set.ancestors a d);
          among = λ a d up. let both = of.among a d (sym (set.ancestors a d) ∙ up) in (set.members a ∙ both.0, set.members d ∙ both.1);
          valid = of.valid;
        }
    | inr absent ↦ subst (λ (l : OneLevel). IsGraphOf l graph) (sym (sets.1 absent)) of
  ]

  members_paid : (q : ℕ) → is_member now.graph q ≡ is_member was.graph q
  members_paid q = elim (member_or_not was.graph id) [
    | inl member ↦ (sets.0 member).members q
    | inr absent ↦ ap (λ (l : OneLevel). is_member l.graph q) (sets.1 absent)
  ]

  rates_other : (q : ℕ) → q ≢ id → rate_of now.graph q ≡ rate_of was.graph q
  rates_other q other = elim (member_or_not was.graph id) [
    | inl member ↦ (sets.0 member).rates q other
    | inr absent ↦ ap (λ (l : OneLevel). rate_of l.graph q) (sets.1 absent)
  ]

  rate_paid : is_member was.graph id ≡ true → rate_of now.graph id ≡ record { fee = fee; size = (rate_of was.graph id).size }
  rate_paid member = (sets.0 member).rate_is

  -- where the level is the same, it lacks the name, or the name had the fee
  same_paid : AreSameLevel was.graph now.graph → (is_member was.graph id ≡ true → (rate_of was.graph id).fee ≡ fee → now.parts ≡ was.parts)
      → now.parts ≡ was.parts
  same_paid same still = elim (member_or_not was.graph id) [
    | inl member ↦ still member (ap (λ (r : FeeRate). r.fee) (sym (same.rates id (members_paid id ∙ member)) ∙ rate_paid member))
    | inr absent ↦ ap (λ (l : OneLevel). l.parts) (sets.1 absent)
  ]

-- ---- both levels

abbrev fee_in : ℤ → Option Entry → ℤ
fee_in other None = other
fee_in other (Some entry) = entry.fee

staging_paid : (id : ℕ) (fee : ℤ) (a b : OneLevel) (was now : Option OneLevel) (staging : Option Graph) → is_some now ≡ is_some was
    → SetsFeeOf id fee (top_of a was) (top_of b now) → IsStagingOf was staging → IsStagingOf now staging
staging_paid id fee a b None None None alike sets of = tt
staging_paid id fee a b None None (Some graph) alike sets of = absurd of
staging_paid id fee a b None (Some now) staging alike sets of = absurd (true≢false alike)
staging_paid id fee a b (Some was) None staging alike sets of = absurd (true≢false (sym alike))
staging_paid id fee a b (Some was) (Some now) None alike sets of = absurd of
staging_paid id fee a b (Some was) (Some now) (Some graph) alike sets of = graph_paid id fee was now sets graph of

module _ (old new : Kept) (id : ℕ) (fee : ℤ) (most : new.most ≡ old.most) (begins : new.begun ≡ true)
    (live : IsLive old.levels id)
    (sets : SetsFeeIn id fee old.levels new.levels)
    (still : ((level : Level) → is_member (level_at old.levels level).graph id ≡ true → (rate_of (level_at old.levels level).graph id).fee ≡ fee)
    → new.levels ≡ old.levels) where
  sets_at : (level : Level) → SetsFeeOf id fee (level_at old.levels level) (level_at new.levels level)
  sets_at Main = sets.main
  sets_at Top = sets.top

  -- a name is live where it was
  still_live : (q : ℕ) → IsLive old.levels q → IsLive new.levels q
  still_live q was = elim was [
    | inl one ↦ inl (members_paid id fee old.levels.main new.levels.main sets.main q ∙ one)
    | inr two ↦ inr (members_paid id fee (level_at old.levels Top) (level_at new.levels Top) sets.top q ∙ two)
  ]

  module _ (table : Table) (rates : HasRates old.levels table) where
    abbrev paid : Table
    paid = finmap.insert table id (record { fee = fee; size = size_of table id })

    names_paid : (level : Level) (q : ℕ) → is_member (level_at new.levels level).graph q ≡ true
        → finmap.get paid q ≡ Some (entry_of (rate_of (level_at new.levels level).graph q))
    names_paid level q member =
        let was = level_at old.levels level in
        let now = level_at new.levels level in
        let before : is_member was.graph q ≡ true = sym (members_paid id fee was now (sets_at level) q) ∙ member in
        elim (cases_eq q id) [
          | inl same ↦
              let here : is_member was.graph id ≡ true = subst (λ x. is_member was.graph x ≡ true) same before in
              let size : size_of table id ≡ (rate_of was.graph id).size = ap size_in (rates.names level id here) in
              get-put_same table id q (record { fee = fee; size = size_of table id }) same
              ∙ ap (λ n. Some (record { fee = fee; size = n })) size
              ∙ ap (λ r. Some (entry_of r)) (sym (ap (rate_of now.graph) same ∙ rate_paid id fee was now (sets_at level) here))
          | inr other ↦
              get-put_other table id q (record { fee = fee; size = size_of table id }) other ∙ rates.names level q before
              ∙ ap (λ r. Some (entry_of r)) (sym (rates_other id fee was now (sets_at level) q other))
        ]

    rates_paid : HasRates new.levels paid
    rates_paid = record {
      names = names_paid;
      none = λ q gone.
          get-put_other table id q (record { fee = fee; size = size_of table id }) (λ same. gone (still_live q (subst (IsLive old.levels) (sym same) live)))
          ∙ rates.none q (λ was. gone (still_live q was));
    }

  accepts_paid : AcceptsAll old new (SetFee id fee) Done
  accepts_paid state stands = (
    with_fee state id fee,
    record {
      limits = stands.limits ∙ ap bounds_of (sym sets.limits);
      most = stands.most ∙ sym most;
      begun = sym begins;
      table = rates_paid state.table stands.table;
      main = graph_paid id fee old.levels.main new.levels.main sets.main state.main stands.main;
      staging = staging_paid id fee old.levels.main new.levels.main old.levels.staging new.levels.staging state.staging sets.staged sets.top stands.staging;
    },
    λ picks. record { answer = refl; change = refl },
  )

  -- a name has one fee: where it is the same in one level, it is in both, and the parts stay
  module _ (picked : HavePicks new.levels) (table : Table) (rates : HasRates old.levels table) where
    one_fee : (level : Level) → is_member (level_at old.levels level).graph id ≡ true → (rate_of (level_at old.levels level).graph id).fee ≡ fee
        → new.levels ≡ old.levels
    one_fee level member is =
        still (λ other there. ap (fee_in fee) (sym (rates.names other id there) ∙ rates.names level id member) ∙ is)

    parts_paid : (level : Level) → AreSameLevel (level_at old.levels level).graph (level_at new.levels level).graph
        → (level_at new.levels level).parts ≡ (level_at old.levels level).parts
    parts_paid level same =
        same_paid id fee (level_at old.levels level) (level_at new.levels level) (sets_at level) same
        (λ member is. ap (λ (l : Levels). (level_at l level).parts) (one_fee level member is))

    keeps_paid : KeepsParts old.levels new.levels
    keeps_paid = record {
      picked = picked;
      limits = sets.limits;
      main = parts_paid Main;
      staging = λ a b was is.
          subst₂ (λ (x y : OneLevel). AreSameLevel x.graph y.graph → y.parts ≡ x.parts) (ap (top_of old.levels.main) was) (ap (top_of new.levels.main) is)
          (parts_paid Top);
    }

  pub steps_paid : Meets old (SetFee id fee) None → HavePicks new.levels → MakesStep old new (SetFee id fee) Done
  steps_paid none picked =
      steps_made old new (SetFee id fee) Done tt none accepts_paid
      (λ state next stood stands. picks_follow old new state next stood stands (keeps_paid picked state.plain.table stood.plain.table))
