-- The cluster of a graph whose members get names.
use Rattle.std.proofs.Common.{◌≡◌, ℕ, ◌<◌, ◌≤◌, true, nat_lt, List, [], length, slice_index, refl, sym, ap, ◌∙◌, subst, Contains}
use Rattle.std.specs.FinSet as set
use Rattle.fee_rate.specs.Limits.{IsRate}
use Rattle.fee_rate.specs.declared.rates.FeeRate.{FeeRate}
use Rattle.graphs.specs.Certificates.{Part}
use Rattle.graphs.specs.declared.names.Flow.{Flow}
use Rattle.graphs.specs.Closures.{Closure, is_member, members_of, IsClosed, IsPart}
use Rattle.bitset.specs.Places.{places, IsWithin}
use Rattle.bitset.specs.Sets.{len-places}
use Rattle.bitset.specs.Members.{len_bound}
use Rattle.lists.proofs.Entries.{none_in_empty}
use Rattle.linearize.specs.Graphs.{HasRates, IsComponent}
use Rattle.linearize.specs.declared.old.OldPart.{OldPart}
use Rattle.cluster.specs.Changes.{AreNamesOf, TakesNames}
use Rattle.cluster.specs.Named.{named, IsNamed}
use Rattle.cluster.specs.Guesses.{AreSound}
use Rattle.cluster.proofs.Listings.{contains-members_of}
use Rattle.cluster.proofs.Names.{named-ancestor, named-rate}
use Rattle.cluster.proofs.Parts.{chosen_at, above, rate, joined_anew}

-- of no old part nothing is said
pub none_sound : (names : List ℕ) (dep : Closure) (parts : List OldPart) (places : List ℕ) (flows : List Flow) → parts ≡ []
    → AreSound names dep parts places flows
none_sound names dep parts places flows none old here said = absurd (none_in_empty old (subst (λ (ps : List OldPart). Contains ps old) none here))

module _ (n : ℕ) (names : List ℕ) (g h : Closure) (are : AreNamesOf g names) (one : IsComponent g) (in_range : HasRates g) (bounded : IsClosed n g)
    (part : IsPart g (places n (members_of g)) h) (closed : IsClosed n h) where
  abbrev ps : List ℕ
  ps = places n (members_of g)

  member : (p : ℕ) → set.contains (members_of g) p ≡ true → is_member g p ≡ true
  member p here = sym (contains-members_of g p) ∙ here

  bound : IsWithin n (members_of g)
  bound p here = bounded.within p (member p here)

  long : length names ≡ length ps
  long = are.each ∙ len-places n (members_of g) bound

  place : (i : ℕ) → i < length names → i < length ps
  place i low = subst (λ m. i < m) long low

  pub IsNamed-whole : IsNamed n names h
  IsNamed-whole = record {
    some = are.some;
    few = subst (λ m. m ≤ n) (sym are.each) (len_bound n (members_of g) bound);
    once = are.once;
    members = λ k. part.members k ∙ ap (nat_lt k) (sym long);
    order = closed.order;
    whole = λ i j low below.
        joined_anew n g h (members_of g) bound part (λ p q first second. one p q (member p first) (member q second)) i j (place i low) (place j below);
    rates = λ i low.
        subst (λ (r : FeeRate). IsRate r) (sym (rate n g h (members_of g) bound part i (place i low)))
        (in_range (slice_index ps i) (member (slice_index ps i) (chosen_at n g h (members_of g) bound part i (place i low))));
  }

  pub TakesNames-named : (parts : List Part) → TakesNames n g names (record { names = names; graph = named names h; parts = parts })
  TakesNames-named parts = record {
    names_are = refl;
    rates = λ i low. named-rate names h are.once i low ∙ rate n g h (members_of g) bound part i (place i low);
    ancestors = λ i j low below.
        named-ancestor names h are.once i j low below ∙ above n g h (members_of g) bound part i j (place i low) (place j below);
  }
