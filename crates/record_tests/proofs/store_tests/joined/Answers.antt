-- Two records of one name each, which differ.
use Rattle.std.proofs.Common.{rules, ◌≡◌, ◌∷◌, [], List, ℕ, length, Contains, inl, lit<, sym, ap, ◌∙◌, subst, arith}
use Rattle.lists.proofs.Entries.{Contains-head, Contains-one}
use Rattle.record.specs.Changes.{MayJoin}
use Rattle.record_tests.proofs.store_tests.joined.Goals as goal

alone_in : (x : ℕ) (names : List ℕ) → names ≡ x ∷ [] → Contains names x
alone_in x names is = subst (λ (xs : List ℕ). Contains xs x) (sym is) (Contains-head x [])

only_in : (x y : ℕ) (names : List ℕ) → names ≡ x ∷ [] → Contains names y → x ≡ y
only_in x y names is here = Contains-one x y (subst (λ (xs : List ℕ). Contains xs y) is here)

pub joined-requires : goal.joined-requires
joined-requires g c =
    let parent = c.args.pair.0 in
    let child = c.args.pair.1 in
    let first : c.args.old.now.names ≡ parent ∷ [] = c.requires.old in
    let second : c.args.one.now.names ≡ child ∷ [] = c.requires.one in
    let long : length c.args.old.now.names ≡ 1 = ap length first in
    let wide : length c.args.one.now.names ≡ 1 = ap length second in
    let other : parent ≡ child → ⊥ = search rules in
    let joins : MayJoin 64 c.args.room.now.limits c.args.old.now c.args.one.now parent child = record {
      few = omega arith;
      one_fits = c.requires.old_fits;
      other_fits = c.requires.one_fits;
      total = omega (arith, long, wide);
      apart = λ x here there.
          other (only_in parent x c.args.old.now.names first here ∙ sym (only_in child x c.args.one.now.names second there));
      across = inl (alone_in parent c.args.old.now.names first, alone_in child c.args.one.now.names second);
    } in (lit< tt, (lit< tt, (omega arith, joins)))
