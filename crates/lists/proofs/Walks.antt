-- Walks along steps, joined and turned round.
use Rattle.std.proofs.Common.{[], ◌∷◌, refl, sym, ap, subst}
use Rattle.lists.specs.Walks.{Walk}

pub Walk-push : {V : Type 0} (step : V → V → Type 0) (a b c : V) → Walk step a b → step b c → Walk step a c
Walk-push {V = V} step a b c ([], same) s = (c ∷ [], (subst (λ (x : V). step x c) (sym same) s, refl))
Walk-push step a b c (v ∷ vs, walk) s = let rest : Walk step v c = Walk-push step v b c (vs, walk.1) s in (v ∷ rest.0, (walk.0, rest.1))

pub Walk-trans : {V : Type 0} (step : V → V → Type 0) (a b c : V) → Walk step a b → Walk step b c → Walk step a c
Walk-trans {V = V} step a b c ([], same) other = subst (λ (x : V). Walk step x c) (sym same) other
Walk-trans step a b c (v ∷ vs, walk) other = let rest : Walk step v c = Walk-trans step v b c (vs, walk.1) other in (v ∷ rest.0, (walk.0, rest.1))

pub Walk-back : {V : Type 0} (step : V → V → Type 0) → ((a b : V) → step a b → step b a) → (a b : V) → Walk step a b → Walk step b a
Walk-back step turn a b ([], same) = ([], sym same)
Walk-back step turn a b (v ∷ vs, walk) = Walk-push step b v a (Walk-back step turn v b (vs, walk.1)) (turn a v walk.0)

-- what holds at the start and over each step holds at the end
pub Walk-keeps : {V : Type 0} (step : V → V → Type 0) (P : V → Type 0) → ((a b : V) → step a b → P a → P b) → (a b : V) → Walk step a b → P a → P b
Walk-keeps step P each a b ([], e) p = subst P e p
Walk-keeps step P each a b (v ∷ vs, (first, rest)) p = Walk-keeps step P each v b (vs, rest) (each a v first p)

-- a map of vertices that keeps steps keeps walks
pub Walk-map : {V U : Type 0} (f : V → U) (step : V → V → Type 0) (step' : U → U → Type 0)
    → ((a b : V) → step a b → step' (f a) (f b)) → (a b : V) → Walk step a b → Walk step' (f a) (f b)
Walk-map f step step' each a b ([], e) = ([], ap f e)
Walk-map f step step' each a b (v ∷ vs, (first, rest)) = let further : Walk step' (f v) (f b) = Walk-map f step step' each v b (vs, rest) in
    (f v ∷ further.0, (each a v first, further.1))

pub Walk-first : {V : Type 0} (step : V → V → Type 0) (a b c : V) → step a b → Walk step b c → Walk step a c
Walk-first step a b c s (vs, w) = (b ∷ vs, (s, w))
