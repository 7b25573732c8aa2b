use Rattle.std.proofs.Common.{◌≡◌, true, refl, ap, ◌∙◌, rules}
use Rattle.std.specs.declared.cmp.Ordering.{Ordering}
use Rattle.std.specs.declared.cmp.Ordering.TheVariants.{Less, Equal, Greater}
use Rattle.std.specs.Ordering.{is_ne, ordering_then}
use Rattle.chunk_index.specs.KeyOrder.{rate_cmp, by_serial, by_position, by_size, key_cmp}
use Rattle.chunk_index.proofs.key.KeyOrd.cmp.Goals as goal

-- an answer that tells two apart stands, whatever comes behind it
decided : (r s p z : Ordering) → is_ne r ≡ true → r ≡ ordering_then (ordering_then (ordering_then r s) p) z
decided Less s p z differs = refl
decided Equal s p z differs = absurd (cc)
decided Greater s p z differs = refl

pub returns-then-is_ne : goal.returns-then-is_ne
unfolding key_cmp
returns-then-is_ne c =
    let rate : c.higher_first-by_rate.result ≡ rate_cmp c.args.self.now.rate c.args.other.now.rate = search rules in
    let differs : is_ne c.higher_first-by_rate.result ≡ true = search rules in
    decided c.higher_first-by_rate.result (by_serial c.args.self.now c.args.other.now) (by_position c.args.self.now c.args.other.now)
    (by_size c.args.self.now c.args.other.now) differs
    ∙ ap (λ r. ordering_then (ordering_then (ordering_then r (by_serial c.args.self.now c.args.other.now)) (by_position c.args.self.now c.args.other.now))
    (by_size c.args.self.now c.args.other.now)) rate

pub returns : goal.returns
unfolding key_cmp
returns c = search rules
