use Rattle.std.proofs.Common.{rules, ◌≡◌, true, subst}
use Rattle.std.specs.FinSet as set
use Rattle.bitset.specs.Members.{minus_parts}
use Rattle.linearize.proofs.Sizes.{words_fit, group_fits}
use Rattle.linearize.proofs.guess.come_whole.Goals as goal

pub come_behind-requires : goal.come_behind-requires
come_behind-requires g c = (
  search rules,
  (
    group_fits g.row.W c.requires.narrow,
    (
      words_fit g.row.W c.requires.narrow,
      (
        c.requires.narrow,
        (
          c.requires.closed,
          (
            λ p m. c.requires.members p (minus_parts _ _ p (subst (λ s. set.contains s p ≡ true) c.minus.ensures m)).0,
            c.requires.room,
          ),
        ),
      ),
    ),
  ),
)
