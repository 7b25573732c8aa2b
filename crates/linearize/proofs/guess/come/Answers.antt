use Rattle.std.proofs.Common.{rules, ◌≡◌, true, subst}
use Rattle.std.specs.FinSet as set
use Rattle.bitset.specs.Members.{from_meet, minus_parts}
use Rattle.linearize.proofs.Sizes.{words_fit, group_fits}
use Rattle.linearize.proofs.guess.come.Goals as goal

pub meet-places-requires : goal.meet-places-requires
meet-places-requires g c = words_fit g.row.W c.requires.narrow

pub least-requires : goal.least-requires
least-requires g c = words_fit g.row.W c.requires.narrow

pub minus-requires : goal.minus-requires
minus-requires g c = words_fit g.row.W c.requires.narrow

pub group_of-group-requires : goal.group_of-group-requires
group_of-group-requires g c = (
  search rules,
  (
    words_fit g.row.W c.requires.narrow,
    (
      group_fits g.row.W c.requires.narrow,
      (
        c.requires.narrow,
        (
          c.requires.closed,
          λ p m. c.requires.members p (from_meet _ _ p (subst (λ s. set.contains s p ≡ true) c.meet-places.ensures m)).1,
        ),
      ),
    ),
  ),
)

pub come_behind-requires : goal.come_behind-requires
come_behind-requires g c = (
  search rules,
  (
    group_fits g.row.W c.requires.narrow,
    (
      words_fit g.row.W c.requires.narrow,
      (
        c.requires.narrow,
        (
          c.requires.closed,
          (
            λ p m. c.requires.members p (minus_parts _ _ p (subst (λ s. set.contains s p ≡ true) c.minus.ensures m)).0,
            c.requires.room,
          ),
        ),
      ),
    ),
  ),
)
