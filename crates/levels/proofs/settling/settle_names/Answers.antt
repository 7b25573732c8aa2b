-- A ring of main is made of the names that were released.
use Rattle.std.proofs.Common.{inl, inr, sym, subst, ◌∙◌}
use Rattle.graphs.specs.declared.names.Level.{Level}
use Rattle.levels.specs.Settling.{SettlesAll}
use Rattle.levels.proofs.settling.settle_names.Goals as goal

pub returns-in-Top : goal.returns-in-Top
returns-in-Top c =
    let release = c.release_all.ensures in let part = c.part.ensures in
    subst (λ (l : Level). SettlesAll l c.args.names.now c.args.rings.now c.part.new.self) (sym c.in-Top.is) (record {
      names = part.names ∙ release.names;
      main = λ x y. (
        λ share. elim ((part.main x y).0 share) [ inl all ↦ inl ((release.main x y).0 all.0, all.1, all.2) | inr both ↦ inr both ],
        λ h. (part.main x y).1 (elim h [ inl all ↦ inl ((release.main x y).1 all.0, all.1, all.2) | inr both ↦ inr both ]),
      );
      touched = λ x. (λ marked. (release.touched x).0 ((part.touched x).0 marked), λ both. (part.touched x).1 ((release.touched x).1 both));
      issued = part.issued ∙ release.issued;
    })
