-- One name more has touched ancestors alone, or hasn't.
use Rattle.std.proofs.Common.{rules, ◌≡◌, ◌≤◌, ℕ, true, length, Contains, sym, subst, ◌∙◌, true≢false, arith}
use Rattle.std.specs.Prelude.{slice_index}
use Rattle.graphs.specs.declared.names.Level.TheVariants.{Main}
use Rattle.graphs.specs.Closures.{is_member}
use Rattle.name_book.specs.Books.{IsNamed}
use Rattle.levels.specs.Mining.{LacksTouched}
use Rattle.levels.specs.Shelves.{IsInOrder, Shelf, view_of}
use Rattle.levels.specs.Views.{graph_of}
use Rattle.levels.proofs.Mined.{same_lacks}
use Rattle.levels.proofs.Seeking.{first_here, none_here, none_there}
use Rattle.levels.proofs.mining.first_untouched.Goals as goal

pub lacks_touched-requires : goal.lacks_touched-requires
lacks_touched-requires g c =
    let is = sym c.loop-id.invariant.same in
    let here : Contains c.args.ids.now (slice_index c.args.ids.now c.loop-id.id-index) = (c.loop-id.id-index, c.loop-id-test.true, search rules) in (
      omega arith,
      (
        subst (λ (s : Shelf). IsInOrder g.row.W s) is c.requires.order,
        (
          subst (λ (s : Shelf). is_member (graph_of (view_of Main s)) (slice_index c.args.ids.now c.loop-id.id-index) ≡ true) is (c.requires.live _ here),
          (
            c.requires.touched _ here,
            subst (λ (s : Shelf). (a : ℕ) → is_member (graph_of (view_of Main s)) a ≡ true → IsNamed c.args.rings.now.book a) is c.requires.named,
          ),
        ),
      ),
    )

pub returns-then-lacks_touched-clause-first : goal.returns-then-lacks_touched-clause-first
returns-then-lacks_touched-clause-first g c =
    let same = same_lacks c.args.rings.now (slice_index c.args.ids.now c.loop-id.id-index) c.loop-id.shelves c.args.shelves.now c.loop-id.invariant.same in
    first_here (LacksTouched (graph_of (view_of Main c.args.shelves.now)) c.args.rings.now) c.args.ids.now c.loop-id.id-index
    c.loop-id.invariant.none c.loop-id-test.true (same.0 (c.lacks_touched.ensures.lacks.0 c.if-lacks_touched.true))

pub loop-id-preserved : goal.loop-id-preserved
loop-id-preserved g c =
    let same = same_lacks c.args.rings.now (slice_index c.args.ids.now c.loop-id.id-index) c.loop-id.shelves c.args.shelves.now c.loop-id.invariant.same in
    record {
      none =
          none_here (LacksTouched (graph_of (view_of Main c.args.shelves.now)) c.args.rings.now) c.args.ids.now c.loop-id.id-index
          c.loop-id.invariant.none c.loop-id-test.true (λ lacks. true≢false (sym (c.lacks_touched.ensures.lacks.1 (same.1 lacks)) ∙ c.if-lacks_touched.false));
      same = c.lacks_touched.ensures.same ∙ c.loop-id.invariant.same;
    }

pub returns-clause-first : goal.returns-clause-first
returns-clause-first g c =
    let all : length c.args.ids.now ≤ c.loop-id.id-index = omega (arith, c.loop-id-test.false) in
    none_there (LacksTouched (graph_of (view_of Main c.args.shelves.now)) c.args.rings.now) c.args.ids.now c.loop-id.id-index c.loop-id.invariant.none all
