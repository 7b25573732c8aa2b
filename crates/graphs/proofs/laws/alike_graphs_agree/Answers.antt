use Rattle.graphs.proofs.AlikeLemmas.{alike_back, connected_to, cover_to, closed_to, corners_to, optimal_to, certificate_to}
use Rattle.graphs.proofs.laws.alike_graphs_agree.Goals as goal

pub returns : goal.returns
returns c = record {
  components = λ ra rb a b alike x y. (connected_to ra rb a b alike x y, connected_to rb ra b a (alike_back ra rb a b alike) x y);
  covers = λ ra rb a b alike x y. (cover_to ra rb a b alike x y, cover_to rb ra b a (alike_back ra rb a b alike) x y);
  closed = λ ra rb a b alike one other set. (closed_to ra rb a b alike one set, closed_to rb ra b a (alike_back ra rb a b alike) other set);
  corners =
      λ ra rb a b alike one other points. (corners_to ra rb a b alike one other points, corners_to rb ra b a (alike_back ra rb a b alike) other one points);
  orders = λ ra rb a b alike one other parts. (optimal_to ra rb a b alike one other parts, optimal_to rb ra b a (alike_back ra rb a b alike) other one parts);
  certificates =
      λ ra rb a b alike one other parts. (certificate_to ra rb a b alike other parts, certificate_to rb ra b a (alike_back ra rb a b alike) one parts);
}
