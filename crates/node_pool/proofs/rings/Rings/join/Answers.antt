use Rattle.node_pool.proofs.LinkLemmas.{IsJoined-of}
use Rattle.node_pool.proofs.rings.Rings.join.Goals as goal

pub returns : goal.returns
returns c =
    let first = rw c.neighbours-after_b.ensures.next at c.connect.ensures in
    let second = rw c.neighbours-after_a.ensures.next at c.connect-2.ensures in
    IsJoined-of c.args.self.now c.connect.new.self c.connect-2.new.self c.args.r c.args.a c.args.b c.requires.apart.0 c.requires.apart.1 first second
