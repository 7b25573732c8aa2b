use Rattle.node_pool.proofs.LinkLemmas.{Connects-of}
use Rattle.node_pool.proofs.rings.Rings.connect.Goals as goal

pub returns : goal.returns
returns c =
    let first = c.set_link.ensures.within in
    let second = rw (c.set_link.ensures.link, c.neighbours-prev.ensures.prev) at c.set_link-2.ensures.within in
    rw (c.set_link-2.ensures.link, c.neighbours-next.ensures.next, c.set_link.ensures.link, c.neighbours-prev.ensures.prev)
    (Connects-of c.args.self.now c.args.r c.args.from c.args.to c.requires.r_in_range first second)
