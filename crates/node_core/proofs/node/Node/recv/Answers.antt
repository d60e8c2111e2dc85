use Rattle.node_core.proofs.Waiting.{one_more}
use Rattle.node_core.proofs.node.Node.recv.Goals as goal

pub invariant_of-self-2 : goal.invariant_of-self-2
invariant_of-self-2 g c = (
  c.self.invariant.0,
  one_more c.self.inside.arrivals.items c.push_back.new.self.items _ c.in_ok-push_back.ensures.items c.requires.moment c.self.invariant.1,
  c.self.invariant.2,
  c.self.invariant.3,
  c.self.invariant.4,
  c.self.invariant.5,
  c.self.invariant.6,
)

pub invariant_of-self : goal.invariant_of-self
invariant_of-self g c = (
  c.self.invariant.0,
  rw (c.in_err-push_back.ensures.items) c.self.invariant.1,
  c.self.invariant.2,
  c.self.invariant.3,
  c.self.invariant.4,
  c.self.invariant.5,
  c.self.invariant.6,
)
