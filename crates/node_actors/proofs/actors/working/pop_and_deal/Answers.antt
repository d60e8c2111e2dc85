use Rattle.node_actors.proofs.actors.working.pop_and_deal.Goals as goal

pub returns-clause-item : goal.returns-clause-item
returns-clause-item g c = record { item = c.pop-item.result; receiver = c.pop-item.ensures; dealt = c.deal_arrival.ensures.log }
