use Rattle.std.proofs.Common.{◌≡◌, ◌++◌, map, drop}
use Rattle.net_run.specs.Feeds.{packets_to}
use Rattle.net_run.proofs.feeds.packets_for.Given as goal

-- the packets so far, and those to come, are all
abbrev pub invariant-posts : goal.invariant-posts
invariant-posts l = map (λ packet. packet.items) l.packets.items ++ packets_to l.id (drop l.post-index l.posts) ≡ packets_to l.id l.posts
