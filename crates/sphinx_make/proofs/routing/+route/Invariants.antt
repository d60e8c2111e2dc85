use Rattle.std.proofs.Common.{length}
use Rattle.sphinx_make.proofs.routing.+route.Given as goal

-- the hops that are left
abbrev pub decreases-route : goal.decreases-route
decreases-route g l = length l.hops.now
