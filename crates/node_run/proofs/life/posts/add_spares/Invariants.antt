use Rattle.std.proofs.Common.{◌-◌, length}
use Rattle.node_run.specs.Posts.{AddsEach, IsSpare}
use Rattle.node_run.proofs.life.posts.add_spares.Given as goal

abbrev pub invariant-adding : goal.invariant-adding
invariant-adding g l = AddsEach (λ _ one. IsSpare one) (l.counter - length l.initial.posts.items) l.initial.posts.items l.posts.items
