-- Which shard of how many.
use Rattle.std.specs.Prelude.{ℕ, ◌<◌, ◌≤◌}
use Rattle.mix_base.specs.declared.shards.Shape.{Shape}

-- 1 to 16 shards, and an index below them
pub record IsShape (shape : Shape) : Type 0 where
  pub some : 1 ≤ shape.shards
  pub most : shape.shards ≤ 16
  pub index : shape.index < shape.shards
