-- A reply block: a header, the id of its first hop, and a wide key of its maker's own. Who has the block can answer
-- without knowing the way.
use Rattle.std.specs.Prelude.{ℕ, ◌+◌, List, [], ◌∷◌, ◌++◌, slice_range, drop, Result, Ok}
use Rattle.mix_base.specs.Results.{◌>>=◌}
use Rattle.mix_base.specs.Suites.{SuiteMeaning}
use Rattle.packet_form.specs.Geometry.{Sizes, header}
use Rattle.packet_form.specs.declared.commands.Exit.TheVariants.{Reply}
use Rattle.sphinx_make.specs.Making.{made_header}
use Rattle.sphinx_make.specs.declared.faults.MakeFault.{MakeFault}
use Rattle.sphinx_make.specs.declared.path.HopSpec.{HopSpec}
use Rattle.reply_blocks.specs.declared.blocks.BlockKeys.{BlockKeys}

-- the bytes of a block
abbrev pub block_of : List ℕ → List ℕ → List ℕ → List ℕ
block_of header_bytes first own = header_bytes ++ first ++ own

-- ---- the parts of a block at their places

abbrev pub header_in : Sizes → List ℕ → List ℕ
header_in sizes block = slice_range block 0 (header sizes)

abbrev pub first_in : Sizes → List ℕ → List ℕ
first_in sizes block = slice_range block (header sizes) (header sizes + 32)

abbrev pub own_in : Sizes → List ℕ → List ℕ
own_in sizes block = drop (header sizes + 32) block

-- ---- a block made

-- what its maker keeps: the wide keys of the hops in path order, and the key of the maker's own
pub record Keys : Type 0 where
  pub hops : List (List ℕ)
  pub own : List ℕ

-- keys, without the room that their list has
abbrev pub keys_seen : BlockKeys → Keys
keys_seen keys = record { hops = keys.hops.items; own = keys.own }

-- the id of the first hop
abbrev pub first_id : List HopSpec → List ℕ
first_id [] = []
first_id (hop ∷ rest) = hop.id

-- a block for a path whose last hop finds a recipient and a reply id, with its keys; or the first refusal
unfoldable pub made_block : SuiteMeaning → Sizes → List HopSpec → List ℕ → List ℕ → List ℕ → List ℕ → Result (List ℕ × Keys) MakeFault
made_block suite sizes path recipient surb own coins = do
  made ← made_header suite sizes path (Reply recipient surb) coins
  Ok (block_of made.0 (first_id path) own, record { hops = made.1; own = own })
