-- The node line of a script of `drive`: what it says, if it is in the grammar.
use Rattle.std.specs.Prelude.{ℕ, ◌/◌, ◌^◌, ◌≤◌, if◌then◌else◌, List, Option, Some, None, codes}
use Rattle.std.specs.Str.{bytes_eq}
use Rattle.mix_base.specs.Options.{◌>>=◌}
use Rattle.packet_form.specs.Geometry.{IsWithin}
use Rattle.lab_text.specs.Sizes.{AreSizesInRange, sizes_in}
use Rattle.lab_text.specs.Words.{words_of, thirty_two}
use Rattle.lab_text.specs.WordForms.{first_number, first_of, only_word}
use Rattle.lab_text.specs.declared.node_lines.NodeLine.{NodeLine}
use Rattle.lab_text.specs.declared.sizes.SizesLine.{SizesLine}

-- what the words behind `node` say: suite, hops, body, shards, epoch, grace, seed; an epoch is 4 to 2 ^ 40 milliseconds
-- long, and a grace at most a quarter of it
abbrev pub node_in : List (List ℕ) → Option NodeLine
node_in words = do
  sizes ← sizes_in words
  shards ← first_number 1 16 sizes.1
  epoch ← first_number 4 (2 ^ 40) shards.1
  grace ← first_number 0 (epoch.0 / 4) epoch.1
  seed ← only_word grace.1 >>= thirty_two
  Some (record {
    ntru = sizes.0.ntru;
    hops = sizes.0.hops;
    body = sizes.0.body;
    shards = shards.0;
    epoch = epoch.0;
    grace = grace.0;
    seed = seed;
  })

-- what a node line says
abbrev pub node_of : List ℕ → Option NodeLine
node_of line = do
  first ← first_of (words_of line)
  if bytes_eq first.0 (codes "node") then node_in first.1 else None

-- the suite of a node line, and the sizes of its packets
abbrev pub sizes_of : NodeLine → SizesLine
sizes_of node = record { ntru = node.ntru; hops = node.hops; body = node.body }

-- the numbers of a node line
pub record IsNodeInRange (node : NodeLine) : Type 0 where
  pub sizes : AreSizesInRange (sizes_of node)
  pub shards : IsWithin 1 16 node.shards
  pub epoch : IsWithin 4 (2 ^ 40) node.epoch
  pub grace : node.grace ≤ node.epoch / 4
