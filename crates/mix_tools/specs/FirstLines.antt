-- The first lines of the requests: the suite and the sizes of a geometry, and for `make` a seed.
use Rattle.std.specs.Prelude.{ℕ, List, Option, Some}
use Rattle.mix_base.specs.Options.{◌>>=◌}
use Rattle.lab_text.specs.Sizes.{geometry_of, sizes_in}
use Rattle.lab_text.specs.WordForms.{alone, only_word}
use Rattle.lab_text.specs.Words.{thirty_two}
use Rattle.lab_text.specs.declared.sizes.SizesLine.{SizesLine}
use Rattle.mix_tools.specs.Suites.{scheme_for}
use Rattle.mix_tools.specs.declared.requests.Layout.{Layout}
use Rattle.mix_tools.specs.declared.requests.SeedLine.{SeedLine}

-- SUITE HOPS BODY
abbrev pub sizes_line : List (List ℕ) → Option SizesLine
sizes_line words = do
  sizes ← sizes_in words
  alone sizes.0 sizes.1

-- SUITE HOPS BODY SEED
abbrev pub seed_line : List (List ℕ) → Option SeedLine
seed_line words = do
  sizes ← sizes_in words
  word ← only_word sizes.1
  seed ← thirty_two word
  Some (record { sizes = sizes.0; seed = seed })

-- the suite and the geometry of sizes: a ciphertext has the suite's length
abbrev pub layout_of : SizesLine → Layout
layout_of line = record {
  ntru = line.ntru;
  geometry = geometry_of (scheme_for line.ntru).ciphertext line;
}
