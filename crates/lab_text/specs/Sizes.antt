-- SUITE HOPS BODY: a suite and the sizes of its packets, as a line of words names them.
use Rattle.std.specs.Prelude.{ℕ, List, Option, Some}
use Rattle.mix_base.specs.Options.{◌>>=◌}
use Rattle.packet_form.specs.Geometry.{IsWithin, Sizes}
use Rattle.lab_text.specs.WordForms.{first_number, first_of, suite_of}
use Rattle.lab_text.specs.declared.sizes.SizesLine.{SizesLine}

-- SUITE HOPS BODY, and the words behind them
abbrev pub sizes_in : List (List ℕ) → Option (SizesLine × List (List ℕ))
sizes_in words = do
  suite ← first_of words
  ntru ← suite_of suite.0
  hops ← first_number 1 5 suite.1
  body ← first_number 1 4096 hops.1
  Some (record { ntru = ntru; hops = hops.0; body = body.0 }, body.1)

pub record AreSizesInRange (line : SizesLine) : Type 0 where
  pub hops : IsWithin 1 5 line.hops
  pub body : IsWithin 1 4096 line.body

-- the geometry of these sizes, where a ciphertext has this length
abbrev pub geometry_of : ℕ → SizesLine → Sizes
geometry_of ciphertext line = record { ct = ciphertext; hops = line.hops; body = line.body }
