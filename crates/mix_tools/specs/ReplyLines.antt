-- The lines of a request to `answer` a reply block, and of one to `open` what came back.
use Rattle.std.specs.Prelude.{ℕ, ◌+◌, ◌*◌, ◌/◌, nat_le, ◌==◌, ◌&&◌, Bool, if◌then◌else◌, List, length, Option, Some, None, option_map, codes}
use Rattle.std.specs.Str.{bytes_eq}
use Rattle.packet_form.specs.Geometry.{Sizes, block, payload}
use Rattle.mix_base.specs.Options.{◌>>=◌}
use Rattle.lab_text.specs.WordForms.{only_bytes, only_word}
use Rattle.lab_text.specs.Words.{bytes_of}
use Rattle.mix_tools.specs.FirstLines.{layout_of, sizes_line}
use Rattle.mix_tools.specs.declared.requests.Draft.{Draft}
use Rattle.mix_tools.specs.declared.requests.Draft.TheVariants.{AnswerSizes, AnswerBlock, OpenSizes, OpenKeys, Whole}
use Rattle.mix_tools.specs.declared.requests.Layout.{Layout}
use Rattle.mix_tools.specs.declared.requests.Request.TheVariants.{Answer, Open}

-- a first line of sizes under a name: the layout that it says
abbrev pub layout_under : List ℕ → List ℕ → List (List ℕ) → Option Layout
layout_under name first words = if bytes_eq first name then option_map layout_of (sizes_line words) else None

-- ---- answer SUITE HOPS BODY, block BYTES, body BYTES

abbrev pub answer_line : List ℕ → List (List ℕ) → Option Draft
answer_line first words = option_map AnswerSizes (layout_under (codes "answer") first words)

abbrev pub block_line : Layout → List ℕ → List (List ℕ) → Option Draft
block_line layout first words =
    if bytes_eq first (codes "block")
    then option_map (λ bytes. AnswerBlock layout bytes) (only_bytes (block layout.geometry) words)
    else None

abbrev pub body_line : Layout → List ℕ → List ℕ → List (List ℕ) → Option Draft
body_line layout reply_block first words =
    if bytes_eq first (codes "body")
    then option_map (λ body. Whole (Answer (record { layout = layout; block = reply_block; body = body })))
    (only_bytes layout.geometry.body words)
    else None

-- ---- open SUITE HOPS BODY, keys BYTES, payload BYTES

abbrev pub open_line : List ℕ → List (List ℕ) → Option Draft
open_line first words = option_map OpenSizes (layout_under (codes "open") first words)

-- whether bytes are keys of 128 bytes: those of one hop at least and of no more than the geometry has, and one more
abbrev pub are_keys : Sizes → List ℕ → Bool
are_keys sizes bytes =
    let count = length bytes / 128 in
    128 * count == length bytes && nat_le 2 count && nat_le count (sizes.hops + 1)

abbrev pub keys_in : Sizes → List (List ℕ) → Option (List ℕ)
keys_in sizes words = do
  word ← only_word words
  bytes ← bytes_of word
  if are_keys sizes bytes then Some bytes else None

abbrev pub keys_line : Layout → List ℕ → List (List ℕ) → Option Draft
keys_line layout first words =
    if bytes_eq first (codes "keys")
    then option_map (λ bytes. OpenKeys layout bytes) (keys_in layout.geometry words)
    else None

abbrev pub payload_line : Layout → List ℕ → List ℕ → List (List ℕ) → Option Draft
payload_line layout keys first words =
    if bytes_eq first (codes "payload")
    then option_map (λ bytes. Whole (Open (record { layout = layout; keys = keys; payload = bytes })))
    (only_bytes (payload layout.geometry) words)
    else None
