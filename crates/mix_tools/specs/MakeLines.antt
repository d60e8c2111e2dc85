-- The lines of a request to `make`: what each says behind what the lines before it said.
use Rattle.std.specs.Prelude.{ℕ, ◌-◌, ◌^◌, nat_lt, Bool, if◌then◌else◌, List, [], ◌∷◌, ◌++◌, length, Option, Some, None, option_map, codes}
use Rattle.std.specs.Str.{bytes_eq}
use Rattle.packet_form.specs.Commands.{longest_delay}
use Rattle.packet_form.specs.Geometry.{Sizes, block}
use Rattle.sphinx_make.specs.declared.drawing.Draw.{Draw}
use Rattle.mix_base.specs.Options.{◌>>=◌}
use Rattle.lab_text.specs.WordForms.{bytes_in, first_bytes, first_number, first_of, only_word, surb_of}
use Rattle.lab_text.specs.Words.{number_in, thirty_two}
use Rattle.mix_tools.specs.FirstLines.{layout_of, seed_line}
use Rattle.mix_tools.specs.Suites.{decodes_for, scheme_for}
use Rattle.mix_tools.specs.declared.requests.BlockRequest.{BlockRequest}
use Rattle.mix_tools.specs.declared.requests.Delay.{Delay}
use Rattle.mix_tools.specs.declared.requests.Delay.TheVariants.{Unsaid, Given, Drawn}
use Rattle.mix_tools.specs.declared.requests.Draft.{Draft}
use Rattle.mix_tools.specs.declared.requests.Draft.TheVariants.{Path, Whole}
use Rattle.mix_tools.specs.declared.requests.Head.{Head}
use Rattle.mix_tools.specs.declared.requests.Hop.{Hop}
use Rattle.mix_tools.specs.declared.requests.PacketRequest.{PacketRequest}
use Rattle.mix_tools.specs.declared.requests.Product.{Product}
use Rattle.mix_tools.specs.declared.requests.Product.TheVariants as products
use Rattle.mix_tools.specs.declared.requests.Request.TheVariants as requests
use Rattle.mix_tools.specs.declared.requests.SeedLine.{SeedLine}

-- ---- packet SUITE HOPS BODY SEED, block SUITE HOPS BODY SEED

abbrev pub head_of : SeedLine → Head
head_of line = record { layout = layout_of line.sizes; seed = line.seed }

-- a path that has no hop yet
abbrev pub begun : Product → SeedLine → Draft
begun product line = Path product (head_of line) None []

-- the first line, by its first word
abbrev pub make_line : List ℕ → List (List ℕ) → Option Draft
make_line first words =
    if bytes_eq first (codes "packet") then option_map (begun products.Packet) (seed_line words)
    else if bytes_eq first (codes "block") then option_map (begun products.Block) (seed_line words)
    else None

-- ---- draw THRESHOLD UNIT CAP

-- what stands behind the first word
abbrev pub draw_in : List (List ℕ) → Option Draw
draw_in words = do
  threshold ← first_number 0 (2 ^ 32 - 1) words
  unit ← first_number 1 60000 threshold.1
  word ← only_word unit.1
  cap ← number_in 0 longest_delay word
  Some (record { threshold = threshold.0; unit = unit.0; cap = cap })

-- once, before the first hop
abbrev pub draw_line : Product → Head → Option Draw → List Hop → List (List ℕ) → Option Draft
draw_line product head None [] words = option_map (λ draw. Path product head (Some draw) []) (draw_in words)
draw_line product head (Some earlier) [] words = None
draw_line product head draw (hop ∷ hops) words = None

-- ---- hop ID KEY DELAY

-- a dash, `draw` behind a draw line, or milliseconds
abbrev pub delay_in : Option Draw → List ℕ → Option Delay
delay_in draw word =
    if bytes_eq word (codes "-") then Some Unsaid
    else if bytes_eq word (codes "draw") then option_map Drawn draw
    else option_map Given (number_in 0 longest_delay word)

-- an id of 32 bytes and bytes of this length as the first two words, and the words behind them
abbrev pub id_and_bytes : ℕ → List (List ℕ) → Option (List ℕ × List ℕ × List (List ℕ))
id_and_bytes count words = do
  first ← first_of words
  id ← thirty_two first.0
  bytes ← first_bytes count first.1
  Some (id, bytes.0, bytes.1)

-- what stands behind the first word: the key has the suite's length and decodes
abbrev pub hop_in : Bool → Option Draw → List (List ℕ) → Option Hop
hop_in ntru draw words = do
  keyed ← id_and_bytes (scheme_for ntru).public_key words
  word ← only_word keyed.2
  delay ← delay_in draw word
  if decodes_for ntru keyed.1 then Some (record { id = keyed.0; key = keyed.1; delay = delay }) else None

-- as many as the geometry has hops
abbrev pub hop_line : Product → Head → Option Draw → List Hop → List (List ℕ) → Option Draft
hop_line product head draw hops words =
    if nat_lt (length hops) head.layout.geometry.hops
    then option_map (λ hop. Path product head draw (hops ++ hop ∷ [])) (hop_in head.layout.ntru draw words)
    else None

-- ---- to RECIPIENT BODY [BLOCK], to RECIPIENT SURBID

-- the words of a reply block: none, or one with the geometry's bytes
abbrev pub block_in : Sizes → List (List ℕ) → Option (Option (List ℕ))
block_in sizes [] = Some None
block_in sizes (word ∷ []) = option_map Some (bytes_in (block sizes) word)
block_in sizes (word ∷ other ∷ words) = None

-- what stands behind the first word for a packet
abbrev pub packet_in : Head → List Hop → List (List ℕ) → Option PacketRequest
packet_in head hops words = do
  addressed ← id_and_bytes head.layout.geometry.body words
  reply_block ← block_in head.layout.geometry addressed.2
  Some (record { head = head; hops = hops; recipient = addressed.0; body = addressed.1; block = reply_block })

-- what stands behind the first word for a block
abbrev pub reply_in : Head → List Hop → List (List ℕ) → Option BlockRequest
reply_in head hops words = do
  first ← first_of words
  recipient ← thirty_two first.0
  word ← only_word first.1
  surb ← surb_of word
  Some (record { head = head; hops = hops; recipient = recipient; surb = surb })

-- what stands behind the first word
abbrev pub ended_path : Product → Head → List Hop → List (List ℕ) → Option Draft
ended_path products.Packet head hops words =
    option_map (λ packet. Whole (requests.Packet packet)) (packet_in head hops words)
ended_path products.Block head hops words =
    option_map (λ reply_block. Whole (requests.Block reply_block)) (reply_in head hops words)

-- behind one hop at least
abbrev pub to_line : Product → Head → List Hop → List (List ℕ) → Option Draft
to_line product head [] words = None
to_line product head (hop ∷ hops) words = ended_path product head (hop ∷ hops) words

-- ---- a line behind the first, by its first word

abbrev pub path_line : Product → Head → Option Draw → List Hop → List ℕ → List (List ℕ) → Option Draft
path_line product head draw hops first words =
    if bytes_eq first (codes "draw") then draw_line product head draw hops words
    else if bytes_eq first (codes "hop") then hop_line product head draw hops words
    else if bytes_eq first (codes "to") then to_line product head hops words
    else None
