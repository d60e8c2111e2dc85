-- How a packet is made: keys from encapsulation to each hop, the header from its last hop outwards with a filler, and
-- the payload under the wide keys.
use Rattle.std.specs.Prelude.{◌≡◌, ℕ, ◌+◌, ◌-◌, ◌==◌, ⊤, List, [], ◌∷◌, ◌++◌, length, take, drop, map, position, replicate, nat_lt, nat_le, Bool, true, false, ◌&&◌, Option, Some, None, Result, Ok, Err, if◌then◌else◌}
use Rattle.std.specs.Option.{option_map, option_map_or, ok_or}
use Rattle.mix_base.specs.ByteLists.{xor_stream}
use Rattle.mix_base.specs.Results.{◌>>=◌}
use Rattle.mix_base.specs.Suites.{Agrees, KemScheme, SuiteMeaning}
use Rattle.packet_form.specs.Commands.{longest_delay, spell}
use Rattle.packet_form.specs.Geometry.{Sizes, slot, routing, block}
use Rattle.packet_form.specs.declared.commands.Exit.{Exit}
use Rattle.packet_form.specs.declared.commands.Exit.TheVariants as exits
use Rattle.sphinx_unwrap.specs.Payload as payloads
use Rattle.sphinx_make.specs.NestedPath.{KeyedHop}
use Rattle.sphinx_make.specs.declared.faults.MakeFault.{MakeFault}
use Rattle.sphinx_make.specs.declared.faults.MakeFault.TheVariants as faults
use Rattle.sphinx_make.specs.declared.path.HopSpec.{HopSpec}
use Rattle.sphinx_make.specs.declared.path.SealedHop.{SealedHop}

-- ---- the path

-- a hop's delay is too long
abbrev pub is_late : HopSpec → Bool
is_late hop = option_map_or (λ delay. nat_lt longest_delay delay) hop.delay false

abbrev pub delay_refused : Option ℕ → Result ⊤ MakeFault
delay_refused None = Ok tt
delay_refused (Some hop) = Err (faults.Delay hop)

-- a path of no hop or too many is refused
unfoldable pub checked_count : Sizes → List HopSpec → Result ⊤ MakeFault
checked_count sizes path =
    if nat_le 1 (length path) && nat_le (length path) sizes.hops then Ok tt else Err faults.PathLength

-- the refusals that need no key: of the path's length, and the first delay that is too long
unfoldable pub checked : Sizes → List HopSpec → Result ⊤ MakeFault
checked sizes path = do
  fitting ← checked_count sizes path
  delay_refused (position is_late path)

-- a hop with a ciphertext and the keys of a secret
abbrev pub sealed_by : SuiteMeaning → HopSpec → List ℕ × List ℕ → SealedHop
sealed_by suite hop made = record {
  id = hop.id;
  delay = hop.delay;
  ciphertext = made.0;
  keys = suite.hop_keys made.1;
}

-- a hop with what encapsulation makes, where its key has the suite's length and decodes
unfoldable pub sealed_hop : SuiteMeaning → HopSpec → List ℕ → Option SealedHop
sealed_hop suite hop coins =
    if length hop.key == suite.kem.public_key
    then option_map (sealed_by suite hop) (suite.kem.encapsulate hop.key coins)
    else None

-- each hop of a path with its own coins; or the first that isn't sealed, counted on from a place
unfoldable pub sealed_path : SuiteMeaning → ℕ → List HopSpec → List ℕ → Result (List SealedHop) MakeFault
sealed_path suite place [] coins = Ok []
sealed_path suite place (hop ∷ rest) coins = do
  first ← ok_or (sealed_hop suite hop (take suite.kem.coins coins)) (faults.KeyForm place)
  others ← sealed_path suite (place + 1) rest (drop suite.kem.coins coins)
  Ok (first ∷ others)

-- secret keys agree with the keys of a path, hop by hop
abbrev pub AllAgree : KemScheme → List HopSpec → List (List ℕ) → Type 0
AllAgree kem [] [] = ⊤
AllAgree kem [] (key ∷ keys) = ⊥
AllAgree kem (hop ∷ path) [] = ⊥
AllAgree kem (hop ∷ path) (key ∷ keys) = Agrees kem hop.key key × AllAgree kem path keys

-- the hops of a path as their nodes see them
abbrev pub keyed : List HopSpec → List (List ℕ) → List KeyedHop
keyed [] keys = []
keyed (hop ∷ path) [] = []
keyed (hop ∷ path) (key ∷ keys) = record { secret_key = key; id = hop.id; delay = hop.delay } ∷ keyed path keys

-- ---- the header

-- the stream's bytes of a hop
abbrev pub hidden : SuiteMeaning → SealedHop → ℕ → List ℕ → List ℕ
hidden suite hop place bytes = xor_stream (suite.stream hop.keys.stream) place bytes

-- the filler that a hop adds to: what it has so far and a slot of zeros, under the end of the hop's stream
unfoldable pub next_filler : SuiteMeaning → Sizes → SealedHop → List ℕ → List ℕ
next_filler suite sizes hop filler = hidden suite hop (routing sizes - length filler) (filler ++ replicate (slot sizes) 0)

-- the MAC of a header before it
unfoldable pub header_mac : SuiteMeaning → SealedHop → List ℕ → List ℕ
header_mac suite hop routing_bytes = suite.mac hop.keys.mac (0 ∷ 0 ∷ hop.ciphertext ++ routing_bytes)

-- a slot: the ciphertext for the next hop, and the commands
abbrev pub slot_of : List ℕ → Option ℕ → Exit → List ℕ
slot_of ciphertext delay exit = ciphertext ++ spell (record { delay = delay; exit = exit })

-- the routing information for the last hop: its slot has zeros for a ciphertext, and the filler ends it
unfoldable pub routing_of_last : SuiteMeaning → Sizes → Exit → List ℕ → SealedHop → List ℕ
routing_of_last suite sizes last filler hop =
    hidden suite hop 0
    (slot_of (replicate sizes.ct 0) hop.delay last ++ replicate (routing sizes - slot sizes - length filler) 0)
    ++ filler

-- the routing information for another hop: its slot has the next hop's ciphertext, id and MAC, and the front of the next
-- hop's routing information stands behind it
unfoldable pub routing_beyond : SuiteMeaning → Sizes → SealedHop → SealedHop → List ℕ → List ℕ
routing_beyond suite sizes hop next behind =
    hidden suite hop 0
    (slot_of next.ciphertext hop.delay (exits.Hop next.id (header_mac suite next behind))
    ++ take (routing sizes - slot sizes) behind)

-- the routing information for the first of the hops, with the filler of those before it
unfoldable pub routing_for : SuiteMeaning → Sizes → Exit → List ℕ → List SealedHop → List ℕ
routing_for suite sizes last filler [] = []
routing_for suite sizes last filler (hop ∷ []) = routing_of_last suite sizes last filler hop
routing_for suite sizes last filler (hop ∷ next ∷ rest) =
    routing_beyond suite sizes hop next (routing_for suite sizes last (next_filler suite sizes hop filler) (next ∷ rest))

-- the header for a hop: version 0, ciphertext, routing information and MAC
abbrev pub header_of : SuiteMeaning → SealedHop → List ℕ → List ℕ
header_of suite hop routing_bytes = 0 ∷ 0 ∷ hop.ciphertext ++ routing_bytes ++ header_mac suite hop routing_bytes

-- the header for the first of the hops
abbrev pub header_for : SuiteMeaning → Sizes → Exit → List SealedHop → List ℕ
header_for suite sizes last [] = []
header_for suite sizes last (hop ∷ rest) = header_of suite hop (routing_for suite sizes last [] (hop ∷ rest))

-- the wide keys of the hops, in path order
abbrev pub wides_of : List SealedHop → List (List ℕ)
wides_of hops = map (λ hop. hop.keys.wide) hops

-- a header for a path whose last commands are these, with the wide keys; or the first refusal
unfoldable pub made_header : SuiteMeaning → Sizes → List HopSpec → Exit → List ℕ → Result (List ℕ × List (List ℕ)) MakeFault
made_header suite sizes path last coins = do
  fine ← checked sizes path
  hops ← sealed_path suite 0 path coins
  Ok (header_for suite sizes last hops, wides_of hops)

-- ---- the payload

-- the payload under the wide keys, encrypted from the last hop to the first
unfoldable pub encrypted_along : SuiteMeaning → List (List ℕ) → List ℕ → List ℕ
encrypted_along suite [] payload = payload
encrypted_along suite (wide ∷ rest) payload = suite.encrypt wide (encrypted_along suite rest payload)

-- what a payload becomes on the way: decrypted by the wide keys from the first hop to the last
unfoldable pub decrypted_along : SuiteMeaning → List (List ℕ) → List ℕ → List ℕ
decrypted_along suite [] payload = payload
decrypted_along suite (wide ∷ rest) payload = decrypted_along suite rest (suite.decrypt wide payload)

-- a body and a block, if there is one, have the geometry's lengths
unfoldable pub checked_contents : Sizes → List ℕ → Option (List ℕ) → Result ⊤ MakeFault
checked_contents sizes body reply_block =
    if length body == sizes.body
    then (if option_map_or (λ bytes. length bytes == block sizes) reply_block true then Ok tt else Err faults.BlockLength)
    else Err faults.BodyLength

-- the refusals of a packet that need no key: of the path's length, of the body's or the block's, and the first delay that
-- is too long
unfoldable pub checked_packet : Sizes → List HopSpec → List ℕ → Option (List ℕ) → Result ⊤ MakeFault
checked_packet sizes path body reply_block = do
  counted ← checked_count sizes path
  fitting ← checked_contents sizes body reply_block
  checked sizes path

-- a packet for a path, to a recipient: the header, and the spelled payload under the wide keys; or the first refusal
unfoldable pub made_packet : SuiteMeaning → Sizes → List HopSpec → List ℕ → List ℕ → Option (List ℕ) → List ℕ → Result (List ℕ) MakeFault
made_packet suite sizes path recipient body reply_block coins = do
  fitting ← checked_count sizes path
  fine ← checked_contents sizes body reply_block
  made ← made_header suite sizes path (exits.Recipient recipient) coins
  Ok (made.0 ++ encrypted_along suite made.1 (payloads.spell sizes reply_block body))
