-- The command `storm`: the words that name one, the node that it drives, its packets and its events. All of it follows from a
-- suite, a number and a seed.
use Rattle.std.specs.Prelude.{ℕ, zero, suc, ◌+◌, ◌-◌, ◌*◌, ◌%◌, ◌==◌, bit_xor, Bool, true, false, if◌then◌else◌, List, [], ◌∷◌, ◌++◌, length, take, slice_index, slice_set, replicate, Option, Some, None, option_map, unwrap_or, codes}
use Rattle.std.specs.Int.{to_be_bytes, w64}
use Rattle.std.specs.List.{flat_map}
use Rattle.std.specs.Option.{option_map_or}
use Rattle.std.specs.Result.{result_ok}
use Rattle.std.specs.Str.{bytes_eq}
use Rattle.mix_base.specs.Options.{◌>>=◌}
use Rattle.mix_base.specs.Suites.{SuiteMeaning}
use Rattle.mix_base.specs.WordStreams.{first_words}
use Rattle.prim_std.specs.Primitives.{chacha_word, hmac}
use Rattle.packet_form.specs.Geometry.{Sizes, header}
use Rattle.sphinx_make.specs.Making.{made_packet}
use Rattle.sphinx_make.specs.declared.path.HopSpec.{HopSpec}
use Rattle.epoch_keys.specs.Epochs.{current}
use Rattle.epoch_keys.specs.Keys.{epoch_public_key}
use Rattle.node_core.specs.declared.setup.NodeSetup.{NodeSetup}
use Rattle.lab_text.specs.Words.{number_in, thirty_two}
use Rattle.lab_text.specs.WordForms.{suite_of}
use Rattle.lab_text.specs.declared.events.Event.{Event}
use Rattle.lab_text.specs.declared.events.Event.TheVariants.{Recv, Peel, Claim, Send, Rotate, Crash}
use Rattle.lab_text.specs.declared.node_lines.NodeLine.{NodeLine}
use Rattle.mix_top.specs.Acts.{Act, acts_of, first_acts}
use Rattle.mix_top.specs.declared.storm.words.Storm.{Storm}

-- ---- the words

-- how many packets a storm has at most
abbrev pub most_packets : Bool → ℕ
most_packets true = 2000
most_packets false = 100000

-- storm SUITE N SEED: what stands behind the first word
abbrev pub storm_in : List (List ℕ) → Option Storm
storm_in [] = None
storm_in (suite ∷ []) = None
storm_in (suite ∷ count ∷ []) = None
storm_in (suite ∷ count ∷ seed ∷ []) = do
  ntru ← suite_of suite
  number ← number_in 1 (most_packets ntru) count
  bytes ← thirty_two seed
  Some (record { ntru = ntru; count = number; seed = bytes })
storm_in (suite ∷ count ∷ seed ∷ other ∷ words) = None

-- the storm that the words name
abbrev pub storm_of : List (List ℕ) → Option Storm
storm_of [] = None
storm_of (first ∷ words) = if bytes_eq first (codes "storm") then storm_in words else None

-- ---- the node

-- the bytes of a body
abbrev pub body_size : Bool → ℕ
body_size true = 2000
body_size false = 64

-- the line that would set it up: node SUITE 5 BODY 4 1200000 120000 SEED
abbrev pub storm_line : Storm → NodeLine
storm_line storm = record {
  ntru = storm.ntru;
  hops = 5;
  body = body_size storm.ntru;
  shards = 4;
  epoch = 1200000;
  grace = 120000;
  seed = storm.seed;
}

-- ---- a fresh packet

-- the words behind the first so many
abbrev pub words_behind : ℕ → (ℕ → ℕ) → ℕ → ℕ
words_behind taken words place = words (taken + place)

-- when packet NUMBER arrives, from 0 on one each second; and the epoch of its key
abbrev pub moment_of : ℕ → ℕ
moment_of number = 1000 * number

abbrev pub epoch_of : NodeSetup → ℕ → ℕ
epoch_of setup number = current setup.times (moment_of number)

-- the path of one hop, which has this key and holds the packet for so many milliseconds
abbrev pub path_with : List ℕ → ℕ → List HopSpec
path_with key delay = record { id = replicate 32 17; key = key; delay = Some delay } ∷ []

-- the recipient
abbrev pub recipient_id : List ℕ
recipient_id = replicate 32 34

-- the body: the packet's number, and zeros
abbrev pub body_of : NodeSetup → ℕ → List ℕ
body_of setup number = to_be_bytes w64 number ++ replicate (setup.geo.body - 8) 0

-- the packet under a key, of the words to come: the first for the delay, those behind it for the coins. No maker refuses the
-- key of a pair
abbrev pub packet_under : SuiteMeaning → NodeSetup → ℕ → (ℕ → ℕ) → List ℕ → List ℕ
packet_under suite setup number words key =
    let coins = first_words (words_behind 1 words) suite.kem.coins in
    let path = path_with key (words 0 % 1000) in
    unwrap_or (result_ok (made_packet suite setup.geo path recipient_id (body_of setup number) None coins)) []

-- there is none where the epoch has no key pair
abbrev pub fresh_packet : SuiteMeaning → NodeSetup → ℕ → (ℕ → ℕ) → Option (List ℕ)
fresh_packet suite setup number words =
    option_map (packet_under suite setup number words) (epoch_public_key suite.kem setup.seed (epoch_of setup number))

-- ---- packets of all kinds

-- where a storm stands: the words to come, and the last packet of kind fresh
pub record Making : Type 0 where
  pub words : ℕ → ℕ
  pub last : Option (List ℕ)

-- at first
abbrev pub first_making : List ℕ → Making
first_making seed = record { words = chacha_word (hmac seed (codes "mix-storm")); last = None }

-- a packet with another last byte of its MAC, which ends the header; a packet without its last byte
abbrev pub changed : Sizes → List ℕ → List ℕ
changed sizes packet = slice_set packet (header sizes - 1) (bit_xor (slice_index packet (header sizes - 1)) 1)

abbrev pub cut : List ℕ → List ℕ
cut packet = take (length packet - 1) packet

-- packet NUMBER of a kind, and where the storm stands behind it
module _ (suite : SuiteMeaning) (setup : NodeSetup) (number : ℕ) where
  abbrev pub made_fresh : Making → Option (List ℕ × Making)
  made_fresh making = do
    packet ← fresh_packet suite setup number making.words
    Some (packet, record { words = words_behind (1 + suite.kem.coins) making.words; last = making.last })

  -- the last of kind fresh from now on
  abbrev pub made_last : Making → Option (List ℕ × Making)
  made_last making = option_map (λ made. (made.0, record { words = made.1.words; last = Some made.0 })) (made_fresh making)

  -- the last one of kind fresh again; where there is none, one of kind fresh
  abbrev pub made_again : Option (List ℕ) → Making → Option (List ℕ × Making)
  made_again None making = made_last making
  made_again (Some last) making = Some (last, making)

  -- by the kind
  abbrev pub made_as : ℕ → Making → Option (List ℕ × Making)
  made_as kind making =
      if kind == 5 then made_again making.last making
      else if kind == 6 then option_map (λ made. (changed setup.geo made.0, made.1)) (made_fresh making)
      else if kind == 7 then option_map (λ made. (cut made.0, made.1)) (made_fresh making)
      else made_last making

  -- the kind is of the next word
  abbrev pub next_packet : Making → Option (List ℕ × Making)
  next_packet making = made_as (making.words 0 % 8) (record { words = words_behind 1 making.words; last = making.last })

-- ---- the events

-- a rotation behind each thousandth packet, a crash behind each five-thousandth
abbrev pub rotations_of : ℕ → List Event
rotations_of number = if number % 1000 == 999 then Rotate (moment_of number) ∷ [] else []

abbrev pub crashes_of : ℕ → List Event
crashes_of number = if number % 5000 == 4999 then Crash 0 ∷ [] else []

-- those of packet NUMBER
abbrev pub events_of : ℕ → List ℕ → List Event
events_of number packet =
    (Recv (moment_of number) packet ∷ Peel (number % 4) ∷ Claim (number % 4) ∷ Send (moment_of number) ∷ [])
    ++ rotations_of number ++ crashes_of number

-- how they end: behind the last packet's, or before the packet whose epoch has no key pair
pub data StormEnding : Type 0 where
  AtEnd : StormEnding
  Keyless : (epoch : ℕ) → StormEnding

pub record Course : Type 0 where
  pub events : List Event
  pub ending : StormEnding

-- events in front of others
abbrev pub before_course : List Event → Course → Course
before_course events course = record { events = events ++ course.events; ending = course.ending }

-- so many packets more, the first of them with this number; and behind the last a hand-on for each packet of the storm
abbrev pub course_from : SuiteMeaning → NodeSetup → (more number : ℕ) → Making → Course
course_from suite setup zero number making = record { events = replicate number (Send (moment_of number)); ending = AtEnd }
course_from suite setup (suc more) number making =
    option_map_or (λ made. before_course (events_of number made.0) (course_from suite setup more (number + 1) made.1))
    (next_packet suite setup number making)
    (record { events = []; ending = Keyless (epoch_of setup number) })

-- the whole storm
abbrev pub course_of : SuiteMeaning → NodeSetup → ℕ → Course
course_of suite setup count = course_from suite setup count 0 (first_making setup.seed)

-- what it asks of the node, act by act
abbrev pub storm_acts : NodeSetup → Course → List Act
storm_acts setup course = first_acts setup.shards ++ flat_map (acts_of setup.shards) course.events
