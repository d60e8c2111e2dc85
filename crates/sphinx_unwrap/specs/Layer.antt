-- One layer of a packet, taken off with a hop's secret key: a function on whole lists. A packet is a version of
-- two bytes, a ciphertext, the routing information, a MAC and a payload.
use Rattle.std.specs.Prelude.{◌≡◌, ◌≢◌, ⊤, ℕ, ◌+◌, ◌-◌, ◌==◌, List, [], ◌∷◌, ◌++◌, length, drop, replicate, slice_range, Bool, Option, Some, None, Result, Ok, Err, if◌then◌else◌}
use Rattle.std.specs.Option.{option_and_then, option_map, ok_or}
use Rattle.std.specs.Str.{bytes_eq}
use Rattle.sha2.specs.Sha256.{sha256}
use Rattle.mix_base.specs.ByteLists.{xor_stream}
use Rattle.mix_base.specs.Results.{◌>>=◌}
use Rattle.mix_base.specs.Suites.{SuiteMeaning}
use Rattle.mix_base.specs.declared.suites.HopKeys.{HopKeys}
use Rattle.packet_form.specs.Commands.{read}
use Rattle.packet_form.specs.Geometry.{Sizes, slot, routing, header}
use Rattle.packet_form.specs.Geometry as lengths
use Rattle.packet_form.specs.declared.commands.Cmds.{Cmds}
use Rattle.sphinx_unwrap.specs.declared.faults.Refused.{Refused}
use Rattle.sphinx_unwrap.specs.declared.faults.Refused.TheVariants.{Length, Version, Sealed, Commands}

-- the ciphertext, behind the version
abbrev pub ciphertext_of : Sizes → List ℕ → List ℕ
ciphertext_of sizes packet = slice_range packet 2 (2 + sizes.ct)

-- the routing information, behind the ciphertext
abbrev pub routing_of : Sizes → List ℕ → List ℕ
routing_of sizes packet = slice_range packet (2 + sizes.ct) (header sizes - 32)

-- the MAC: the header's last 32 bytes
abbrev pub mac_of : Sizes → List ℕ → List ℕ
mac_of sizes packet = slice_range packet (header sizes - 32) (header sizes)

-- what the MAC is of: the header before it
abbrev pub authenticated : Sizes → List ℕ → List ℕ
authenticated sizes packet = slice_range packet 0 (header sizes - 32)

-- the payload, behind the header
abbrev pub payload_of : Sizes → List ℕ → List ℕ
payload_of sizes packet = drop (header sizes) packet

-- the replay tag: SHA-256 of the ciphertext
abbrev pub tag_of : Sizes → List ℕ → List ℕ
tag_of sizes packet = sha256 (ciphertext_of sizes packet)

-- a packet has the length of the geometry, and version 0
unfoldable pub shape : Sizes → List ℕ → Result ⊤ Refused
shape sizes packet =
    if length packet == lengths.packet sizes
    then (if bytes_eq (slice_range packet 0 2) (0 ∷ 0 ∷ []) then Ok tt else Err Version)
    else Err Length

-- the same in other words: another length than the geometry's
abbrev pub HasOtherLength : Sizes → List ℕ → Type 0
HasOtherLength sizes packet = length packet ≢ lengths.packet sizes

-- the geometry's length, and another version than 0
abbrev pub HasOtherVersion : Sizes → List ℕ → Type 0
HasOtherVersion sizes packet = (length packet ≡ lengths.packet sizes) × (slice_range packet 0 2 ≢ 0 ∷ 0 ∷ [])

-- the hop's keys, where the ciphertext decapsulates
unfoldable pub hop_keys_of : SuiteMeaning → Sizes → List ℕ → List ℕ → Option HopKeys
hop_keys_of suite sizes sk packet = option_map suite.hop_keys (suite.kem.decapsulate sk (ciphertext_of sizes packet))

-- the header's MAC is true under these keys
unfoldable pub is_authentic : SuiteMeaning → Sizes → List ℕ → HopKeys → Bool
is_authentic suite sizes packet keys = bytes_eq (suite.mac keys.mac (authenticated sizes packet)) (mac_of sizes packet)

-- the hop's keys, where the secret key opens the packet: the ciphertext decapsulates, and the MAC is true
unfoldable pub unsealed : SuiteMeaning → Sizes → List ℕ → List ℕ → Option HopKeys
unsealed suite sizes sk packet =
    option_and_then (λ keys. if is_authentic suite sizes packet keys then Some keys else None) (hop_keys_of suite sizes sk packet)

-- the secret key doesn't open the packet, whose length and version are right
abbrev pub IsSealedTo : SuiteMeaning → Sizes → List ℕ → List ℕ → Type 0
IsSealedTo suite sizes sk packet = (shape sizes packet ≡ Ok tt) × (unsealed suite sizes sk packet ≡ None)

-- the routing information with a slot of zeros behind it, under the hop's stream: this hop's slot, and behind it
-- the next hop's routing information
unfoldable pub unhidden : SuiteMeaning → Sizes → HopKeys → List ℕ → List ℕ
unhidden suite sizes keys packet = xor_stream (suite.stream keys.stream) 0 (routing_of sizes packet ++ replicate (slot sizes) 0)

-- the payload after one decryption under the hop's keys
abbrev pub payload_under : SuiteMeaning → Sizes → List ℕ → HopKeys → List ℕ
payload_under suite sizes packet keys = suite.decrypt keys.wide (payload_of sizes packet)

-- what stands in a packet under one layer
pub record Layer : Type 0 where
  pub tag : List ℕ
  -- how long this hop holds the packet, and where it goes from here
  pub commands : Cmds
  -- what goes on to a next hop
  pub next_ciphertext : List ℕ
  pub next_routing : List ℕ
  pub payload : List ℕ

-- the command bytes of a slot, behind the next ciphertext
abbrev pub commands_of : Sizes → List ℕ → List ℕ
commands_of sizes slots = slice_range slots sizes.ct (slot sizes)

-- the layer under keys that opened the packet
unfoldable pub layer_of : SuiteMeaning → Sizes → List ℕ → HopKeys → Result Layer Refused
layer_of suite sizes packet keys = do
  commands ← ok_or (read (commands_of sizes (unhidden suite sizes keys packet))) Commands
  Ok (record {
    tag = tag_of sizes packet;
    commands = commands;
    next_ciphertext = slice_range (unhidden suite sizes keys packet) 0 sizes.ct;
    next_routing = drop (slot sizes) (unhidden suite sizes keys packet);
    payload = payload_under suite sizes packet keys;
  })

-- the layer under a secret key, or the first refusal
unfoldable pub opened : SuiteMeaning → Sizes → List ℕ → List ℕ → Result Layer Refused
opened suite sizes sk packet = do
  shaped ← shape sizes packet
  keys ← ok_or (unsealed suite sizes sk packet) Sealed
  layer_of suite sizes packet keys
