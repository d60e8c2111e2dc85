-- The makers refuse no message of the network: its paths have the right length, its keys seal, its delays are in time, and body
-- and block have the geometry's lengths.
use Rattle.std.proofs.Common.{◌≡◌, ℕ, ◌-◌, ◌≤◌, List, [], ◌∷◌, length, take, replicate, All, false, nat_lt, Option, Some, None, Result, Ok, Err, IsOk, refl, arith, length-append}
use Rattle.std.specs.Prelude.{⊤}
use Rattle.std.specs.Option.{option_map_or}
use Rattle.std.proofs.lemmas.Bool.{le-ltb}
use Rattle.std.proofs.lemmas.List.{length-replicate, length-take}
use Rattle.std.proofs.lemmas.List.Elements.{All-cons, All-head, All-nil, All-tail}
use Rattle.mix_base.specs.Results.{◌>>=◌}
use Rattle.mix_base.specs.Suites.{SuiteMeaning}
use Rattle.packet_form.specs.Commands.{longest_delay}
use Rattle.packet_form.specs.Geometry.{Sizes, block}
use Rattle.packet_form.specs.declared.commands.Exit.{Exit}
use Rattle.packet_form.specs.declared.commands.Exit.TheVariants.{Reply}
use Rattle.sphinx_make.specs.Making.{checked, checked_contents, checked_count, made_header, made_packet, sealed_path}
use Rattle.sphinx_make.specs.declared.faults.MakeFault.{MakeFault}
use Rattle.sphinx_make.specs.declared.path.HopSpec.{HopSpec}
use Rattle.sphinx_make.specs.declared.path.SealedHop.{SealedHop}
use Rattle.reply_blocks.specs.Blocks.{made_block}
use Rattle.lab_text.specs.Settings.{IsConfigInRange}
use Rattle.lab_text.specs.declared.settings.Config.{Config}
use Rattle.mix_tools.specs.Suites.{meaning_for}
use Rattle.mix_tools.proofs.MadePackets.{IsMakeable, made_packet-ok}
use Rattle.mix_waves.specs.Choosing.{IsFineHop, IsPath}
use Rattle.mix_waves.specs.Network.{sizes_of}
use Rattle.mix_waves.specs.Sending.{padded}

-- ---- bodies

pub length-padded : (size : ℕ) (text : List ℕ) → length (padded size text) ≡ size
length-padded size text =
    let parts = length-append (take size text) (replicate (size - length text) 0) in
    let front = length-take size text in
    let zeros = length-replicate {A = ℕ} (size - length text) 0 in
    omega (arith, parts, front, zeros)

-- ---- paths

late : (delay : Option ℕ) → ((d : ℕ) → delay ≡ Some d → d ≤ longest_delay) → option_map_or (λ d. nat_lt longest_delay d) delay false ≡ false
late None fine = refl
late (Some d) fine = le-ltb longest_delay d (fine d refl)

makeable : (config : Config) (hops : List HopSpec) → All (IsFineHop config) hops → All (IsMakeable (meaning_for config.ntru)) hops
makeable config [] fine = All-nil (IsMakeable (meaning_for config.ntru))
makeable config (hop ∷ hops) fine =
    let first = All-head (IsFineHop config) hop hops fine in
    All-cons (IsMakeable (meaning_for config.ntru)) hop hops
    (record { key = first.key.size; sealed = first.key.seals; delay = late hop.delay first.delay })
    (makeable config hops (All-tail (IsFineHop config) hop hops fine))

-- ---- what is made

pub packet_is_made : (config : Config) (path : List HopSpec) (recipient body bytes coins : List ℕ) → IsConfigInRange config → IsPath config path
    → length body ≡ config.body → length bytes ≡ block (sizes_of config)
    → IsOk (made_packet (meaning_for config.ntru) (sizes_of config) path recipient body (Some bytes) coins)
packet_is_made config path recipient body bytes coins in_range fine fits block_fits =
    made_packet-ok (meaning_for config.ntru) (sizes_of config) path recipient body (Some bytes) coins
    (omega (arith, fine.count, in_range.layers.0)) (omega (arith, fine.count)) (makeable config path fine.each) fits block_fits

-- a header is made where a packet is, whatever its last commands
header_of_four : {A : Type 0} (a b c : Result ⊤ MakeFault) (d : Result (List SealedHop) MakeFault) (f : List SealedHop → List ℕ × List (List ℕ)) (g : List SealedHop → List ℕ × List (List ℕ))
    (h : List ℕ × List (List ℕ) → A)
    → IsOk (a >>= (λ x. b >>= (λ y. (c >>= (λ z. d >>= (λ hops. Ok (f hops)))) >>= (λ made. Ok (h made)))))
    → IsOk (c >>= (λ z. d >>= (λ hops. Ok (g hops))))
header_of_four (Ok x) (Ok y) (Ok z) (Ok hops) f g h fine = refl
header_of_four (Err why) b c d f g h fine = cc
header_of_four (Ok x) (Err why) c d f g h fine = cc
header_of_four (Ok x) (Ok y) (Err why) d f g h fine = cc
header_of_four (Ok x) (Ok y) (Ok z) (Err why) f g h fine = cc

header_is_made : (suite : SuiteMeaning) (sizes : Sizes) (path : List HopSpec) (recipient body coins : List ℕ) (last : Exit)
    → IsOk (made_packet suite sizes path recipient body None coins) → IsOk (made_header suite sizes path last coins)
unfolding made_packet made_header
header_is_made suite sizes path recipient body coins last fine =
    header_of_four (checked_count sizes path) (checked_contents sizes body None) (checked sizes path) (sealed_path suite 0 path coins) _ _ _ fine

block_of_header : {A : Type 0} (made : Result (List ℕ × List (List ℕ)) MakeFault) (f : List ℕ × List (List ℕ) → A) → IsOk made → IsOk (made >>= (λ header. Ok (f header)))
block_of_header (Ok header) f fine = refl
block_of_header (Err why) f fine = cc

pub block_is_made : (config : Config) (path : List HopSpec) (recipient surb own coins : List ℕ) → IsConfigInRange config → IsPath config path
    → IsOk (made_block (meaning_for config.ntru) (sizes_of config) path recipient surb own coins)
unfolding made_block
block_is_made config path recipient surb own coins in_range fine =
    let suite = meaning_for config.ntru in
    let sizes = sizes_of config in
    let body = replicate config.body 0 in
    let packet = made_packet-ok suite sizes path recipient body None coins
    (omega (arith, fine.count, in_range.layers.0)) (omega (arith, fine.count)) (makeable config path fine.each) (length-replicate {A = ℕ} config.body 0) tt in
    block_of_header (made_header suite sizes path (Reply recipient surb) coins) _ (header_is_made suite sizes path recipient body coins (Reply recipient surb) packet)
