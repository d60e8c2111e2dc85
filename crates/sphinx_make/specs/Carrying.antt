-- What a header and a packet are made for: where secret keys agree with the keys of the path, hop by hop, a payload goes
-- along it.
use Rattle.std.specs.Prelude.{◌≡◌, ℕ, List, ◌++◌, length, Option}
use Rattle.mix_base.specs.Suites.{SuiteMeaning}
use Rattle.packet_form.specs.Geometry.{Sizes}
use Rattle.packet_form.specs.Geometry as lengths
use Rattle.packet_form.specs.declared.commands.Exit.{Exit}
use Rattle.packet_form.specs.declared.commands.Exit.TheVariants.{Recipient}
use Rattle.sphinx_unwrap.specs.Payload.{spell}
use Rattle.sphinx_unwrap.specs.declared.outcome.Out.TheVariants.{Deliver}
use Rattle.sphinx_make.specs.Making.{AllAgree, decrypted_along, keyed}
use Rattle.sphinx_make.specs.NestedPath.{Arrives, Carries}
use Rattle.sphinx_make.specs.declared.path.HopSpec.{HopSpec}

-- whatever payload stands behind the header is carried along the path to these last commands, and is decrypted on the
-- way by the wide keys
abbrev pub CarriesEachPayload : SuiteMeaning → Sizes → List HopSpec → Exit → List ℕ → List (List ℕ) → Type 0
CarriesEachPayload suite sizes path last header wides =
    (keys : List (List ℕ)) (payload : List ℕ) → AllAgree suite.kem path keys → length payload ≡ lengths.payload sizes
    → Carries suite sizes (keyed path keys) last (header ++ payload) (decrypted_along suite wides payload)

-- the packet carries the spelled body and block along the path, to the recipient
abbrev pub CarriesSpelled : SuiteMeaning → Sizes → List HopSpec → List ℕ → List ℕ → Option (List ℕ) → List ℕ → Type 0
CarriesSpelled suite sizes path recipient body reply_block packet =
    (keys : List (List ℕ)) → AllAgree suite.kem path keys
    → Carries suite sizes (keyed path keys) (Recipient recipient) packet (spell sizes reply_block body)

-- the packet goes along the path, and its last hop delivers body and block to the recipient
abbrev pub IsDelivered : SuiteMeaning → Sizes → List HopSpec → List ℕ → List ℕ → Option (List ℕ) → List ℕ → Type 0
IsDelivered suite sizes path recipient body reply_block packet =
    (keys : List (List ℕ)) → AllAgree suite.kem path keys
    → Arrives suite sizes (keyed path keys) (Deliver recipient body reply_block) packet
