-- A payload under the wide keys of a path, and what goes out where it is spelled for a recipient.
use Rattle.std.proofs.Common.{◌≡◌, ℕ, ◌+◌, ◌<◌, List, [], ◌∷◌, ◌++◌, length, drop, get_or, replicate, Option, Some, None, Result, Ok, Err, IsOkAnd, refl, sym, ap, subst, ◌∙◌, arith}
use Rattle.mix_base.specs.Suites.{SuiteMeaning}
use Rattle.std.proofs.lemmas.List.{drop_more, length-append, length-replicate}
use Rattle.packet_form.specs.Geometry.{Sizes, block}
use Rattle.packet_form.specs.Geometry as lengths
use Rattle.packet_form.specs.declared.commands.Exit.TheVariants as exits
use Rattle.sphinx_make.specs.Carrying.{CarriesEachPayload, CarriesSpelled, IsDelivered}
use Rattle.sphinx_make.specs.Making.{decrypted_along, encrypted_along, keyed}
use Rattle.sphinx_make.specs.NestedPath.{Arrives, Carries, Ends, GoesOut, KeyedHop}
use Rattle.sphinx_make.specs.declared.path.HopSpec.{HopSpec}
use Rattle.sphinx_unwrap.proofs.Spelling.{body_of-spell, read_block-spell}
use Rattle.sphinx_unwrap.specs.Layer.{Layer, opened}
use Rattle.sphinx_unwrap.specs.Outcome.{out, out_by, received}
use Rattle.sphinx_unwrap.specs.Payload.{HasRoom, body_of, read_block, spell}
use Rattle.sphinx_unwrap.specs.declared.faults.Refused.{Refused}
use Rattle.sphinx_unwrap.specs.declared.outcome.Out.TheVariants as outs

pub encrypted_along-nil : (suite : SuiteMeaning) (wides : List (List ℕ)) (payload : List ℕ) → length wides ≡ 0 → encrypted_along suite wides payload ≡ payload
unfolding encrypted_along
encrypted_along-nil suite [] payload e = refl
encrypted_along-nil suite (wide ∷ wides) payload e = absurd (omega arith)

-- one key more, in front of those that are done
pub encrypted_along-drop : (suite : SuiteMeaning) (wides : List (List ℕ)) (place : ℕ) (payload d : List ℕ) → place < length wides → encrypted_along suite (drop place wides) payload ≡ suite.encrypt (get_or wides place d) (encrypted_along suite (drop (place + 1) wides) payload)
unfolding encrypted_along
encrypted_along-drop suite wides place payload d within = ap (λ (ws : List (List ℕ)). encrypted_along suite ws payload) (drop_more wides place d within)

-- what a suite's laws say of its wide block cipher
pub record Undoes (suite : SuiteMeaning) : Type 0 where
  pub decrypts : (key block : List ℕ) → 32 < length block → suite.decrypt key (suite.encrypt key block) ≡ block
  pub encrypted_length : (key block : List ℕ) → 32 < length block → length (suite.encrypt key block) ≡ length block

pub length-encrypted_along : (suite : SuiteMeaning) (wides : List (List ℕ)) (payload : List ℕ) → Undoes suite → 32 < length payload → length (encrypted_along suite wides payload) ≡ length payload
unfolding encrypted_along
length-encrypted_along suite [] payload laws long = refl
length-encrypted_along suite (wide ∷ wides) payload laws long =
    let same = length-encrypted_along suite wides payload laws long in
    laws.encrypted_length wide (encrypted_along suite wides payload) (omega (arith, same)) ∙ same

pub decrypted_along-encrypted_along : (suite : SuiteMeaning) (wides : List (List ℕ)) (payload : List ℕ) → Undoes suite → 32 < length payload → decrypted_along suite wides (encrypted_along suite wides payload) ≡ payload
unfolding decrypted_along encrypted_along
decrypted_along-encrypted_along suite [] payload laws long = refl
decrypted_along-encrypted_along suite (wide ∷ wides) payload laws long =
    let inner : List ℕ = encrypted_along suite wides payload in
    let same = length-encrypted_along suite wides payload laws long in
    ap (decrypted_along suite wides) (laws.decrypts wide inner (omega (arith, same))) ∙ decrypted_along-encrypted_along suite wides payload laws long

-- ---- what goes out at the end

-- a spelled payload that the last hop finds for a recipient is delivered
goes_out : (sizes : Sizes) (recipient body : List ℕ) (reply_block : Option (List ℕ)) (hop : KeyedHop) (layer : Layer) → HasRoom sizes reply_block → Ends (exits.Recipient recipient) (spell sizes reply_block body) hop layer → GoesOut sizes (outs.Deliver recipient body reply_block) hop layer
goes_out sizes recipient body reply_block hop layer room ends =
    let by_exit : out sizes layer ≡ received recipient (body_of sizes layer.payload) (read_block sizes layer.payload) = ap (out_by sizes layer) ends.exit in
    let found : received recipient (body_of sizes layer.payload) (read_block sizes layer.payload) ≡ received recipient (body_of sizes (spell sizes reply_block body)) (read_block sizes (spell sizes reply_block body)) =
    ap (λ payload. received recipient (body_of sizes payload) (read_block sizes payload)) ends.payload in
    record {
      delay = ends.delay;
      leaves = by_exit ∙ found ∙ rw (read_block-spell sizes reply_block body room, body_of-spell sizes reply_block body room) refl;
    }

ok_and_more : (P Q : Layer → Type 0) (found : Result Layer Refused) → ((layer : Layer) → P layer → Q layer) → IsOkAnd found P → IsOkAnd found Q
ok_and_more P Q (Ok layer) more h = more layer h
ok_and_more P Q (Err why) more h = absurd h

pub arrives-carried : (suite : SuiteMeaning) (sizes : Sizes) (recipient body : List ℕ) (reply_block : Option (List ℕ)) (hops : List KeyedHop) (packet : List ℕ) → HasRoom sizes reply_block → Carries suite sizes hops (exits.Recipient recipient) packet (spell sizes reply_block body) → Arrives suite sizes hops (outs.Deliver recipient body reply_block) packet
arrives-carried suite sizes recipient body reply_block [] packet room carried = carried
arrives-carried suite sizes recipient body reply_block (hop ∷ []) packet room carried =
    ok_and_more (Ends (exits.Recipient recipient) (spell sizes reply_block body) hop) (GoesOut sizes (outs.Deliver recipient body reply_block) hop) (opened suite sizes hop.secret_key packet)
    (λ layer. goes_out sizes recipient body reply_block hop layer room) carried
arrives-carried suite sizes recipient body reply_block (hop ∷ next ∷ rest) packet room carried =
    (carried.0, (carried.1.0, arrives-carried suite sizes recipient body reply_block (next ∷ rest) carried.0 room carried.1.1))

-- ---- a packet

pub length-spell : (sizes : Sizes) (body : List ℕ) (reply_block : Option (List ℕ)) → HasRoom sizes reply_block → length body ≡ sizes.body → length (spell sizes reply_block body) ≡ lengths.payload sizes
length-spell sizes body None room long = omega (arith, length-append (replicate (block sizes) 0) body, length-replicate {A = ℕ} (block sizes) 0)
length-spell sizes body (Some bytes) room long = omega (arith, length-append bytes body)

-- what a packet is made of, and what is known of its header
pub record IsMade (suite : SuiteMeaning) (sizes : Sizes) (path : List HopSpec) (recipient body : List ℕ) (reply_block : Option (List ℕ)) (packet : List ℕ) : Type 0 where
  pub header : List ℕ
  pub wides : List (List ℕ)
  pub laws : Undoes suite
  pub room : HasRoom sizes reply_block
  pub long : length body ≡ sizes.body
  pub parts : packet ≡ header ++ encrypted_along suite wides (spell sizes reply_block body)
  pub carries : CarriesEachPayload suite sizes path (exits.Recipient recipient) header wides

pub carries-made_packet : (suite : SuiteMeaning) (sizes : Sizes) (path : List HopSpec) (recipient body : List ℕ) (reply_block : Option (List ℕ)) (packet : List ℕ) → IsMade suite sizes path recipient body reply_block packet → CarriesSpelled suite sizes path recipient body reply_block packet
carries-made_packet suite sizes path recipient body reply_block packet made = λ keys agree.
    let payload : List ℕ = spell sizes reply_block body in
    let payload_long : length payload ≡ lengths.payload sizes = length-spell sizes body reply_block made.room made.long in
    let long : 32 < length payload = omega (arith, payload_long) in
    let encrypted_long : length (encrypted_along suite made.wides payload) ≡ lengths.payload sizes = length-encrypted_along suite made.wides payload made.laws long ∙ payload_long in
    let carried = made.carries keys (encrypted_along suite made.wides payload) agree encrypted_long in
    let back : decrypted_along suite made.wides (encrypted_along suite made.wides payload) ≡ payload = decrypted_along-encrypted_along suite made.wides payload made.laws long in
    let along : Carries suite sizes (keyed path keys) (exits.Recipient recipient) packet (decrypted_along suite made.wides (encrypted_along suite made.wides payload)) =
    subst (λ (xs : List ℕ). Carries suite sizes (keyed path keys) (exits.Recipient recipient) xs (decrypted_along suite made.wides (encrypted_along suite made.wides payload))) (sym made.parts) carried in
    subst (λ (found : List ℕ). Carries suite sizes (keyed path keys) (exits.Recipient recipient) packet found) back along

pub arrives-made_packet : (suite : SuiteMeaning) (sizes : Sizes) (path : List HopSpec) (recipient body : List ℕ) (reply_block : Option (List ℕ)) (packet : List ℕ) → IsMade suite sizes path recipient body reply_block packet → IsDelivered suite sizes path recipient body reply_block packet
arrives-made_packet suite sizes path recipient body reply_block packet made = λ keys agree.
    arrives-carried suite sizes recipient body reply_block (keyed path keys) packet made.room (carries-made_packet suite sizes path recipient body reply_block packet made keys agree)
