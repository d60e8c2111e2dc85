-- An answer to a reply block, and how its maker opens what comes back.
use Rattle.std.specs.Prelude.{◌≡◌, ℕ, ◌==◌, List, ◌++◌, length, slice_range, None, Result, Ok, Err, if◌then◌else◌}
use Rattle.mix_base.specs.ByteLists.{all_zero}
use Rattle.mix_base.specs.Suites.{SuiteMeaning}
use Rattle.packet_form.specs.Geometry.{Sizes, block}
use Rattle.packet_form.specs.Geometry as lengths
use Rattle.sphinx_unwrap.specs.Payload.{spell, body_of}
use Rattle.sphinx_make.specs.Making.{decrypted_along, encrypted_along}
use Rattle.reply_blocks.specs.Blocks.{Keys, block_of, first_in, header_in, own_in}
use Rattle.reply_blocks.specs.declared.answering.Answered.{Answered}
use Rattle.reply_blocks.specs.declared.faults.AnswerFault.{AnswerFault}
use Rattle.reply_blocks.specs.declared.faults.AnswerFault.TheVariants as refusals
use Rattle.reply_blocks.specs.declared.faults.OpenFault.{OpenFault}
use Rattle.reply_blocks.specs.declared.faults.OpenFault.TheVariants as faults

-- ---- answering

-- the payload of an answer: the body, spelled with no block, under the block's own key
unfoldable pub answer_payload : SuiteMeaning → Sizes → List ℕ → List ℕ → List ℕ
answer_payload suite sizes own body = suite.encrypt own (spell sizes None body)

-- the answer to a block of the right length: the id of the hop that it goes to first, and the packet
abbrev pub answer_to : SuiteMeaning → Sizes → List ℕ → List ℕ → Answered
answer_to suite sizes reply_block body = record {
  first = first_in sizes reply_block;
  packet = header_in sizes reply_block ++ answer_payload suite sizes (own_in sizes reply_block) body;
}

-- the answer to a block, or the first refusal
unfoldable pub answered : SuiteMeaning → Sizes → List ℕ → List ℕ → Result Answered AnswerFault
answered suite sizes reply_block body =
    if length reply_block == block sizes
    then (if length body == sizes.body then Ok (answer_to suite sizes reply_block body) else Err refusals.BodyLength)
    else Err refusals.BlockLength

-- the same in other words: of a block of three parts, the answer goes to the id, and is the header with the body under
-- the own key
abbrev pub AnswersParts : SuiteMeaning → Sizes → List ℕ → List ℕ → Answered → Type 0
AnswersParts suite sizes reply_block body made =
    (header first own : List ℕ) → length header ≡ lengths.header sizes → length first ≡ 32
    → reply_block ≡ block_of header first own
    → made ≡ record { first = first; packet = header ++ answer_payload suite sizes own body }

-- ---- opening

-- a reply undone: encrypted by the wide keys of the hops from the last to the first, then decrypted by the own key
unfoldable pub undone : SuiteMeaning → Keys → List ℕ → List ℕ
undone suite keys payload = suite.decrypt keys.own (encrypted_along suite keys.hops payload)

-- the body of what is recovered, where its first 32 bytes are all zero
unfoldable pub body_in : Sizes → List ℕ → Result (List ℕ) OpenFault
body_in sizes recovered =
    if all_zero (slice_range recovered 0 32) then Ok (body_of sizes recovered) else Err faults.Damaged

-- a reply opened
abbrev pub opened_reply : SuiteMeaning → Sizes → Keys → List ℕ → Result (List ℕ) OpenFault
opened_reply suite sizes keys payload = body_in sizes (undone suite keys payload)

-- what comes back of an honest answer with a body: the answer's payload, decrypted by each hop on the way
abbrev pub reply_payload : SuiteMeaning → Sizes → Keys → List ℕ → List ℕ
reply_payload suite sizes keys body = decrypted_along suite keys.hops (answer_payload suite sizes keys.own body)
