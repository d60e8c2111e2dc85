-- The parts of a block stand at their places, so an answer finds them there.
use Rattle.std.proofs.Common.{◌≡◌, ℕ, ◌+◌, ◌-◌, ◌++◌, List, length, take, drop, Ok, refl, ap, ◌∙◌, arith, append_assoc, eq-eqb}
use Rattle.std.proofs.lemmas.List.{length-append, take_at, drop_at}
use Rattle.mix_base.specs.Suites.{SuiteMeaning}
use Rattle.packet_form.specs.Geometry as lengths
use Rattle.packet_form.specs.Geometry.{Sizes, header}
use Rattle.reply_blocks.specs.Blocks.{block_of, first_in, header_in, own_in}
use Rattle.reply_blocks.specs.Replies.{answer_payload, answer_to, answered}
use Rattle.reply_blocks.specs.declared.answering.Answered.{Answered}

pub header_in-block_of : (sizes : Sizes) (block front first own : List ℕ) → block ≡ block_of front first own → length front ≡ header sizes → header_in sizes block ≡ front
header_in-block_of sizes block front first own is long =
    ap (take (header sizes - 0)) (is ∙ append_assoc front first own) ∙ take_at front (first ++ own) (header sizes - 0) (omega arith)

first_in-block_of : (sizes : Sizes) (block front first own : List ℕ) → block ≡ block_of front first own → length front ≡ header sizes → length first ≡ 32 → first_in sizes block ≡ first
first_in-block_of sizes block front first own is long first_long =
    ap (λ xs. take (header sizes + 32 - header sizes) (drop (header sizes) xs)) (is ∙ append_assoc front first own)
    ∙ ap (take (header sizes + 32 - header sizes)) (drop_at front (first ++ own) (header sizes) long)
    ∙ take_at first own (header sizes + 32 - header sizes) (omega arith)

own_in-block_of : (sizes : Sizes) (block front first own : List ℕ) → block ≡ block_of front first own → length front ≡ header sizes → length first ≡ 32 → own_in sizes block ≡ own
own_in-block_of sizes block front first own is long first_long =
    ap (drop (header sizes + 32)) is ∙ drop_at (front ++ first) own (header sizes + 32) (omega (arith, length-append front first))

-- the answer to a block of these parts
pub answer_to-block_of : (suite : SuiteMeaning) (sizes : Sizes) (block front first own body : List ℕ) → block ≡ block_of front first own → length front ≡ header sizes → length first ≡ 32 → answer_to suite sizes block body ≡ record { first = first; packet = front ++ answer_payload suite sizes own body }
answer_to-block_of suite sizes block front first own body is long first_long =
    rw (header_in-block_of sizes block front first own is long, first_in-block_of sizes block front first own is long first_long, own_in-block_of sizes block front first own is long first_long) refl

pub answered-block_of : (suite : SuiteMeaning) (sizes : Sizes) (block front first own body : List ℕ) → block ≡ block_of front first own → length front ≡ header sizes → length first ≡ 32 → length block ≡ lengths.block sizes → length body ≡ sizes.body → answered suite sizes block body ≡ Ok (record { first = first; packet = front ++ answer_payload suite sizes own body })
unfolding answered
answered-block_of suite sizes block front first own body is long first_long block_long body_long =
    rw (eq-eqb (length block) (lengths.block sizes) block_long, eq-eqb (length body) sizes.body body_long)
    (ap (λ (made : Answered). Ok made) (answer_to-block_of suite sizes block front first own body is long first_long))
