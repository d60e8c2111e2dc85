-- What packets say of a reply together, and that a block is answered.
use Rattle.std.proofs.Common.{◌≡◌, ℕ, List, [], ◌∷◌, length, Ok, refl, eq-eqb}
use Rattle.mix_base.specs.Suites.{SuiteMeaning}
use Rattle.packet_form.specs.Geometry.{Sizes, block}
use Rattle.reply_blocks.specs.Replies.{answer_to, answered}
use Rattle.reply_blocks.specs.declared.answering.Answered.{Answered}
use Rattle.mix_waves.specs.Fates.{fate_among}
use Rattle.mix_waves.specs.declared.fates.ReplyFate.{ReplyFate}
use Rattle.mix_waves.specs.declared.fates.ReplyFate.TheVariants.{Opened, Damaged, Lost}

pub answered_fits : (suite : SuiteMeaning) (sizes : Sizes) (reply_block body : List ℕ) (made : Answered) → length reply_block ≡ block sizes → length body ≡ sizes.body
    → answered suite sizes reply_block body ≡ Ok made → made ≡ answer_to suite sizes reply_block body
unfolding answered
answered_fits suite sizes reply_block body made block_fits body_fits is =
    let same : Ok (answer_to suite sizes reply_block body) ≡ Ok made =
    (rw (eq-eqb (length reply_block) (block sizes) block_fits, eq-eqb (length body) sizes.body body_fits) at is) in cc

pub joined_rest : (first second both : ReplyFate) (rest : List ReplyFate) → both ≡ fate_among (first ∷ second ∷ [])
    → fate_among (both ∷ rest) ≡ fate_among (first ∷ second ∷ rest)
joined_rest Opened Opened both rest is = rw is refl
joined_rest Opened Damaged both rest is = rw is refl
joined_rest Opened Lost both rest is = rw is refl
joined_rest Damaged Opened both rest is = rw is refl
joined_rest Damaged Damaged both rest is = rw is refl
joined_rest Damaged Lost both rest is = rw is refl
joined_rest Lost Opened both rest is = rw is refl
joined_rest Lost Damaged both rest is = rw is refl
joined_rest Lost Lost both rest is = rw is refl
