-- The way back: an answer to a block goes along the hops of the block's path, leaves the last one as a reply, and opens
-- to the body that was answered.
use Rattle.std.specs.Prelude.{◌≡◌, ℕ, List, length, Ok, IsOkAnd}
use Rattle.mix_base.specs.Suites.{SuiteMeaning}
use Rattle.packet_form.specs.Geometry.{Sizes}
use Rattle.sphinx_unwrap.specs.declared.outcome.Out.TheVariants as outs
use Rattle.sphinx_make.specs.Making.{AllAgree, keyed}
use Rattle.sphinx_make.specs.NestedPath.{Arrives}
use Rattle.sphinx_make.specs.declared.path.HopSpec.{HopSpec}
use Rattle.reply_blocks.specs.Blocks.{Keys, first_id}
use Rattle.reply_blocks.specs.Replies.{answered, opened_reply}
use Rattle.reply_blocks.specs.declared.answering.Answered.{Answered}

-- an answer goes to the first hop of a path, and along the path's hops, each with its secret key; the last one gives a
-- reply to this recipient with this id, whose payload opens under the keys to this body
pub record ComesBack (suite : SuiteMeaning) (sizes : Sizes) (path : List HopSpec) (secrets : List (List ℕ)) (recipient surb : List ℕ) (keys : Keys) (body : List ℕ) (answer : Answered) : Type 0 where
  pub starts : answer.first ≡ first_id path
  pub payload : List ℕ
  pub arrives : Arrives suite sizes (keyed path secrets) (outs.Reply recipient surb payload) answer.packet
  pub opens : opened_reply suite sizes keys payload ≡ Ok body

-- where secret keys agree with the keys of the path, hop by hop, the answer to the block with whatever body comes back
abbrev pub EachAnswerComesBack : SuiteMeaning → Sizes → List HopSpec → List ℕ → List ℕ → List ℕ → Keys → Type 0
EachAnswerComesBack suite sizes path recipient surb block keys =
    (secrets : List (List ℕ)) (body : List ℕ) → AllAgree suite.kem path secrets → length body ≡ sizes.body
    → IsOkAnd (answered suite sizes block body) (ComesBack suite sizes path secrets recipient surb keys body)
