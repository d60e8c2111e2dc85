-- The keys of a block as bytes, and an answer that is never refused.
use Rattle.std.proofs.Common.{◌≡◌, ℕ, ◌+◌, ◌-◌, ◌*◌, ◌/◌, ◌≤◌, List, [], ◌∷◌, ◌++◌, length, None, IsOk, IsTrue, refl, add-one, arith, eq-eqb}
use Rattle.std.proofs.lemmas.Bool.Decides.{nat_tests}
use Rattle.packet_form.specs.Geometry.{Sizes, block}
use Rattle.mix_base.specs.Suites.{SuiteMeaning}
use Rattle.reply_blocks.specs.Replies.{answered}
use Rattle.reply_blocks.specs.declared.faults.AnswerFault.{AnswerFault}
use Rattle.mix_tools.proofs.Refusals.{only_memory}
use Rattle.mix_tools.specs.Drafts.{IsRequestInRange}
use Rattle.mix_tools.specs.ReplyLines.{are_keys}
use Rattle.mix_tools.specs.Replies.{block_answered, hop_keys, key_at}
use Rattle.mix_tools.specs.Suites.{meaning_for}
use Rattle.mix_tools.specs.declared.requests.AnswerRequest.{AnswerRequest}
use Rattle.mix_tools.specs.declared.requests.Request.TheVariants.{Answer}
use Rattle.mix_base.specs.Results.{IsRefusedBy}
use Rattle.reply_blocks.specs.Faults.{answer_cause}

-- one hop's key more
pub hop_keys_more : (bytes : List ℕ) (count : ℕ) → hop_keys bytes (count + 1) ≡ hop_keys bytes count ++ key_at bytes count ∷ []
hop_keys_more bytes count = rw add-one refl

-- the own key stands inside the bytes
pub keys_fit : (sizes : Sizes) (bytes : List ℕ) → IsTrue (are_keys sizes bytes) → 128 * (length bytes / 128 - 1) + 128 ≤ length bytes
keys_fit sizes bytes fine = grind (arith, nat_tests)

answered-ok : (suite : SuiteMeaning) (sizes : Sizes) (reply_block body : List ℕ) → length reply_block ≡ block sizes → length body ≡ sizes.body
    → IsOk (answered suite sizes reply_block body)
unfolding answered
answered-ok suite sizes reply_block body block_fits fits = rw (eq-eqb (length reply_block) (block sizes) block_fits, eq-eqb (length body) sizes.body fits) refl

-- a request in the grammar is never refused
pub answer-never_refused : (request : AnswerRequest) (why : AnswerFault) → IsRequestInRange (Answer request)
    → IsRefusedBy (answer_cause why) (block_answered request) → answer_cause why ≡ None
answer-never_refused request why fine fails =
    only_memory (answer_cause why) (block_answered request)
    (answered-ok (meaning_for request.layout.ntru) request.layout.geometry request.block request.body fine.0 fine.1) fails
