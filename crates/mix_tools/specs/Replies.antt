-- The keys of a block as bytes, and what answers a block and opens a reply.
use Rattle.std.specs.Prelude.{ℕ, zero, suc, ◌+◌, ◌-◌, ◌*◌, ◌/◌, List, [], ◌∷◌, ◌++◌, length, slice_range, flat_map, Result}
use Rattle.reply_blocks.specs.Blocks.{Keys}
use Rattle.reply_blocks.specs.Replies.{answered, opened_reply}
use Rattle.reply_blocks.specs.declared.answering.Answered.{Answered}
use Rattle.reply_blocks.specs.declared.faults.AnswerFault.{AnswerFault}
use Rattle.reply_blocks.specs.declared.faults.OpenFault.{OpenFault}
use Rattle.mix_tools.specs.Suites.{meaning_for}
use Rattle.mix_tools.specs.declared.requests.AnswerRequest.{AnswerRequest}
use Rattle.mix_tools.specs.declared.requests.OpenRequest.{OpenRequest}

-- the keys of the hops in path order, followed by the own key
abbrev pub key_bytes : Keys → List ℕ
key_bytes keys = flat_map (λ key. key) keys.hops ++ keys.own

-- the key of 128 bytes at a place, counted from 0
abbrev pub key_at : List ℕ → ℕ → List ℕ
key_at bytes place = slice_range bytes (128 * place) (128 * place + 128)

-- the keys of so many hops
abbrev pub hop_keys : List ℕ → ℕ → List (List ℕ)
hop_keys bytes zero = []
hop_keys bytes (suc count) = hop_keys bytes count ++ key_at bytes count ∷ []

-- the keys that bytes spell: the last is the own one
abbrev pub keys_of : List ℕ → Keys
keys_of bytes =
    let hops = length bytes / 128 - 1 in record { hops = hop_keys bytes hops; own = key_at bytes hops }

-- a block answered; a request in the grammar is never refused
abbrev pub block_answered : AnswerRequest → Result Answered AnswerFault
block_answered request =
    answered (meaning_for request.layout.ntru) request.layout.geometry request.block request.body

-- a reply opened
abbrev pub reply_opened : OpenRequest → Result (List ℕ) OpenFault
reply_opened request =
    opened_reply (meaning_for request.layout.ntru) request.layout.geometry (keys_of request.keys)
    request.payload
