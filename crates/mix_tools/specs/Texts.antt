-- The texts that the commands write, and what each command gives.
use Rattle.std.specs.Prelude.{ℕ, List, [], ◌∷◌, ◌++◌, Option, Some, None, Result, Ok, Err, option_map, codes}
use Rattle.std.specs.Fmt.{decimal}
use Rattle.hex.specs.Hex.{encode_lower}
use Rattle.epoch_keys.specs.Keys.{epoch_public_key}
use Rattle.reply_blocks.specs.Blocks.{Keys}
use Rattle.reply_blocks.specs.declared.answering.Answered.{Answered}
use Rattle.reply_blocks.specs.declared.faults.AnswerFault.{AnswerFault}
use Rattle.reply_blocks.specs.declared.faults.OpenFault.{OpenFault}
use Rattle.sphinx_make.specs.declared.faults.MakeFault.{MakeFault}
use Rattle.lab_text.specs.WordForms.{line_of}
use Rattle.lab_text.specs.Outcomes.{Outcome, Says, Keyless, ◌>>=◌}
use Rattle.mix_tools.specs.Packets.{block_made, packet_made}
use Rattle.mix_tools.specs.Reading.{request_of}
use Rattle.mix_tools.specs.Replies.{block_answered, key_bytes, reply_opened}
use Rattle.mix_tools.specs.Suites.{scheme_for}
use Rattle.mix_tools.specs.declared.commands.Command.{Command}
use Rattle.mix_tools.specs.declared.commands.Command.TheVariants as commands
use Rattle.mix_tools.specs.declared.requests.Draft.TheVariants.{Making, Answering, Opening}
use Rattle.mix_tools.specs.declared.requests.Hop.{Hop}
use Rattle.mix_tools.specs.declared.requests.Request.{Request}
use Rattle.mix_tools.specs.declared.requests.Request.TheVariants.{Packet, Block, Answer, Open}

-- a line of a name and bytes
abbrev pub bytes_text : List ℕ → List ℕ → List ℕ
bytes_text name bytes = line_of (name ∷ encode_lower bytes ∷ [])

-- key EPOCH PK
abbrev pub key_text : ℕ → List ℕ → List ℕ
key_text epoch key = line_of (codes "key" ∷ decimal epoch ∷ encode_lower key ∷ [])

-- first ID, packet BYTES
abbrev pub sending_text : List ℕ → List ℕ → List ℕ
sending_text first packet = bytes_text (codes "first") first ++ bytes_text (codes "packet") packet

-- block BYTES, keys BYTES
abbrev pub keeping_text : List ℕ → Keys → List ℕ
keeping_text block keys = bytes_text (codes "block") block ++ bytes_text (codes "keys") (key_bytes keys)

-- the text of an epoch's public key, where it has one
abbrev pub key_owed : ℕ → Option (List ℕ) → Outcome (List ℕ)
key_owed epoch None = Keyless epoch
key_owed epoch (Some key) = Says (key_text epoch key)

-- the id of the first hop
abbrev pub first_id : List Hop → List ℕ
first_id [] = []
first_id (hop ∷ hops) = hop.id

-- the texts of what is made; a maker refuses no request in the grammar
abbrev pub packet_text : List ℕ → Result (List ℕ) MakeFault → List ℕ
packet_text first (Ok packet) = sending_text first packet
packet_text first (Err why) = []

abbrev pub block_text : Result (List ℕ × Keys) MakeFault → List ℕ
block_text (Ok made) = keeping_text made.0 made.1
block_text (Err why) = []

-- the text of an answer, which isn't refused either
abbrev pub answer_text : Result Answered AnswerFault → List ℕ
answer_text (Ok made) = sending_text made.first made.packet
answer_text (Err why) = []

-- body BYTES, or `damaged`
abbrev pub opened_text : Result (List ℕ) OpenFault → List ℕ
opened_text (Ok body) = bytes_text (codes "body") body
opened_text (Err why) = line_of (codes "damaged" ∷ [])

-- the text that a request is answered with
abbrev pub request_answer : Request → List ℕ
request_answer (Packet packet) = packet_text (first_id packet.hops) (packet_made packet)
request_answer (Block block) = block_text (block_made block)
request_answer (Answer answer) = answer_text (block_answered answer)
request_answer (Open opening) = opened_text (reply_opened opening)

-- what a request's text is answered with, where it is in the grammar
abbrev pub answer_to : Outcome Request → Outcome (List ℕ)
answer_to outcome = do
  request ← outcome
  Says (request_answer request)

-- what a command gives, where it is told the input that it reads; `keys` reads none
abbrev pub owed : Command → Option (List ℕ) → Option (Outcome (List ℕ))
owed (commands.Keys ntru seed epoch) input =
    Some (key_owed epoch (epoch_public_key (scheme_for ntru) seed epoch))
owed commands.Make input = option_map (λ text. answer_to (request_of Making text)) input
owed commands.Answer input = option_map (λ text. answer_to (request_of Answering text)) input
owed commands.Open input = option_map (λ text. answer_to (request_of Opening text)) input
