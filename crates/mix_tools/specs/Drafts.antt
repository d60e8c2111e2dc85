-- What a draft becomes with one line more, and what is known of a draft.
use Rattle.std.specs.Prelude.{◌≡◌, ℕ, ◌^◌, ◌<◌, ◌≤◌, ⊤, Bool, List, length, All, Option, Some, None, IfSome, IsTrue}
use Rattle.packet_form.specs.Commands.{longest_delay}
use Rattle.packet_form.specs.Geometry.{IsWithin, block, payload}
use Rattle.sphinx_make.specs.declared.drawing.Draw.{Draw}
use Rattle.mix_tools.specs.MakeLines.{make_line, path_line}
use Rattle.lab_text.specs.Outcomes.{Outcome, Says, Outside, at_line}
use Rattle.lab_text.specs.WordForms.{said_words}
use Rattle.mix_tools.specs.Suites.{decodes_for, scheme_for}
use Rattle.mix_tools.specs.ReplyLines.{answer_line, are_keys, block_line, body_line, keys_line, open_line, payload_line}
use Rattle.mix_tools.specs.declared.requests.Delay.{Delay}
use Rattle.mix_tools.specs.declared.requests.Delay.TheVariants.{Unsaid, Given, Drawn}
use Rattle.mix_tools.specs.declared.requests.Draft.{Draft}
use Rattle.mix_tools.specs.declared.requests.Draft.TheVariants.{Making, Path, Answering, AnswerSizes, AnswerBlock, Opening, OpenSizes, OpenKeys, Whole}
use Rattle.mix_tools.specs.declared.requests.Head.{Head}
use Rattle.mix_tools.specs.declared.requests.Hop.{Hop}
use Rattle.mix_tools.specs.declared.requests.Request.{Request}
use Rattle.mix_tools.specs.declared.requests.Request.TheVariants.{Packet, Block, Answer, Open}

-- the draft behind a line that says something; none may come behind a whole request
abbrev pub said_behind : ℕ → Draft → List ℕ → List (List ℕ) → Outcome Draft
said_behind number Making first words = at_line number (make_line first words)
said_behind number (Path product head draw hops) first words =
    at_line number (path_line product head draw hops first words)
said_behind number Answering first words = at_line number (answer_line first words)
said_behind number (AnswerSizes layout) first words = at_line number (block_line layout first words)
said_behind number (AnswerBlock layout reply_block) first words =
    at_line number (body_line layout reply_block first words)
said_behind number Opening first words = at_line number (open_line first words)
said_behind number (OpenSizes layout) first words = at_line number (keys_line layout first words)
said_behind number (OpenKeys layout keys) first words =
    at_line number (payload_line layout keys first words)
said_behind number (Whole request) first words = Outside number

-- the draft behind the first word of a line and those behind it, where it says something
abbrev pub then_said : ℕ → Draft → Option (List ℕ × List (List ℕ)) → Outcome Draft
then_said number draft None = Says draft
then_said number draft (Some words) = said_behind number draft words.0 words.1

-- the draft behind the words of a line
abbrev pub draft_behind : ℕ → Draft → List (List ℕ) → Outcome Draft
draft_behind number draft words = then_said number draft (said_words words)

-- ---- what is known

-- a unit of 1 to 60,000 milliseconds, and a cap of three hours at most
pub record IsDrawInRange (draw : Draw) : Type 0 where
  pub threshold : draw.threshold < 2 ^ 32
  pub unit : IsWithin 1 60000 draw.unit
  pub cap : draw.cap ≤ longest_delay

abbrev pub IsDelayInRange : Delay → Type 0
IsDelayInRange Unsaid = ⊤
IsDelayInRange (Given milliseconds) = milliseconds ≤ longest_delay
IsDelayInRange (Drawn draw) = IsDrawInRange draw

-- the key is one of the suite
pub record IsHopInRange (ntru : Bool) (hop : Hop) : Type 0 where
  pub key : length hop.key ≡ (scheme_for ntru).public_key
  pub decodes : IsTrue (decodes_for ntru hop.key)
  pub delay : IsDelayInRange hop.delay

-- the suite's geometry, no more hops than it has, and keys of the suite
pub record IsPathInRange (head : Head) (hops : List Hop) : Type 0 where
  pub ciphertext : head.layout.geometry.ct ≡ (scheme_for head.layout.ntru).ciphertext
  pub most : head.layout.geometry.hops ≤ 5
  pub count : length hops ≤ head.layout.geometry.hops
  pub each : All (IsHopInRange head.layout.ntru) hops

-- the same with one hop at least
pub record IsPathWhole (head : Head) (hops : List Hop) : Type 0 where
  pub path : IsPathInRange head hops
  pub some : 0 < length hops

abbrev pub IsRequestInRange : Request → Type 0
IsRequestInRange (Packet packet) =
    IsPathWhole packet.head packet.hops × (length packet.body ≡ packet.head.layout.geometry.body)
    × IfSome packet.block (λ bytes. length bytes ≡ block packet.head.layout.geometry)
IsRequestInRange (Block reply_block) = IsPathWhole reply_block.head reply_block.hops
IsRequestInRange (Answer answer) =
    (length answer.block ≡ block answer.layout.geometry)
    × (length answer.body ≡ answer.layout.geometry.body)
IsRequestInRange (Open opening) =
    IsTrue (are_keys opening.layout.geometry opening.keys)
    × (length opening.payload ≡ payload opening.layout.geometry)

abbrev pub IsDraftInRange : Draft → Type 0
IsDraftInRange Making = ⊤
IsDraftInRange (Path product head draw hops) = IsPathInRange head hops × IfSome draw IsDrawInRange
IsDraftInRange Answering = ⊤
IsDraftInRange (AnswerSizes layout) = ⊤
IsDraftInRange (AnswerBlock layout reply_block) = length reply_block ≡ block layout.geometry
IsDraftInRange Opening = ⊤
IsDraftInRange (OpenSizes layout) = ⊤
IsDraftInRange (OpenKeys layout keys) = IsTrue (are_keys layout.geometry keys)
IsDraftInRange (Whole request) = IsRequestInRange request
