-- The line of the report for a packet that is handed on.
use Rattle.std.specs.Prelude.{ℕ, List, [], ◌∷◌, codes, Option, Some, None}
use Rattle.std.specs.Fmt.{decimal}
use Rattle.hex.specs.Hex.{encode_lower}
use Rattle.sphinx_unwrap.specs.declared.outcome.Out.{Out}
use Rattle.sphinx_unwrap.specs.declared.outcome.Out.TheVariants.{Forward, Deliver, Reply, Damaged}
use Rattle.lab_text.specs.WordForms.{line_of}
use Rattle.mix_shard.specs.Items.{Item}

-- a reply block as a word: a dash where there is none
abbrev pub block_word : Option (List ℕ) → List ℕ
block_word None = codes "-"
block_word (Some block) = encode_lower block

-- what goes out: its kind, and the words behind the tag
abbrev pub kind_of : Out → List ℕ
kind_of (Forward next packet) = codes "forward"
kind_of (Deliver recipient body block) = codes "deliver"
kind_of (Reply recipient surb payload) = codes "reply"
kind_of (Damaged recipient) = codes "damaged"

abbrev pub words_behind_tag : Out → List (List ℕ)
words_behind_tag (Forward next packet) = encode_lower next ∷ encode_lower packet ∷ []
words_behind_tag (Deliver recipient body block) = encode_lower recipient ∷ encode_lower body ∷ block_word block ∷ []
words_behind_tag (Reply recipient surb payload) = encode_lower recipient ∷ encode_lower surb ∷ encode_lower payload ∷ []
words_behind_tag (Damaged recipient) = encode_lower recipient ∷ []

-- its kind, the number of its arrival, the epoch of the key that opened it, its tag, and what goes out
abbrev pub hand_on_words : ℕ → ℕ → List ℕ → Out → List (List ℕ)
hand_on_words number epoch tag out = kind_of out ∷ decimal number ∷ decimal epoch ∷ encode_lower tag ∷ words_behind_tag out

abbrev pub hand_on_line : Item → List ℕ
hand_on_line item = line_of (hand_on_words item.number item.epoch item.tag item.out)
