-- A wave with one message more.
use Rattle.std.proofs.Common.{◌≡◌, ℕ, ◌+◌, List, [], ◌∷◌, ◌++◌, Ok, refl, add-one}
use Rattle.lab_text.specs.declared.settings.Config.{Config}
use Rattle.mix_waves.specs.Drawing.{choices_from}
use Rattle.mix_waves.specs.Sending.{Sending, made_of, sent, words_after}

pub sent_more : (config : Config) (keys : List (List ℕ)) (words : ℕ → ℕ) (count : ℕ) (before : List Sending) (last : Sending)
    → sent config keys words count ≡ Ok before → made_of config keys count (choices_from config (words_after config words count)) ≡ Ok last
    → sent config keys words (count + 1) ≡ Ok (before ++ last ∷ [])
sent_more config keys words count before last is one = rw (add-one, is, one) refl
