-- One word more of those to come.
use Rattle.std.proofs.Common.{◌≡◌, ℕ, ◌+◌, [], ◌∷◌, ◌++◌, refl, add-one}
use Rattle.mix_base.specs.WordStreams.{first_words}

pub first_words-more : (words : ℕ → ℕ) (n : ℕ) → first_words words (n + 1) ≡ first_words words n ++ words n ∷ []
unfolding first_words
first_words-more words n = rw add-one refl
