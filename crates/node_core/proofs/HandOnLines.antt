-- The line of a packet that is handed on, up to its tag and behind it.
use Rattle.std.proofs.Common.{◌≡◌, ℕ, ◌∷◌, ◌++◌, List, refl}
use Rattle.sphinx_unwrap.specs.declared.outcome.Out.{Out}
use Rattle.sphinx_unwrap.specs.declared.outcome.Out.TheVariants.{Forward, Deliver, Reply, Damaged}
use Rattle.lab_text.specs.WordForms.{line_of}
use Rattle.node_core.specs.HandOn.{words_behind_tag}

-- four words in front of those behind the tag, of which there is always one
pub line_of_held : (kind number epoch tag : List ℕ) (out : Out) → line_of (kind ∷ number ∷ epoch ∷ tag ∷ words_behind_tag out)
    ≡ kind ++ 32 ∷ (number ++ 32 ∷ (epoch ++ 32 ∷ (tag ++ 32 ∷ line_of (words_behind_tag out))))
line_of_held kind number epoch tag (Forward next packet) = refl
line_of_held kind number epoch tag (Deliver recipient body block) = refl
line_of_held kind number epoch tag (Reply recipient surb payload) = refl
line_of_held kind number epoch tag (Damaged recipient) = refl
