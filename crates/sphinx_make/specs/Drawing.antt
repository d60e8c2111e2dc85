-- A delay that is drawn from words to come: so many units as words come that aren't below a threshold, up to a cap.
use Rattle.std.specs.Prelude.{ℕ, zero, suc, ◌+◌, ◌-◌, ◌*◌, ◌<◌, ◌≤◌, min, nat_lt, if◌then◌else◌}
use Rattle.std.specs.Int.{div_ceil}
use Rattle.packet_form.specs.Commands.{longest_delay}
use Rattle.sphinx_make.specs.declared.drawing.Draw.{Draw}

-- what may be drawn: a unit of a millisecond or more, and a cap that isn't past the longest delay
pub record IsAllowed (draw : Draw) : Type 0 where
  pub unit : 0 < draw.unit
  pub cap : draw.cap ≤ longest_delay

-- how many words at the front aren't below the threshold, of at most so many that are looked at
unfoldable pub passed : ℕ → (ℕ → ℕ) → ℕ → ℕ
passed threshold words zero = 0
passed threshold words (suc most) =
    if nat_lt (words 0) threshold then 0 else suc (passed threshold (λ place. words (place + 1)) most)

-- the fewest units that reach the cap: no more words are looked at
abbrev pub most_units : Draw → ℕ
most_units draw = div_ceil draw.cap draw.unit

-- the delay, in milliseconds
abbrev pub drawn_delay : Draw → (ℕ → ℕ) → ℕ
drawn_delay draw words = min (passed draw.threshold words (most_units draw) * draw.unit) draw.cap

-- how many words were taken: those that passed, and the one that didn't, if it was looked at
abbrev pub words_taken : Draw → (ℕ → ℕ) → ℕ
words_taken draw words = min (passed draw.threshold words (most_units draw) + 1) (most_units draw)

-- ---- the same in other words

-- so many words aren't below the threshold before the first that is
pub record FirstBelow (threshold : ℕ) (words : ℕ → ℕ) (count : ℕ) : Type 0 where
  pub before : (place : ℕ) → place < count → threshold ≤ words place
  pub first : words count < threshold

-- none of so many words at the front is below the threshold
abbrev pub AllPass : ℕ → (ℕ → ℕ) → ℕ → Type 0
AllPass threshold words count = (place : ℕ) → place < count → threshold ≤ words place

-- so many words were taken, and none in vain: those before the last one aren't below the threshold, and their units
-- don't reach the cap
pub record NoneInVain (draw : Draw) (words : ℕ → ℕ) (taken : ℕ) : Type 0 where
  pub before : AllPass draw.threshold words (taken - 1)
  pub below_cap : 0 < taken → (taken - 1) * draw.unit < draw.cap
