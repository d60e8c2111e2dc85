-- What is drawn one after the other, and that its delays are in time.
use Rattle.std.proofs.Common.{◌≡◌, ℕ, zero, suc, ◌+◌, ◌*◌, ◌≤◌, List, [], ◌∷◌, ◌++◌, length, All, ap, sym, ◌∙◌, refl, subst, arith, add-one}
use Rattle.std.proofs.Math.Path.{fun_ext}
use Rattle.std.proofs.lemmas.List.{length-append}
use Rattle.std.proofs.lemmas.List.Elements.{All-append, All-cons, All-nil}
use Rattle.packet_form.specs.Commands.{longest_delay}
use Rattle.mix_base.specs.WordStreams.{SkipsWords, first_words, word_bytes}
use Rattle.sphinx_make.specs.Drawing.{IsAllowed, drawn_delay, words_taken}
use Rattle.sphinx_make.specs.declared.drawing.Draw.{Draw}
use Rattle.lab_text.specs.declared.settings.Config.{Config}
use Rattle.mix_tools.specs.Suites.{scheme_for}
use Rattle.mix_waves.specs.Choosing.{AreDelays, drawn_with}
use Rattle.mix_waves.specs.Drawing.{choices_from, delays_from, delays_taken, words_behind}
use Rattle.mix_waves.specs.declared.drawing.Drawn.{Drawn}

-- the words behind some, as a list of words
pub skipped : (taken : ℕ) (before after : ℕ → ℕ) → SkipsWords taken before after → after ≡ words_behind taken before
skipped taken before after skips = fun_ext skips

-- ---- delays

pub one_delay : (draw : Draw) (words now after : ℕ → ℕ) (count delay : ℕ) (drawn : List ℕ) → drawn ≡ delays_from draw words count
    → SkipsWords (delays_taken draw words count) words now → delay ≡ drawn_delay draw now → drawn ++ delay ∷ [] ≡ delays_from draw words (count + 1)
one_delay draw words now after count delay drawn is skips one =
    let here : now ≡ words_behind (delays_taken draw words count) words = skipped (delays_taken draw words count) words now skips in
    let same : delay ≡ drawn_delay draw (words_behind (delays_taken draw words count) words) = one ∙ ap (drawn_delay draw) here in
    rw add-one (ap (λ (xs : List ℕ). xs ++ delay ∷ []) is ∙ ap (λ (d : ℕ). delays_from draw words count ++ d ∷ []) same)

pub more_taken : (draw : Draw) (words now after : ℕ → ℕ) (count : ℕ) → SkipsWords (delays_taken draw words count) words now
    → SkipsWords (words_taken draw now) now after → SkipsWords (delays_taken draw words (count + 1)) words after
more_taken draw words now after count skips more place =
    let before = delays_taken draw words count in
    let here : now ≡ words_behind before words = skipped before words now skips in
    let far : before + (words_taken draw now + place) ≡ before + words_taken draw now + place = omega arith in
    rw add-one (more place ∙ skips (words_taken draw now + place) ∙ ap words far
    ∙ ap (λ (w : ℕ → ℕ). words (before + words_taken draw w + place)) here)

length-delays : (draw : Draw) (words : ℕ → ℕ) (count : ℕ) → length (delays_from draw words count) ≡ count
length-delays draw words zero = refl
length-delays draw words (suc count) =
    let rest = length-delays draw words count in
    length-append (delays_from draw words count) (drawn_delay draw (words_behind (delays_taken draw words count) words) ∷ []) ∙ omega (arith, rest)

delays-in_time : (draw : Draw) (words : ℕ → ℕ) (count : ℕ) → IsAllowed draw → All (λ delay. delay ≤ longest_delay) (delays_from draw words count)
delays-in_time draw words zero fine = All-nil (λ delay. delay ≤ longest_delay)
delays-in_time draw words (suc count) fine =
    let last = drawn_delay draw (words_behind (delays_taken draw words count) words) in
    let in_time : last ≤ longest_delay = omega (arith, fine.cap) in
    All-append (λ delay. delay ≤ longest_delay) (delays_from draw words count) (last ∷ []) (delays-in_time draw words count fine)
    (All-cons (λ delay. delay ≤ longest_delay) last [] in_time (All-nil (λ delay. delay ≤ longest_delay)))

pub are_delays : (config : Config) (words : ℕ → ℕ) (delays : List ℕ) → IsAllowed config.draw → delays ≡ delays_from config.draw words config.layers → AreDelays config delays
are_delays config words delays fine is = record {
  count = ap length is ∙ length-delays config.draw words config.layers;
  each = subst (All (λ delay. delay ≤ longest_delay)) (sym is) (delays-in_time config.draw words config.layers fine);
}

-- ---- all that is drawn for a message

pub choosing : (config : Config) (drawn : Drawn) (w0 w1 w2 w3 w4 w5 w6 w7 : ℕ → ℕ) (count : ℕ) → count ≡ config.layers * (scheme_for config.ntru).coins
    → drawn.there.items ≡ first_words w0 config.layers → SkipsWords config.layers w0 w1
    → drawn.back.items ≡ first_words w1 config.layers → SkipsWords config.layers w1 w2
    → drawn.there_delays.items ≡ delays_from config.draw w2 config.layers → SkipsWords (delays_taken config.draw w2 config.layers) w2 w3
    → drawn.back_delays.items ≡ delays_from config.draw w3 config.layers → SkipsWords (delays_taken config.draw w3 config.layers) w3 w4
    → drawn.block_coins.items ≡ first_words w4 count → SkipsWords count w4 w5
    → drawn.own ≡ word_bytes (first_words w5 32) → SkipsWords 32 w5 w6
    → drawn.coins.items ≡ first_words w6 count → SkipsWords count w6 w7
    → choices_from config w0 ≡ drawn_with drawn w7
choosing config drawn w0 w1 w2 w3 w4 w5 w6 w7 count is there s1 back s2 there_delays s3 back_delays s4 block_coins s5 own s6 coins s7 =
    rw (
      there,
      back,
      there_delays,
      back_delays,
      block_coins,
      own,
      coins,
      skipped count w6 w7 s7,
      skipped 32 w5 w6 s6,
      skipped count w4 w5 s5,
      skipped (delays_taken config.draw w3 config.layers) w3 w4 s4,
      skipped (delays_taken config.draw w2 config.layers) w2 w3 s3,
      skipped config.layers w1 w2 s2,
      skipped config.layers w0 w1 s1,
      is,
    ) refl
