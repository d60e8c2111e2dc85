use Rattle.std.proofs.Common.{◌≡◌, ◌<◌, ◌+◌, ◌∙◌, sym, ap, ℕ, List, ◌++◌, ◌∷◌, [], length, refl, arith, zero-add}
use Rattle.std.proofs.lemmas.List.{take_more_set, take_all}
use Rattle.mix_base.specs.WordStreams.{first_words}
use Rattle.mix_base.proofs.Drawing.{first_words-more}
use Rattle.mix_base.proofs.word_streams.draw.Goals as goal

pub drawing-init : goal.drawing-init
unfolding first_words
drawing-init g c = record { words = refl; rest = λ place. rw zero-add refl }

pub drawing-preserved : goal.drawing-preserved
drawing-preserved g c =
    let to_come = g.W.Words.to_come in
    let within : c.drawing.i < length c.drawing.drawn = omega arith in
    let here : c.drawing.i + 0 ≡ c.drawing.i = omega arith in
    let word : c.next.result ≡ to_come c.args.words.now c.drawing.i =
    c.next.ensures.word ∙ c.drawing.invariant.rest 0 ∙ ap (to_come c.args.words.now) here in
    record {
      words = take_more_set c.drawing.drawn c.drawing.i c.next.result within
          ∙ ap (λ (front : List ℕ). front ++ c.next.result ∷ []) c.drawing.invariant.words
          ∙ ap (λ (last : ℕ). first_words (to_come c.args.words.now) c.drawing.i ++ last ∷ []) word
          ∙ sym (first_words-more (to_come c.args.words.now) c.drawing.i);
      rest = λ place.
          let further : c.drawing.i + (place + 1) ≡ c.drawing.i + 1 + place = omega arith in
          c.next.ensures.rest place ∙ c.drawing.invariant.rest (place + 1) ∙ ap (to_come c.args.words.now) further;
    }

pub returns-clause-words : goal.returns-clause-words
returns-clause-words g c =
    let all : c.drawing.i ≡ length c.args.drawn.now = omega arith in
    sym (take_all c.drawing.i c.drawing.drawn (omega arith)) ∙ c.drawing.invariant.words ∙ ap (first_words (g.W.Words.to_come c.args.words.now)) all
