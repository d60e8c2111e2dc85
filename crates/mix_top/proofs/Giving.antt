-- What a sink was given by one line, whole or in part.
use Rattle.std.proofs.Common.{◌≡◌, ℕ, List, [], ◌∷◌, ◌++◌, take, ap, sym, subst, Option, Some, None, IfSome, IsSomeAnd}
use Rattle.std.proofs.lemmas.List.{append-nil}
use Rattle.mix_base.specs.Writing.{GivesFront}
use Rattle.sphinx_unwrap.specs.declared.outcome.Out.{Out}
use Rattle.lab_text.specs.WordForms.{line_of}
use Rattle.mix_shard.specs.Items.{Item}
use Rattle.node_core.specs.HandOn.{hand_on_line, hand_on_words}
use Rattle.mix_top.specs.Receiving.{GaveFront, GaveText, IsSaidOf}
use Rattle.mix_top.specs.ReceivingLaws.{gave_nothing, gave_weaker}
use Rattle.mix_top.specs.Report.{HandsOn, Line, line_text, text}

-- what a put says, as what was given
pub put_whole : (before after : Option (List ℕ)) (line : Line) → IfSome before (λ first. after ≡ Some (first ++ line_text line)) → GaveText before after (line ∷ [])
put_whole None after line whole = tt
put_whole (Some first) None line whole = absurd (cc)
put_whole (Some first) (Some last) line whole =
    let same : last ≡ first ++ line_text line = cc in (line_text line, same, sym (append-nil (line_text line)))

pub put_front : (before after : Option (List ℕ)) (line : Line) → IfSome before (λ first. IsSomeAnd after (λ last. GivesFront first last (line_text line)))
    → GaveFront before after (line ∷ [])
put_front None after line front = tt
put_front (Some first) None line front = absurd front
put_front (Some first) (Some last) line (count, same) =
    (take count (line_text line), same, (count, ap (take count) (sym (append-nil (line_text line)))))

-- nothing is a front of every text
pub gave_no_front : (given : Option (List ℕ)) (lines : List Line) → GaveFront given given lines
gave_no_front given lines =
    gave_weaker given given (λ bytes. bytes ≡ []) (λ bytes. (count : ℕ) × (bytes ≡ take count (text lines))) (gave_nothing given) (λ bytes none. (0, none))

-- ---- the line of a packet that is handed on, by what it says

said_line : (item : Item) (number epoch : ℕ) (tag : List ℕ) (out : Out) → IsSaidOf item number epoch tag out
    → line_of (hand_on_words number epoch tag out) ≡ hand_on_line item
said_line item number epoch tag out said = λ i. line_of (hand_on_words (sym said.number_is i) (sym said.epoch_is i) (sym said.tag_is i) (sym said.out_is i))

pub hand_on_whole : (before after : Option (List ℕ)) (number epoch : ℕ) (tag : List ℕ) (out : Out)
    → IfSome before (λ first. after ≡ Some (first ++ line_of (hand_on_words number epoch tag out)))
    → (item : Item) → IsSaidOf item number epoch tag out → GaveText before after (HandsOn item ∷ [])
hand_on_whole before after number epoch tag out whole item said =
    put_whole before after (HandsOn item)
    (subst (λ (line : List ℕ). IfSome before (λ first. after ≡ Some (first ++ line))) (said_line item number epoch tag out said) whole)

pub hand_on_front : (before after : Option (List ℕ)) (number epoch : ℕ) (tag : List ℕ) (out : Out)
    → IfSome before (λ first. IsSomeAnd after (λ last. GivesFront first last (line_of (hand_on_words number epoch tag out))))
    → (item : Item) → IsSaidOf item number epoch tag out → GaveFront before after (HandsOn item ∷ [])
hand_on_front before after number epoch tag out front item said =
    put_front before after (HandsOn item)
    (subst (λ (line : List ℕ). IfSome before (λ first. IsSomeAnd after (λ last. GivesFront first last line))) (said_line item number epoch tag out said) front)
