-- A packet that carries a payload to a reply's commands leaves as that reply; and an answer is such a packet.
use Rattle.std.proofs.Common.{◌≡◌, ℕ, ◌++◌, List, [], ◌∷◌, length, Result, Ok, Err, sym, ap, subst, ◌∙◌, arith}
use Rattle.std.specs.Prelude.{IsOkAnd}
use Rattle.std.proofs.lemmas.List.{length-append}
use Rattle.mix_base.specs.Suites.{SuiteMeaning}
use Rattle.packet_form.specs.Geometry.{Sizes, header}
use Rattle.packet_form.specs.Geometry as lengths
use Rattle.packet_form.specs.declared.commands.Exit.TheVariants.{Reply}
use Rattle.sphinx_unwrap.specs.Layer.{Layer, opened}
use Rattle.sphinx_unwrap.specs.Outcome.{out_by}
use Rattle.sphinx_unwrap.specs.declared.faults.Refused.{Refused}
use Rattle.sphinx_unwrap.specs.declared.outcome.Out.TheVariants as outs
use Rattle.sphinx_make.specs.Making.{decrypted_along, keyed}
use Rattle.sphinx_make.specs.NestedPath.{Arrives, Carries, Ends, GoesOut, KeyedHop}
use Rattle.sphinx_make.specs.declared.path.HopSpec.{HopSpec}
use Rattle.reply_blocks.specs.Blocks.{Keys, block_of, first_id}
use Rattle.reply_blocks.specs.Replies.{answer_payload, answered}
use Rattle.reply_blocks.specs.WayBack.{ComesBack}
use Rattle.reply_blocks.specs.declared.answering.Answered.{Answered}
use Rattle.reply_blocks.specs.declared.faults.AnswerFault.{AnswerFault}
use Rattle.reply_blocks.proofs.BlockParts.{answered-block_of}
use Rattle.reply_blocks.proofs.Undoing.{IsInvertible, length-answer_payload, opened_reply-answer}

-- ---- what is carried to a reply's commands leaves as a reply

found_by : (r : Result Layer Refused) (Finds Others : Layer → Type 0) → ((layer : Layer) → Finds layer → Others layer) → IsOkAnd r Finds → IsOkAnd r Others
found_by (Ok layer) Finds Others step h = step layer h
found_by (Err why) Finds Others step h = absurd h

leaves_as_reply : (sizes : Sizes) (recipient surb found : List ℕ) (hop : KeyedHop) (layer : Layer) → Ends (Reply recipient surb) found hop layer → GoesOut sizes (outs.Reply recipient surb found) hop layer
leaves_as_reply sizes recipient surb found hop layer ends = record {
  delay = ends.delay;
  leaves = ap (out_by sizes layer) ends.exit ∙ ap (λ payload. outs.Reply recipient surb payload) ends.payload;
}

pub arrives-carried : (suite : SuiteMeaning) (sizes : Sizes) (hops : List KeyedHop) (recipient surb packet found : List ℕ) → Carries suite sizes hops (Reply recipient surb) packet found → Arrives suite sizes hops (outs.Reply recipient surb found) packet
arrives-carried suite sizes [] recipient surb packet found h = absurd h
arrives-carried suite sizes (hop ∷ []) recipient surb packet found h =
    found_by (opened suite sizes hop.secret_key packet) (Ends (Reply recipient surb) found hop) (GoesOut sizes (outs.Reply recipient surb found) hop) (leaves_as_reply sizes recipient surb found hop) h
arrives-carried suite sizes (hop ∷ next ∷ rest) recipient surb packet found h =
    (h.0, (h.1.0, arrives-carried suite sizes (next ∷ rest) recipient surb h.0 found h.1.1))

-- ---- an answer comes back

pub comes_back : (suite : SuiteMeaning) (sizes : Sizes) (path : List HopSpec) (secrets : List (List ℕ)) (recipient surb block front first : List ℕ) (keys : Keys) (body : List ℕ)
    → block ≡ block_of front first keys.own → first ≡ first_id path → length front ≡ header sizes → length block ≡ lengths.block sizes → length keys.own ≡ 128 → length body ≡ sizes.body → IsInvertible suite
    → ((payload : List ℕ) → length payload ≡ lengths.payload sizes → Carries suite sizes (keyed path secrets) (Reply recipient surb) (front ++ payload) (decrypted_along suite keys.hops payload))
    → IsOkAnd (answered suite sizes block body) (ComesBack suite sizes path secrets recipient surb keys body)
comes_back suite sizes path secrets recipient surb block front first keys body is is_first front_long long own_long body_long laws carries =
    let first_long : length first ≡ 32 = omega (arith, ap length is, length-append (front ++ first) keys.own, length-append front first) in
    let sealed : List ℕ = answer_payload suite sizes keys.own body in
    let found : List ℕ = decrypted_along suite keys.hops sealed in
    let made : answered suite sizes block body ≡ Ok (record { first = first; packet = front ++ sealed }) =
    answered-block_of suite sizes block front first keys.own body is front_long first_long long body_long in
    subst (λ (r : Result Answered AnswerFault). IsOkAnd r (ComesBack suite sizes path secrets recipient surb keys body)) (sym made) (record {
      starts = is_first;
      payload = found;
      arrives = arrives-carried suite sizes (keyed path secrets) recipient surb (front ++ sealed) found (carries sealed (length-answer_payload suite sizes keys.own body laws body_long));
      opens = opened_reply-answer suite sizes keys body laws;
    })
