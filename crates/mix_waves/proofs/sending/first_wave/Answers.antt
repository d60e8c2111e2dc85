use Rattle.std.proofs.Common.{◌≡◌, ◌∙◌, ℕ, List, Ok, map, ap, sym, subst, Option, IsSomeAnd}
use Rattle.std.proofs.Math.Path.{fun_ext}
use Rattle.mix_waves.specs.Drawing.{client_words}
use Rattle.mix_waves.specs.Sending.{message_seen, sent}
use Rattle.mix_waves.proofs.sending.first_wave.Goals as goal

pub returns-in-Ok-clause-sent : goal.returns-in-Ok-clause-sent
returns-in-Ok-clause-sent g c =
    let config = c.args.config.now in
    let messages = map message_seen c.in-Ok.messages.items in
    let words = client_words config c.args.start in
    subst (λ (found : Option (List (List ℕ))). IsSomeAnd found (λ keys. sent config keys words config.messages ≡ Ok messages)) (sym c.in_ok-keys.ensures.keys)
    (ap (λ (keys : List (List ℕ)). sent config keys words config.messages) (sym c.deref.ensures.value)
    ∙ ap (λ (list : ℕ → ℕ). sent config c.deref.result.now list config.messages) (sym (fun_ext (λ place. c.words_of_client-words.ensures place)))
    ∙ c.in-Ok.ensures.sent)
