use Rattle.std.proofs.Common.{◌≡◌, ◌+◌, List, ℕ, [], ◌∷◌, ◌++◌, length, sym, ap, ◌∙◌, arith, append_assoc, length-append}
use Rattle.packet_form.specs.Commands.{padded, exit_part}
use Rattle.packet_form.proofs.commands.write_exit.Goals as goal

pub returns-in-Reply-clause-value : goal.returns-in-Reply-clause-value
returns-in-Reply-clause-value c = λ written len is.
    let id : List ℕ = c.in-Reply.id in
    let surb : List ℕ = c.in-Reply.surb in
    let first : List ℕ = written ++ 2 ∷ [] in
    let second : List ℕ = first ++ id in
    let third : List ℕ = second ++ 3 ∷ [] in
    let one = c.put-in-Reply.ensures written len is in
    let at_id : length first ≡ c.args.at + 1 = omega (arith, length-append written (2 ∷ []), len) in
    let two = c.put-in-Reply-2.ensures first at_id one in
    let at_three : length second ≡ c.args.at + 33 = omega (arith, length-append first id, at_id) in
    let three = c.put-in-Reply-3.ensures second at_three two in
    let at_surb : length third ≡ c.args.at + 34 = omega (arith, length-append second (3 ∷ []), at_three) in
    let four = c.put-in-Reply-4.ensures third at_surb three in
    four ∙ ap padded (append_assoc second (3 ∷ []) surb ∙ append_assoc first id (3 ∷ surb) ∙ append_assoc written (2 ∷ []) (id ++ 3 ∷ surb) ∙ ap (λ exit. written ++ exit_part exit) (sym c.in-Reply.is))
