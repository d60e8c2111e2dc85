use Rattle.std.proofs.Common.{◌≡◌, ℕ, ◌+◌, ◌%◌, ◌<◌, vec_len, slice_index, ap, ◌∙◌, arith}
use Rattle.std.proofs.Math.Nat.{mod-add-mod, mod-eq_of_lt}
use Rattle.std.proofs.lemmas.Grind.{common_steps}
use Rattle.mix_base.proofs.word_streams.ListWordsWords.next.Goals as goal

pub returns-clause-word : goal.returns-clause-word
returns-clause-word c =
    let inside : c.args.self.now.place + 0 < vec_len c.args.self.now.list = omega (arith, c.args.self.now.in_range) in
    let same : (c.args.self.now.place + 0) % vec_len c.args.self.now.list ≡ c.args.self.now.place = mod-eq_of_lt inside ∙ omega arith in
    grind (arith, common_steps, same)

pub returns-clause-rest : goal.returns-clause-rest
returns-clause-rest c place =
    let words = c.args.self.now in
    let count : c.len.result ≡ vec_len c.args.self.now.list = c.len.ensures in
    ap (λ (i : ℕ). slice_index c.args.self.now.list.items i)
    (ap (λ (n : ℕ). ((c.args.self.now.place + 1) % n + place) % vec_len c.args.self.now.list) count
    ∙ mod-add-mod (c.args.self.now.place + 1) (vec_len c.args.self.now.list) place
    ∙ ap (λ (n : ℕ). n % vec_len c.args.self.now.list) (omega arith))
