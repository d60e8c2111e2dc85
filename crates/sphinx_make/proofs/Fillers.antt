-- The end of a hop's stream, where the filler is.
use Rattle.std.proofs.Common.{◌≡◌, ℕ, ◌+◌, ◌-◌, List, ◌++◌, length, drop, replicate, ap, ◌∙◌, arith, append_assoc}
use Rattle.std.proofs.lemmas.List.{drop_at, length-replicate}
use Rattle.mix_base.specs.Suites.{SuiteMeaning}
use Rattle.mix_base.specs.XorLaws.{length-xor_stream, xor_stream-append}
use Rattle.packet_form.specs.Geometry.{Sizes, routing, slot}
use Rattle.sphinx_make.specs.Making.{hidden, next_filler}
use Rattle.sphinx_make.specs.declared.path.SealedHop.{SealedHop}

pub filler_end : (suite : SuiteMeaning) (sizes : Sizes) (hop : SealedHop) (filler bytes : List ℕ) → bytes ≡ hidden suite hop 0 (replicate (routing sizes - length filler) 0 ++ filler ++ replicate (slot sizes) 0) → drop (routing sizes - length filler) bytes ≡ next_filler suite sizes hop filler
unfolding next_filler
filler_end suite sizes hop filler bytes is =
    let start : ℕ = routing sizes - length filler in
    let zeros : List ℕ = replicate start 0 in
    let rest : List ℕ = filler ++ replicate (slot sizes) 0 in
    let stream : ℕ → ℕ = suite.stream hop.keys.stream in
    let front_long : length (hidden suite hop 0 zeros) ≡ start = length-xor_stream stream 0 zeros ∙ length-replicate {A = ℕ} start 0 in
    let place : 0 + length zeros ≡ start = omega (arith, length-replicate {A = ℕ} start 0) in
    let parts : bytes ≡ hidden suite hop 0 zeros ++ hidden suite hop start rest =
    is ∙ ap (hidden suite hop 0) (append_assoc zeros filler (replicate (slot sizes) 0)) ∙ xor_stream-append stream 0 zeros rest ∙ ap (λ n. hidden suite hop 0 zeros ++ hidden suite hop n rest) place in
    ap (drop start) parts ∙ drop_at (hidden suite hop 0 zeros) (hidden suite hop start rest) start front_long
