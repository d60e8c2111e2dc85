-- What the hops and the answer did to a payload is undone.
use Rattle.std.proofs.Common.{◌≡◌, ℕ, ◌+◌, ◌<◌, ◌++◌, List, [], ◌∷◌, length, replicate, Ok, None, refl, sym, ap, subst, ◌∙◌, arith}
use Rattle.std.proofs.lemmas.List.{length-append, length-replicate}
use Rattle.mix_base.specs.Suites.{SuiteMeaning}
use Rattle.packet_form.specs.Geometry.{Sizes, block}
use Rattle.packet_form.specs.Geometry as lengths
use Rattle.sphinx_unwrap.specs.Payload.{spell}
use Rattle.sphinx_unwrap.proofs.Spelling.{body_of-spell}
use Rattle.sphinx_make.specs.Making.{decrypted_along, encrypted_along}
use Rattle.reply_blocks.specs.Blocks.{Keys}
use Rattle.reply_blocks.specs.Replies.{answer_payload, body_in, opened_reply, reply_payload, undone}

-- what a suite's laws say of its wide block cipher
pub record IsInvertible (suite : SuiteMeaning) : Type 0 where
  pub decrypts : (key payload : List ℕ) → 32 < length payload → suite.decrypt key (suite.encrypt key payload) ≡ payload
  pub encrypts : (key payload : List ℕ) → 32 < length payload → suite.encrypt key (suite.decrypt key payload) ≡ payload
  pub encrypted_length : (key payload : List ℕ) → 32 < length payload → length (suite.encrypt key payload) ≡ length payload
  pub decrypted_length : (key payload : List ℕ) → 32 < length payload → length (suite.decrypt key payload) ≡ length payload

pub encrypted_along-decrypted_along : (suite : SuiteMeaning) (hops : List (List ℕ)) (payload : List ℕ) → IsInvertible suite → 32 < length payload → encrypted_along suite hops (decrypted_along suite hops payload) ≡ payload
unfolding encrypted_along decrypted_along
encrypted_along-decrypted_along suite [] payload laws long = refl
encrypted_along-decrypted_along suite (wide ∷ rest) payload laws long =
    ap (suite.encrypt wide) (encrypted_along-decrypted_along suite rest (suite.decrypt wide payload) laws (omega (arith, laws.decrypted_length wide payload long)))
    ∙ laws.encrypts wide payload long

pub length-spell : (sizes : Sizes) (body : List ℕ) → length (spell sizes None body) ≡ 34 + block sizes + length body
length-spell sizes body =
    let room : List ℕ = replicate (block sizes) 0 in
    let middle : List ℕ = 0 ∷ 0 ∷ room in
    omega (arith, length-append (replicate 32 0 ++ middle) body, length-append (replicate 32 0) middle, length-replicate {A = ℕ} (block sizes) 0)

pub length-answer_payload : (suite : SuiteMeaning) (sizes : Sizes) (own body : List ℕ) → IsInvertible suite → length body ≡ sizes.body → length (answer_payload suite sizes own body) ≡ lengths.payload sizes
unfolding answer_payload
length-answer_payload suite sizes own body laws long =
    let spelled : List ℕ = spell sizes None body in
    let spelled_long : 32 < length spelled = omega (arith, length-spell sizes body) in
    omega (arith, laws.encrypted_length own spelled spelled_long, length-spell sizes body)

-- what was answered with a body, and decrypted by the hops, is undone to the spelled body, and opens to the body
undone-answer : (suite : SuiteMeaning) (sizes : Sizes) (keys : Keys) (body : List ℕ) → IsInvertible suite → undone suite keys (reply_payload suite sizes keys body) ≡ spell sizes None body
unfolding undone answer_payload
undone-answer suite sizes keys body laws =
    let spelled : List ℕ = spell sizes None body in
    let long : 32 < length spelled = omega (arith, length-spell sizes body) in
    let sealed_long : 32 < length (suite.encrypt keys.own spelled) = omega (arith, laws.encrypted_length keys.own spelled long) in
    ap (suite.decrypt keys.own) (encrypted_along-decrypted_along suite keys.hops (suite.encrypt keys.own spelled) laws sealed_long)
    ∙ laws.decrypts keys.own spelled long

body_in-spell : (sizes : Sizes) (body : List ℕ) → body_in sizes (spell sizes None body) ≡ Ok body
unfolding body_in
body_in-spell sizes body = ap (λ (bytes : List ℕ). Ok bytes) (body_of-spell sizes None body tt)

pub opened_reply-answer : (suite : SuiteMeaning) (sizes : Sizes) (keys : Keys) (body : List ℕ) → IsInvertible suite → opened_reply suite sizes keys (reply_payload suite sizes keys body) ≡ Ok body
opened_reply-answer suite sizes keys body laws = ap (body_in sizes) (undone-answer suite sizes keys body laws) ∙ body_in-spell sizes body

-- the laws, of a suite that is made of parts which have them
pub is_invertible : (suite parts : SuiteMeaning) → suite ≡ parts → IsInvertible parts → IsInvertible suite
is_invertible suite parts e laws = subst IsInvertible (sym e) laws
