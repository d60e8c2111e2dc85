-- Reading a payload and spelling one undo each other.
use Rattle.std.proofs.Common.{◌≡◌, ℕ, ◌+◌, ◌-◌, ◌≤◌, List, ◌∷◌, ◌++◌, length, take, drop, get_or, replicate, Bool, true, false, cond, ◌&&◌, eqb, Option, Some, None, refl, sym, ap, ◌∙◌, subst, arith, length-drop, append_assoc, eqb-true}
use Rattle.std.proofs.Math.Seq.{drop-cons}
use Rattle.std.proofs.lemmas.List.{length-replicate, length-take-le, take-append-drop, drop-drop, take_at, drop_at}
use Rattle.packet_form.specs.Geometry.{Sizes, block}
use Rattle.mix_base.specs.ByteLists.{all_zero}
use Rattle.packet_form.proofs.CommandLaws.{all_zero-replicate, both, zeros_from_all_zero}
use Rattle.packet_form.specs.declared.commands.Exit.TheVariants as exits
use Rattle.sphinx_unwrap.specs.Outcome.{received, Leaves}
use Rattle.sphinx_unwrap.specs.Payload.{spelled_block, spell, HasRoom, block_in, read_block, body_of}

-- the room behind 34 bytes
room_at : (n : ℕ) (xs ys : List ℕ) → length xs ≡ n → take (34 + n - 34) (xs ++ ys) ≡ xs
room_at n xs ys e = take_at xs ys (34 + n - 34) (omega arith)

-- what is spelled is read
pub read_block-spell : (sizes : Sizes) (reply_block : Option (List ℕ)) (body : List ℕ) → HasRoom sizes reply_block → read_block sizes (spell sizes reply_block body) ≡ Some reply_block
unfolding read_block
read_block-spell sizes None body h =
    rw (room_at (block sizes) (replicate (block sizes) 0) body (length-replicate (block sizes) 0)) (rw (all_zero-replicate (block sizes)) refl)
read_block-spell sizes (Some bytes) body h = ap (λ room. Some (Some room)) (room_at (block sizes) bytes body h)

-- and so is its body
pub body_of-spell : (sizes : Sizes) (reply_block : Option (List ℕ)) (body : List ℕ) → HasRoom sizes reply_block → body_of sizes (spell sizes reply_block body) ≡ body
body_of-spell sizes None body h =
    sym (drop-drop (block sizes) 34 (spell sizes None body)) ∙ drop_at (replicate (block sizes) 0) body (block sizes) (length-replicate (block sizes) 0)
body_of-spell sizes (Some bytes) body h = sym (drop-drop (block sizes) 34 (spell sizes (Some bytes) body)) ∙ drop_at bytes body (block sizes) h

-- a list in five parts: 32 bytes, two more, n more, and the rest
parts : (xs : List ℕ) (n : ℕ) → 34 + n ≤ length xs → xs ≡ take 32 xs ++ (get_or xs 32 0 ∷ get_or xs 33 0 ∷ take n (drop 34 xs)) ++ drop (34 + n) xs
parts xs n h =
    let first : drop 32 xs ≡ get_or xs 32 0 ∷ drop 33 xs = drop-cons xs 32 0 (omega arith) in
    let second : drop 33 xs ≡ get_or xs 33 0 ∷ drop 34 xs = drop-cons xs 33 0 (omega arith) in
    let others : drop 34 xs ≡ take n (drop 34 xs) ++ drop (34 + n) xs = sym (take-append-drop n (drop 34 xs)) ∙ ap (λ ys. take n (drop 34 xs) ++ ys) (drop-drop n 34 xs) in
    sym (take-append-drop 32 xs) ∙ ap (λ ys. take 32 xs ++ ys) (first ∙ ap (λ ys. get_or xs 32 0 ∷ ys) (second ∙ ap (λ ys. get_or xs 33 0 ∷ ys) others)) ∙ sym (append_assoc (take 32 xs) (get_or xs 32 0 ∷ get_or xs 33 0 ∷ take n (drop 34 xs)) (drop (34 + n) xs))

-- an answer under a test
chosen : {A : Type 0} (test : Bool) (x : Option A) (y : A) → cond test x None ≡ Some y → (test ≡ true) × (x ≡ Some y)
chosen true x y e = (refl, e)
chosen false x y e = cc

-- a flag and a room that say a block, or none, spell it
spelled_by : (sizes : Sizes) (flag : ℕ) (room : List ℕ) (reply_block : Option (List ℕ)) (one none : Bool) → eqb flag 1 ≡ one → (eqb flag 0 && all_zero room) ≡ none → length room ≡ block sizes → cond one (Some (Some room)) (cond none (Some None) None) ≡ Some reply_block → flag ∷ 0 ∷ room ≡ spelled_block sizes reply_block
spelled_by sizes flag room reply_block true none is_one is_none full e =
    let said : Some room ≡ reply_block = cc in
    subst (λ (r : Option (List ℕ)). flag ∷ 0 ∷ room ≡ spelled_block sizes r) said (ap (λ f. f ∷ 0 ∷ room) (eqb-true flag 1 is_one))
spelled_by sizes flag room reply_block false true is_one is_none full e =
    let said : None ≡ reply_block = cc in
    let tests = both (eqb flag 0) (all_zero room) is_none in
    let zeros : room ≡ replicate (block sizes) 0 = zeros_from_all_zero room tests.1 ∙ ap (λ n. replicate n 0) full in
    subst (λ (r : Option (List ℕ)). flag ∷ 0 ∷ room ≡ spelled_block sizes r) said (ap (λ f. f ∷ 0 ∷ room) (eqb-true flag 0 tests.0) ∙ ap (λ r. 0 ∷ 0 ∷ r) zeros)
spelled_by sizes flag room reply_block false false is_one is_none full e = cc

-- what is read was spelled
pub spell-read_block : (sizes : Sizes) (payload : List ℕ) (reply_block : Option (List ℕ)) → 34 + block sizes ≤ length payload → read_block sizes payload ≡ Some reply_block → payload ≡ spell sizes reply_block (body_of sizes payload)
unfolding read_block
spell-read_block sizes payload reply_block long e =
    let flag : ℕ = get_or payload 32 0 in
    let room : List ℕ = take (block sizes) (drop 34 payload) in
    let exact : 34 + block sizes - 34 ≡ block sizes = omega arith in
    let room_is : take (34 + block sizes - 34) (drop 34 payload) ≡ room = ap (λ n. take n (drop 34 payload)) exact in
    let right = chosen (all_zero (take 32 payload) && eqb (get_or payload 33 0) 0) (block_in flag (take (34 + block sizes - 34) (drop 34 payload))) reply_block e in
    let tests = both (all_zero (take 32 payload)) (eqb (get_or payload 33 0) 0) right.0 in
    let full : length room ≡ block sizes = length-take-le (block sizes) (drop 34 payload) (simp length-drop (omega arith)) in
    let front : take 32 payload ≡ replicate 32 0 = zeros_from_all_zero (take 32 payload) tests.0 ∙ ap (λ n. replicate n 0) (length-take-le 32 payload (omega arith)) in
    let said : block_in flag room ≡ Some reply_block = ap (λ r. block_in flag r) (sym room_is) ∙ right.1 in
    let spelled : flag ∷ 0 ∷ room ≡ spelled_block sizes reply_block = spelled_by sizes flag room reply_block (eqb flag 1) (eqb flag 0 && all_zero room) refl refl full said in
    parts payload (block sizes) long
    ∙ ap (λ zeros. zeros ++ (flag ∷ get_or payload 33 0 ∷ room) ++ body_of sizes payload) front
    ∙ ap (λ second. replicate 32 0 ++ (flag ∷ second ∷ room) ++ body_of sizes payload) (eqb-true (get_or payload 33 0) 0 tests.1)
    ∙ ap (λ middle. replicate 32 0 ++ middle ++ body_of sizes payload) spelled

-- what a recipient gets is what the payload spells
pub received_spells : (sizes : Sizes) (slots payload id : List ℕ) (found : Option (Option (List ℕ))) → 34 + block sizes ≤ length payload → read_block sizes payload ≡ found → Leaves sizes slots payload (exits.Recipient id) (received id (body_of sizes payload) found)
received_spells sizes slots payload id (Some reply_block) long e = (refl, spell-read_block sizes payload reply_block long e)
received_spells sizes slots payload id None long e = (
  refl,
  λ reply_block body room same.
      let read : read_block sizes payload ≡ Some reply_block = ap (λ p. read_block sizes p) same ∙ read_block-spell sizes reply_block body room in
      cc,
)
