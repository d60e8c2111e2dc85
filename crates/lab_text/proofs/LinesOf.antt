-- The first line of what begins with bytes that have no line feed, and the cut of a block at a line feed.
use Rattle.std.proofs.Common.{◌≡◌, ℕ, ◌+◌, ◌-◌, ◌^◌, ◌<◌, ◌≤◌, ◌⊎◌, List, [], ◌∷◌, ◌++◌, length, take, drop, get_or, Bool, true, false, ◌||◌, not, eqb, ltb, Option, Some, None, Result, Err, IfSome, IsSomeAnd, option_map, refl, sym, ◌∙◌, ap, arith, inl, inr, suc, zero}
use Rattle.std.proofs.lemmas.List.{length-drop, take-append-drop, take-take, drop_more, get_or-take, get_or-drop, drop-drop, drop-take, length-take, length-append, append_assoc, append-nil, nil_from_length, take_all}
use Rattle.std.proofs.lemmas.Bool.Decides.{nat_tests}
use borrow.Author.Tests.{ltb-true}
use Rattle.lab_text.specs.declared.faults.LineFault.{LineFault}
use Rattle.lab_text.specs.declared.faults.LineFault.TheVariants.{BadLine}
use Rattle.memchr.specs.Find.{IsFirstByte, is_byte}
use Rattle.mix_base.specs.Reading.{TakesFront}
use Rattle.lab_text.specs.Readers.{GivesLine, Stays, ReachesEnd}
use Rattle.lab_text.specs.Lines.{Piece, ScriptLine, Text, TooLong, onto, pieces_of, lines_from, has_feed, is_within, passes_limits, size_of, without_return}

pub or_false : (a b : Bool) → a || b ≡ false → (a ≡ false) × (b ≡ false)
or_false true b h = absurd (cc)
or_false false b h = (refl, h)

by_or : {P : Type 0} (a b : Bool) → a || b ≡ true → (a ≡ true → P) → (b ≡ true → P) → P
by_or true b e f h = f refl
by_or false b e f h = h e

pub same_number : {T : Type 0} (m n : ℕ) → ◌≡◌ {A = Result T LineFault} (Err (BadLine m)) (Err (BadLine n)) → n ≡ m
same_number m n e = cc

pub length-chunk : (block : List ℕ) (place end : ℕ) → place ≤ end → end ≤ length block → length (take (end - place) (drop place block)) ≡ end - place
length-chunk block place end h k = rw (length-take, length-drop) (omega arith)

pub has_feed-append : (xs ys : List ℕ) → has_feed xs ≡ false → has_feed ys ≡ false → has_feed (xs ++ ys) ≡ false
has_feed-append [] ys h k = k
has_feed-append (x ∷ xs) ys h k =
    let parts = or_false (eqb x 10) (has_feed xs) h in
    let first : eqb x 10 ≡ false = parts.0 in
    rw first (has_feed-append xs ys parts.1 k)

pub pieces_of-feed : (xs more : List ℕ) → has_feed xs ≡ false → pieces_of (xs ++ 10 ∷ more) ≡ (record { text = xs; ended = true }) ∷ pieces_of more
pieces_of-feed [] more h = refl
pieces_of-feed (x ∷ xs) more h =
    let parts = or_false (eqb x 10) (has_feed xs) h in
    let first : eqb x 10 ≡ false = parts.0 in
    rw (first, pieces_of-feed xs more parts.1) refl

pub pieces_of-rest : (x : ℕ) (xs : List ℕ) → has_feed (x ∷ xs) ≡ false → pieces_of (x ∷ xs) ≡ (record { text = x ∷ xs; ended = false }) ∷ []
pieces_of-rest x [] h =
    let first : eqb x 10 ≡ false = (or_false (eqb x 10) (has_feed []) h).0 in
    rw first refl
pieces_of-rest x (y ∷ ys) h =
    let parts = or_false (eqb x 10) (has_feed (y ∷ ys)) h in
    let first : eqb x 10 ≡ false = parts.0 in
    rw (first, pieces_of-rest y ys parts.1) refl

-- pieces whose first has a text of at least n bytes
pub record BeginsWith (n : ℕ) (pieces : List Piece) : Type 0 where
  pub piece : Piece
  pub others : List Piece
  pub is : pieces ≡ piece ∷ others
  pub long : n ≤ length piece.text

onto-long : (x n : ℕ) (ps : List Piece) → BeginsWith n ps → BeginsWith (suc n) (onto x ps)
onto-long x n ps b = rw b.is (record { piece = record { text = x ∷ b.piece.text; ended = b.piece.ended }; others = b.others; is = refl; long = let l : n ≤ length b.piece.text = b.long in omega arith })

onto-one : (x : ℕ) (ps : List Piece) → BeginsWith 1 (onto x ps)
onto-one x [] = record { piece = record { text = x ∷ []; ended = false }; others = []; is = refl; long = omega arith }
onto-one x (p ∷ ps) = record { piece = record { text = x ∷ p.text; ended = p.ended }; others = ps; is = refl; long = omega arith }

pub pieces_of-front : (x : ℕ) (xs more : List ℕ) → has_feed (x ∷ xs) ≡ false → BeginsWith (length (x ∷ xs)) (pieces_of ((x ∷ xs) ++ more))
pieces_of-front x [] more h =
    let first : eqb x 10 ≡ false = (or_false (eqb x 10) (has_feed []) h).0 in
    rw first (onto-one x (pieces_of more))
pieces_of-front x (y ∷ ys) more h =
    let parts = or_false (eqb x 10) (has_feed (y ∷ ys)) h in
    let first : eqb x 10 ≡ false = parts.0 in
    rw first (onto-long x (length (y ∷ ys)) _ (pieces_of-front y ys more parts.1))

-- a text of n bytes that begins behind `used` ones is past a limit
pub record IsPast (used n : ℕ) : Type 0 where
  pub past : (65536 < n) ⊎ (2 ^ 30 < used + n)

within-false : (used size n : ℕ) → n ≤ size → IsPast used n → (text : ℕ) → n ≤ text → not (passes_limits text (used + size)) ≡ false
within-false used size n h p text k = elim p.past [ inl a ↦ grind (arith, nat_tests) | inr b ↦ grind (arith, nat_tests) ]

size-long : (p : Piece) → length p.text ≤ size_of p
size-long p = omega arith

pub past_limit : (used : ℕ) (xs more : List ℕ) → has_feed xs ≡ false → 0 < length xs → IsPast used (length xs) → lines_from used (xs ++ more) ≡ TooLong ∷ []
past_limit used [] more h k p = absurd (omega arith)
past_limit used (x ∷ xs) more h k p =
    let b = pieces_of-front x xs more h in
    let w : is_within used b.piece ≡ false = within-false used (size_of b.piece) (length (x ∷ xs)) (let l = size-long b.piece in let k = b.long in omega arith) p (length b.piece.text) b.long in
    rw (b.is, w) refl

pub take_split : (n k : ℕ) (ys : List ℕ) → n < length ys → take (n + 1 + k) ys ≡ take n ys ++ (get_or ys n 0 ∷ take k (drop (n + 1) ys))
take_split n k ys h =
    let zs : List ℕ = take (n + 1 + k) ys in
    let len : n < length zs = rw length-take (omega arith) in
    let a : take n zs ≡ take n ys = take-take n (n + 1 + k) ys (omega arith) in
    let b : drop n zs ≡ get_or zs n 0 ∷ drop (n + 1) zs = drop_more zs n 0 len in
    let e : get_or zs n 0 ≡ get_or ys n 0 = get_or-take (n + 1 + k) ys n 0 (omega arith) in
    let d : drop (n + 1) zs ≡ take k (drop (n + 1) ys) = drop-take (n + 1) k ys in
    let whole : take n zs ++ drop n zs ≡ zs = take-append-drop n zs in
    cc

past-from : (used n : ℕ) → passes_limits n (used + n) ≡ true → IsPast used n
past-from used n e = record { past = by_or (ltb 65536 n) (ltb (2 ^ 30) (used + n)) e (λ a. inl (ltb-true 65536 n a)) (λ b. inr (ltb-true (2 ^ 30) (used + n) b)) }

within-same : (used text n : ℕ) (past : Bool) → n ≡ text → passes_limits text (used + text + 1) ≡ past → not (passes_limits n (used + (n + 1))) ≡ not past
within-same used text n past e p =
    let behind : used + (n + 1) ≡ used + text + 1 = omega arith in
    rw (behind, e, p) refl

-- the lines to come are one that is past a limit
pub too_long_comes : (left : Option (List ℕ)) (used text : ℕ) (line chunk : List ℕ) → has_feed line ≡ false → has_feed chunk ≡ false → text ≡ length line + length chunk → used ≤ 2 ^ 30 → passes_limits text (used + text) ≡ true → IfSome (option_map (λ rest. lines_from used ((line ++ chunk) ++ rest)) left) (λ lines. lines ≡ TooLong ∷ [])
too_long_comes None used text line chunk h k e low p = tt
too_long_comes (Some rest) used text line chunk h k e low p =
    let size : length (line ++ chunk) ≡ text = length-append line chunk ∙ sym e in
    let past : IsPast used text = past-from used text p in
    let some : 0 < text = elim past.past [ inl a ↦ omega arith | inr b ↦ omega arith ] in
    past_limit used (line ++ chunk) rest (has_feed-append line chunk h k) (rw size some) (rw size past)

-- a line that its line feed takes past a limit
pub feed_too_long : (left : Option (List ℕ)) (used text : ℕ) (line front after : List ℕ) → has_feed line ≡ false → has_feed front ≡ false → text ≡ length line + length front → passes_limits text (used + text + 1) ≡ true → IfSome (option_map (λ rest. lines_from used ((line ++ (front ++ 10 ∷ after)) ++ rest)) left) (λ lines. lines ≡ TooLong ∷ [])
feed_too_long None used text line front after h k e p = tt
feed_too_long (Some rest) used text line front after h k e p =
    let all : List ℕ = line ++ front in
    let size : length all ≡ text = length-append line front ∙ sym e in
    let shape : (line ++ (front ++ 10 ∷ after)) ++ rest ≡ all ++ 10 ∷ (after ++ rest) = simp append_assoc in
    let pieces : pieces_of (all ++ 10 ∷ (after ++ rest)) ≡ (record { text = all; ended = true }) ∷ pieces_of (after ++ rest) = pieces_of-feed all (after ++ rest) (has_feed-append line front h k) in
    let w : is_within used (record { text = all; ended = true }) ≡ false = within-same used text (length all) true size p in
    rw (shape, pieces, w) refl

-- a line that keeps to both limits comes, and then what is behind its line feed
pub feed_comes : (left : Option (List ℕ)) (used text : ℕ) (line front after : List ℕ) → has_feed line ≡ false → has_feed front ≡ false → text ≡ length line + length front → passes_limits text (used + text + 1) ≡ false → GivesLine (option_map (λ rest. lines_from used ((line ++ (front ++ 10 ∷ after)) ++ rest)) left) (option_map (λ rest. lines_from (used + text + 1) (after ++ rest)) left) (without_return (line ++ front))
feed_comes None used text line front after h k e p = tt
feed_comes (Some rest) used text line front after h k e p =
    let all : List ℕ = line ++ front in
    let size : length all ≡ text = length-append line front ∙ sym e in
    let shape : (line ++ (front ++ 10 ∷ after)) ++ rest ≡ all ++ 10 ∷ (after ++ rest) = simp append_assoc in
    let pieces : pieces_of (all ++ 10 ∷ (after ++ rest)) ≡ (record { text = all; ended = true }) ∷ pieces_of (after ++ rest) = pieces_of-feed all (after ++ rest) (has_feed-append line front h k) in
    let w : is_within used (record { text = all; ended = true }) ≡ true = within-same used text (length all) false size p in
    let behind : used + (length all + 1) ≡ used + text + 1 = omega arith in
    rw (shape, pieces, w, behind) refl

-- the last line comes as it stands, and nothing after it
pub rest_comes : (used : ℕ) (line : List ℕ) → has_feed line ≡ false → 0 < length line → length line ≤ 65536 → used + length line ≤ 2 ^ 30 → lines_from used line ≡ Text line ∷ []
rest_comes used [] h some short all = absurd (omega arith)
rest_comes used (x ∷ xs) h some short all =
    let pieces : pieces_of (x ∷ xs) ≡ (record { text = x ∷ xs; ended = false }) ∷ [] = pieces_of-rest x xs h in
    let w : is_within used (record { text = x ∷ xs; ended = false }) ≡ true = grind (arith, nat_tests) in
    rw (pieces, w) refl

-- what a block still has, cut at a line feed in it
pub chunk_split : (block : List ℕ) (place n end : ℕ) → place + n < end → end ≤ length block → get_or block (place + n) 0 ≡ 10 → take (end - place) (drop place block) ≡ take n (drop place block) ++ (10 ∷ take (end - (place + (n + 1))) (drop (place + (n + 1)) block))
chunk_split block place n end h k feed =
    let rest : ℕ = end - (place + (n + 1)) in
    let size : end - place ≡ n + 1 + rest = omega arith in
    let long : n < length (drop place block) = rw length-drop (omega arith) in
    let cut : take (n + 1 + rest) (drop place block) ≡ take n (drop place block) ++ (get_or (drop place block) n 0 ∷ take rest (drop (n + 1) (drop place block))) = take_split n rest (drop place block) long in
    let same : get_or (drop place block) n 0 ≡ get_or block (place + n) 0 = get_or-drop place block n 0 in
    let behind : drop (n + 1) (drop place block) ≡ drop (place + (n + 1)) block = drop-drop (n + 1) place block in
    rw size (cc)

pub length-front : (block : List ℕ) (place n : ℕ) → place + n ≤ length block → length (take n (drop place block)) ≡ n
length-front block place n h = rw (length-take, length-drop) (omega arith)

-- what `take_line` does to the lines to come
pub line_taken : (left : Option (List ℕ)) (used text place n end : ℕ) (line block next given : List ℕ) → has_feed line ≡ false → has_feed (take n (drop place block)) ≡ false → place + n < end → end ≤ length block → get_or block (place + n) 0 ≡ 10 → text ≡ length line + n → passes_limits text (used + text + 1) ≡ false → next ≡ [] → given ≡ without_return (line ++ take n (drop place block)) → GivesLine (option_map (λ rest. lines_from used ((line ++ take (end - place) (drop place block)) ++ rest)) left) (option_map (λ rest. lines_from (used + text + 1) ((next ++ take (end - (place + (n + 1))) (drop (place + (n + 1)) block)) ++ rest)) left) given
line_taken left used text place n end line block next given h k inside whole feed size p none is =
    let front : List ℕ = take n (drop place block) in
    let after : List ℕ = take (end - (place + (n + 1))) (drop (place + (n + 1)) block) in
    let cut : take (end - place) (drop place block) ≡ front ++ (10 ∷ after) = chunk_split block place n end inside whole feed in
    let long : length front ≡ n = length-front block place n (omega arith) in
    rw (cut, none, is) (feed_comes left used text line front after h k (rw long size) p)

chunk_none : (block : List ℕ) (place end : ℕ) → place ≡ end → take (end - place) (drop place block) ≡ []
chunk_none block place end e =
    let none : end - place ≡ 0 = omega arith in
    rw none refl

-- what `take_rest` does to the lines to come
pub rest_taken : (left : Option (List ℕ)) (used place end size : ℕ) (line block next given : List ℕ) → left ≡ Some [] → place ≡ end → size ≡ length line → has_feed line ≡ false → 0 < length line → length line ≤ 65536 → used + length line ≤ 2 ^ 30 → next ≡ [] → given ≡ line → GivesLine (option_map (λ rest. lines_from used ((line ++ take (end - place) (drop place block)) ++ rest)) left) (option_map (λ rest. lines_from (used + size) ((next ++ take (end - place) (drop place block)) ++ rest)) left) given
rest_taken left used place end size line block next given l e z h some short all none is =
    let empty : take (end - place) (drop place block) ≡ [] = chunk_none block place end e in
    let shape : (line ++ take (end - place) (drop place block)) ++ [] ≡ line = rw empty (simp append-nil) in
    let after : (next ++ take (end - place) (drop place block)) ++ [] ≡ [] = rw (empty, none) refl in
    rw (l, shape, after, is) (rest_comes used line h some short all)

pub nothing_rests : (left : Option (List ℕ)) (used place end : ℕ) (line block : List ℕ) → left ≡ Some [] → place ≡ end → length line ≡ 0 → option_map (λ rest. lines_from used ((line ++ take (end - place) (drop place block)) ++ rest)) left ≡ Some []
nothing_rests left used place end line block l e none =
    let empty : take (end - place) (drop place block) ≡ [] = chunk_none block place end e in
    let line_empty : line ≡ [] = nil_from_length line none in
    rw (l, line_empty, empty) refl

-- what `read_block` does to the lines to come
pub block_read : (before after : Option (List ℕ)) (used place end count : ℕ) (line block block' : List ℕ) → IfSome before (λ b. IsSomeAnd after (λ a. TakesFront b a block' count)) → place ≡ end → Stays (option_map (λ rest. lines_from used ((line ++ take (end - place) (drop place block)) ++ rest)) before) (option_map (λ rest. lines_from used ((line ++ take (count - 0) (drop 0 block')) ++ rest)) after)
block_read None after used place end count line block block' h e = tt
block_read (Some b) None used place end count line block block' h e = absurd h
block_read (Some b) (Some a) used place end count line block block' h e =
    let empty : take (end - place) (drop place block) ≡ [] = chunk_none block place end e in
    let front : b ≡ take count block' ++ a = h.front in
    let zero_less : count - 0 ≡ count = omega arith in
    let before : (line ++ take (end - place) (drop place block)) ++ b ≡ line ++ b = rw empty (simp append-nil) in
    let after : (line ++ take (count - 0) (drop 0 block')) ++ a ≡ line ++ (take count block' ++ a) = rw zero_less (append_assoc line (take count block') a) in
    ap (λ xs. Some (lines_from used xs)) (after ∙ ap (λ xs. line ++ xs) (sym front) ∙ sym before)

pub ends_read : (before after : Option (List ℕ)) (count : ℕ) (block : List ℕ) → IfSome before (λ b. IsSomeAnd after (λ a. TakesFront b a block count)) → count ≡ 0 → 0 < length block → ReachesEnd before after
ends_read None after count block h e some = tt
ends_read (Some b) None count block h e some = absurd h
ends_read (Some b) (Some a) count block h e some =
    let end : b ≡ [] = h.end e some in
    let front : b ≡ take count block ++ a = h.front in
    let whole : take count block ≡ [] = rw e refl in
    let nothing : take count block ++ a ≡ a = rw whole refl in
    ap Some (sym nothing ∙ sym front ∙ end)

pub stays_on : (a b c : Option (List ScriptLine)) → Stays a b → Stays b c → Stays a c
stays_on None b c h k = tt
stays_on (Some x) None c h k = absurd (cc)
stays_on (Some x) (Some y) c h k = let same : Some y ≡ Some x = h in k ∙ same

pub gives_on : (a b c : Option (List ScriptLine)) (line : List ℕ) → Stays a b → GivesLine b c line → GivesLine a c line
gives_on None b c line h k = tt
gives_on (Some x) None c line h k = absurd (cc)
gives_on (Some x) (Some y) None line h k = absurd k
gives_on (Some x) (Some y) (Some z) line h k = let same : Some y ≡ Some x = h in cc

not_true : (b : Bool) → (b ≡ true → ⊥) → b ≡ false
not_true true h = absurd (h refl)
not_true false h = refl

no_feed : (hay : List ℕ) (n : ℕ) → n ≤ length hay → ((k : ℕ) → k < n → eqb (get_or hay k 0) 10 ≡ true → ⊥) → has_feed (take n hay) ≡ false
no_feed hay zero h f = refl
no_feed [] (suc n) h f = refl
no_feed (x ∷ xs) (suc n) h f =
    let first : eqb x 10 ≡ false = not_true (eqb x 10) (f 0 (omega arith)) in
    rw first (no_feed xs n (omega arith) (λ k l. f (suc k) (omega arith)))

-- before the first line feed of a block stands none
pub feed_first : (block now : List ℕ) (place end n : ℕ) → now ≡ block → IsFirstByte (is_byte 10) (take (end - place) (drop place now)) (Some n) → has_feed (take n (drop place block)) ≡ false
feed_first block now place end n e found =
    let hay : List ℕ = take (end - place) (drop place now) in
    let high : n < length hay = found.0.high in
    let none : has_feed (take n hay) ≡ false = no_feed hay n (omega arith) (λ k l. found.0.before k (omega arith) l) in
    let fits : n ≤ end - place = omega (arith, length-take (end - place) (drop place now)) in
    let front : take n hay ≡ take n (drop place now) = take-take n (end - place) (drop place now) fits in
    rw (← e) (rw front at none)

-- without a first line feed a block has none
pub feed_nowhere : (block now : List ℕ) (place end : ℕ) → now ≡ block → IsFirstByte (is_byte 10) (take (end - place) (drop place now)) None → has_feed (take (end - place) (drop place block)) ≡ false
feed_nowhere block now place end e found =
    let hay : List ℕ = take (end - place) (drop place now) in
    let none : has_feed (take (length hay) hay) ≡ false = no_feed hay (length hay) (omega arith) (λ k l. found k (omega arith) l) in
    let whole : take (length hay) hay ≡ hay = take_all (length hay) hay (omega arith) in
    rw (← e) (rw whole at none)
