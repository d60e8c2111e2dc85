-- The laws of commands: what is read is spelled by the bytes that were read, and what is spelled is read again.
use Rattle.std.specs.Int.{w32, to_be_bytes, from_be_bytes}
use Rattle.std.proofs.Common.{◌≡◌, ◌≢◌, ℕ, zero, suc, ◌+◌, ◌-◌, ◌<◌, ◌≤◌, List, [], ◌∷◌, ◌++◌, length, take, drop, replicate, Bool, true, false, cond, ◌&&◌, Option, Some, None, IfSome, IfNone, get_or, eqb, leb, refl, sym, ap, subst, ◌∙◌, arith, append_assoc, eqb-true, leb-true, le-leb, inl, inr}
use Rattle.std.proofs.lemmas.List.{length-append, length-take-le, length-drop, length-replicate, take-append-drop, take_at, drop_at, drop-drop, get_or-append_right, get_or-take, get_or_past, length-take, drop_more, get_or-replicate, get_or_at}
use Rattle.std.proofs.lemmas.Nat.{be_bytes_4, from_be_bytes-to_be_bytes_4}
use Rattle.std.proofs.lemmas.Bool.{cases_lt}
use Rattle.std.proofs.lemmas.Option.{cond_some}
use Rattle.packet_form.specs.declared.commands.Cmds.{Cmds}
use Rattle.packet_form.specs.declared.commands.Exit.{Exit}
use Rattle.packet_form.specs.declared.commands.Exit.TheVariants.{Hop, Recipient, Reply}
use Rattle.mix_base.specs.ByteLists.{all_zero}
use Rattle.mix_base.specs.Options.{◌>>=◌}
use Rattle.packet_form.specs.Commands.{delay_part, exit_part, spell, longest_delay, IsAllowed, HasLengths, allowed_delay, delay_at, recipient_at, exit_at, read}

-- each is a byte
abbrev pub AreBytes : List ℕ → Type 0
AreBytes bytes = (place : ℕ) → get_or bytes place 0 < 256

-- ---- zeros

pub all_zero-replicate : (n : ℕ) → all_zero (replicate n 0) ≡ true
all_zero-replicate zero = refl
all_zero-replicate (suc n) = all_zero-replicate n

-- two tests that both hold
pub both : (a b : Bool) → (a && b) ≡ true → (a ≡ true) × (b ≡ true)
both true b e = (refl, e)
both false b e = cc

pub zeros_from_all_zero : (xs : List ℕ) → all_zero xs ≡ true → xs ≡ replicate (length xs) 0
zeros_from_all_zero [] h = refl
zeros_from_all_zero (x ∷ xs) h =
    let tests = both (eqb x 0) (all_zero xs) h in
    ap (λ y. y ∷ xs) (eqb-true x 0 tests.0) ∙ ap (λ ys. 0 ∷ ys) (zeros_from_all_zero xs tests.1)

-- ---- what is read is spelled so

AreBytes-take : (n : ℕ) (bytes : List ℕ) → AreBytes bytes → AreBytes (take n bytes)
AreBytes-take n bytes fits place =
    elim (cases_lt place n) [
      | inl below ↦ rw (get_or-take n bytes place 0 below) (fits place)
      | inr past ↦ rw (get_or_past (take n bytes) place 0 (omega (arith, length-take n bytes))) (omega arith)
    ]

-- a delay that was read, with the bytes behind it
abbrev pub TakesDelay : List ℕ → Option ℕ × List ℕ → Type 0
TakesDelay bytes found = IfSome found.0 (λ delay. delay ≤ longest_delay) × (bytes ≡ delay_part found.0 ++ found.1)

delay_taken : (test : Bool) (first : ℕ) (bytes : List ℕ) (found : Option ℕ × List ℕ) → eqb first 0x80 ≡ test → AreBytes bytes → 4 ≤ length bytes → cond test (allowed_delay (from_be_bytes w32 (take 4 bytes)) (drop 4 bytes)) (Some (None, first ∷ bytes)) ≡ Some found → TakesDelay (first ∷ bytes) found
delay_taken true first bytes found is fits long e =
    let delay : ℕ = from_be_bytes w32 (take 4 bytes) in
    let reading = cond_some (leb delay longest_delay) (Some delay, drop 4 bytes) found e in
    let digits : to_be_bytes w32 delay ≡ take 4 bytes = be_bytes_4 (take 4 bytes) delay (length-take-le 4 bytes long) (AreBytes-take 4 bytes fits) refl in
    let parts : first ∷ bytes ≡ 0x80 ∷ to_be_bytes w32 delay ++ drop 4 bytes =
    ap (λ x. x ∷ bytes) (eqb-true first 0x80 is) ∙ ap (λ xs. 0x80 ∷ xs) (sym (take-append-drop 4 bytes) ∙ ap (λ xs. xs ++ drop 4 bytes) (sym digits)) in
    subst (TakesDelay (first ∷ bytes)) reading.1 (leb-true delay longest_delay reading.0, parts)
delay_taken false first bytes found is fits long e =
    let reading : (None, first ∷ bytes) ≡ found = cc in
    subst (TakesDelay (first ∷ bytes)) reading (tt, refl)

-- the part of a delay is short
pub length-delay_part : (delay : Option ℕ) → length (delay_part delay) ≤ 5
length-delay_part None = omega arith
length-delay_part (Some delay) = omega arith

pub delay_takes : (bytes : List ℕ) (found : Option ℕ × List ℕ) → AreBytes bytes → 5 ≤ length bytes → delay_at bytes ≡ Some found → TakesDelay bytes found
unfolding delay_at
delay_takes [] found fits long e = absurd (omega arith)
delay_takes (first ∷ bytes) found fits long e =
    delay_taken (eqb first 0x80) first bytes found refl (λ place. fits (suc place)) (omega arith) e

-- an exit that was read, with the bytes behind it
abbrev pub TakesExit : List ℕ → Exit × List ℕ → Type 0
TakesExit bytes found = HasLengths found.0 × (bytes ≡ exit_part found.0 ++ found.1)

-- a list behind the front of its front
split_twice : (m n : ℕ) (bytes : List ℕ) → take m bytes ++ take n (drop m bytes) ++ drop (m + n) bytes ≡ bytes
split_twice m n bytes =
    append_assoc (take m bytes) (take n (drop m bytes)) (drop (m + n) bytes)
    ∙ ap (λ rest. take m bytes ++ (take n (drop m bytes) ++ rest)) (sym (drop-drop n m bytes))
    ∙ ap (λ rest. take m bytes ++ rest) (take-append-drop n (drop m bytes))
    ∙ take-append-drop m bytes

recipient_taken : (test : Bool) (bytes : List ℕ) (found : Exit × List ℕ) → eqb (get_or bytes 32 0) 3 ≡ test → 66 ≤ length bytes → cond test (Reply (take 32 bytes) (take 16 (drop 33 bytes)), drop 49 bytes) (Recipient (take 32 bytes), drop 32 bytes) ≡ found → TakesExit (2 ∷ bytes) found
recipient_taken true bytes found is long e =
    let id : length (take 32 bytes) ≡ 32 = length-take-le 32 bytes (omega arith) in
    let surb : length (take 16 (drop 33 bytes)) ≡ 16 = length-take-le 16 (drop 33 bytes) (omega (arith, length-drop 33 bytes)) in
    let first : drop 32 bytes ≡ 3 ∷ drop 33 bytes = drop_more bytes 32 0 (omega arith) ∙ ap (λ x. x ∷ drop 33 bytes) (eqb-true (get_or bytes 32 0) 3 is) in
    let behind : drop 33 bytes ≡ take 16 (drop 33 bytes) ++ drop 49 bytes = sym (take-append-drop 16 (drop 33 bytes)) ∙ ap (λ rest. take 16 (drop 33 bytes) ++ rest) (drop-drop 16 33 bytes) in
    let parts : bytes ≡ take 32 bytes ++ (3 ∷ take 16 (drop 33 bytes)) ++ drop 49 bytes =
    sym (take-append-drop 32 bytes) ∙ ap (λ rest. take 32 bytes ++ rest) (first ∙ ap (λ rest. 3 ∷ rest) behind) ∙ sym (append_assoc (take 32 bytes) (3 ∷ take 16 (drop 33 bytes)) (drop 49 bytes)) in
    subst (TakesExit (2 ∷ bytes)) e ((id, surb), ap (λ rest. 2 ∷ rest) parts)
recipient_taken false bytes found is long e =
    subst (TakesExit (2 ∷ bytes)) e (length-take-le 32 bytes (omega arith), ap (λ rest. 2 ∷ rest) (sym (take-append-drop 32 bytes)))

exit_taken : (is_hop is_recipient : Bool) (first : ℕ) (bytes : List ℕ) (found : Exit × List ℕ) → eqb first 1 ≡ is_hop → eqb first 2 ≡ is_recipient → 66 ≤ length bytes → cond is_hop (Some (Hop (take 32 bytes) (take 32 (drop 32 bytes)), drop 64 bytes)) (cond is_recipient (Some (recipient_at (first ∷ bytes))) None) ≡ Some found → TakesExit (first ∷ bytes) found
exit_taken true is_recipient first bytes found is_1 is_2 long e =
    let reading : (Hop (take 32 bytes) (take 32 (drop 32 bytes)), drop 64 bytes) ≡ found = cc in
    let lengths : HasLengths (Hop (take 32 bytes) (take 32 (drop 32 bytes))) = (length-take-le 32 bytes (omega arith), length-take-le 32 (drop 32 bytes) (omega (arith, length-drop 32 bytes))) in
    let parts : bytes ≡ take 32 bytes ++ take 32 (drop 32 bytes) ++ drop 64 bytes = sym (split_twice 32 32 bytes) in
    subst (TakesExit (first ∷ bytes)) reading (lengths, ap (λ x. x ∷ bytes) (eqb-true first 1 is_1) ∙ ap (λ rest. 1 ∷ rest) parts)
exit_taken false true first bytes found is_1 is_2 long e =
    let reading : recipient_at (first ∷ bytes) ≡ found = cc in
    subst (λ (x : ℕ). TakesExit (x ∷ bytes) found) (sym (eqb-true first 2 is_2)) (recipient_taken (eqb (get_or bytes 32 0) 3) bytes found refl long reading)
exit_taken false false first bytes found is_1 is_2 long e = cc

pub exit_takes : (bytes : List ℕ) (found : Exit × List ℕ) → 67 ≤ length bytes → exit_at bytes ≡ Some found → TakesExit bytes found
unfolding exit_at
exit_takes [] found long e = absurd (omega arith)
exit_takes (first ∷ bytes) found long e = exit_taken (eqb first 1) (eqb first 2) first bytes found refl refl (omega arith) e

-- the part that was read before the next one
bind_some : {A B : Type 0} (o : Option A) (next : A → Option B) (y : B) → (o >>= next) ≡ Some y → (x : A) × (o ≡ Some x) × (next x ≡ Some y)
bind_some None next y e = cc
bind_some (Some x) next y e = (x, refl, e)

-- what is said of commands that were read
pub record Spelled (bytes : List ℕ) (cmds : Cmds) : Type 0 where
  pub allowed : IsAllowed cmds
  pub lengths : HasLengths cmds.exit
  pub is : bytes ≡ spell cmds

pub read_spelled : (bytes : List ℕ) (cmds : Cmds) → AreBytes bytes → length bytes ≡ 72 → read bytes ≡ Some cmds → Spelled bytes cmds
unfolding read spell
read_spelled bytes cmds fits long e =
    let made : Option ℕ → Exit × List ℕ → Option Cmds = λ delay exit. cond (all_zero exit.1) (Some (record { delay = delay; exit = exit.0 })) None in
    let delay = bind_some (delay_at bytes) (λ delay. exit_at delay.1 >>= made delay.0) cmds e in
    let exit = bind_some (exit_at delay.0.1) (made delay.0.0) cmds delay.2 in
    let last = cond_some (all_zero exit.0.1) (record { delay = delay.0.0; exit = exit.0.0 }) cmds exit.2 in
    let front = delay_takes bytes delay.0 fits (omega arith) delay.1 in
    let behind : 67 ≤ length delay.0.1 = omega (arith, ap length front.1, length-append (delay_part delay.0.0) delay.0.1, length-delay_part delay.0.0) in
    let back = exit_takes delay.0.1 exit.0 behind exit.1 in
    let parts : List ℕ = delay_part delay.0.0 ++ exit_part exit.0.0 in
    let whole : bytes ≡ parts ++ exit.0.1 = front.1 ∙ ap (λ rest. delay_part delay.0.0 ++ rest) back.1 ∙ sym (append_assoc (delay_part delay.0.0) (exit_part exit.0.0) exit.0.1) in
    let left : length exit.0.1 ≡ 72 - length parts = omega (arith, ap length whole, length-append parts exit.0.1) in
    let zeros : exit.0.1 ≡ replicate (72 - length parts) 0 = zeros_from_all_zero exit.0.1 last.0 ∙ ap (λ n. replicate n 0) left in
    subst (Spelled bytes) last.1 (record { allowed = front.0; lengths = back.0; is = whole ∙ ap (λ rest. parts ++ rest) zeros })

-- ---- what is spelled is read again

delay_again : (delay : Option ℕ) (exit : Exit) (behind : List ℕ) → IfSome delay (λ d. d ≤ longest_delay) → delay_at (delay_part delay ++ (exit_part exit ++ behind)) ≡ Some (delay, exit_part exit ++ behind)
unfolding delay_at
delay_again None (Hop id mac) behind h = refl
delay_again None (Recipient id) behind h = refl
delay_again None (Reply id surb) behind h = refl
delay_again (Some delay) exit behind h = rw (from_be_bytes-to_be_bytes_4 delay (omega arith), le-leb delay longest_delay h) refl

-- zeros aren't a 3
zero_at : (n place : ℕ) → get_or {A = ℕ} (replicate n 0) place 0 ≡ 0
zero_at n place =
    elim (cases_lt place n) [
      | inl below ↦ get_or-replicate n place 0 0 below
      | inr past ↦ get_or_past (replicate n 0) place 0 (omega (arith, length-replicate {A = ℕ} n 0))
    ]

exit_again : (exit : Exit) (n : ℕ) → HasLengths exit → exit_at (exit_part exit ++ replicate n 0) ≡ Some (exit, replicate n 0)
unfolding exit_at
exit_again (Hop id mac) n h =
    let regrouped : id ++ mac ++ replicate n 0 ≡ id ++ (mac ++ replicate n 0) = append_assoc id mac (replicate n 0) in
    let both_long : length (id ++ mac) ≡ 64 = omega (arith, length-append id mac, h.0, h.1) in
    rw (drop_at (id ++ mac) (replicate n 0) 64 both_long, regrouped, take_at id (mac ++ replicate n 0) 32 h.0, drop_at id (mac ++ replicate n 0) 32 h.0, take_at mac (replicate n 0) 32 h.1) refl
exit_again (Recipient id) n h =
    let third : get_or (id ++ replicate n 0) 32 0 ≡ 0 = get_or-append_right id (replicate n 0) 32 32 0 h (omega arith) ∙ zero_at n 0 in
    rw (third, take_at id (replicate n 0) 32 h, drop_at id (replicate n 0) 32 h) refl
exit_again (Reply id surb) n h =
    let behind : List ℕ = surb ++ replicate n 0 in
    let regrouped : id ++ 3 ∷ surb ++ replicate n 0 ≡ id ++ 3 ∷ behind = append_assoc id (3 ∷ surb) (replicate n 0) in
    let both_long : length (id ++ 3 ∷ surb) ≡ 49 = omega (arith, length-append id (3 ∷ surb), h.0, h.1) in
    let third : get_or (id ++ 3 ∷ behind) 32 0 ≡ 3 = get_or_at id 3 behind 0 32 h.0 in
    let from_33 : drop 33 (id ++ 3 ∷ behind) ≡ behind = sym (drop-drop 1 32 (id ++ 3 ∷ behind)) ∙ ap (drop 1) (drop_at id (3 ∷ behind) 32 h.0) in
    rw (drop_at (id ++ 3 ∷ surb) (replicate n 0) 49 both_long, regrouped, third, take_at id (3 ∷ behind) 32 h.0, from_33, take_at surb (replicate n 0) 16 h.1) refl

pub read-spell : (cmds : Cmds) → IsAllowed cmds → HasLengths cmds.exit → read (spell cmds) ≡ Some cmds
unfolding read spell
read-spell cmds allowed lengths =
    let n : ℕ = 72 - length (delay_part cmds.delay ++ exit_part cmds.exit) in
    let regrouped : spell cmds ≡ delay_part cmds.delay ++ (exit_part cmds.exit ++ replicate n 0) = append_assoc (delay_part cmds.delay) (exit_part cmds.exit) (replicate n 0) in
    ap read regrouped ∙ rw (delay_again cmds.delay cmds.exit (replicate n 0) allowed, exit_again cmds.exit n lengths, all_zero-replicate n) refl

-- what a reader says of its bytes
pub spelled_if_read : (bytes : List ℕ) (found : Option Cmds) → AreBytes bytes → length bytes ≡ 72 → found ≡ read bytes → IfSome found (λ cmds. IsAllowed cmds × (bytes ≡ spell cmds))
spelled_if_read bytes None fits long e = tt
spelled_if_read bytes (Some cmds) fits long e = let said = read_spelled bytes cmds fits long (sym e) in (said.allowed, said.is)

pub none_if_not_read : (bytes : List ℕ) (found : Option Cmds) → found ≡ read bytes → IfNone found ((cmds : Cmds) → IsAllowed cmds → HasLengths cmds.exit → bytes ≢ spell cmds)
none_if_not_read bytes None e = λ cmds allowed lengths same.
    let found : None ≡ Some cmds = e ∙ ap read same ∙ read-spell cmds allowed lengths in
    cc
none_if_not_read bytes (Some cmds) e = tt
