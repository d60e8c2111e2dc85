-- Actors that go from the list of those that are left into threads, and back: the last actor goes first, and the last
-- thread comes back first.
use Rattle.std.proofs.Common.{◌≡◌, ℕ, zero, suc, ◌+◌, List, [], ◌∷◌, ◌++◌, length, map, reverse, sym, ap, ◌∙◌, subst, arith, append_assoc, length-append}
use Rattle.std.specs.Prelude.{All}
use Rattle.std.specs.List.{AllZip}
use Rattle.std.proofs.lemmas.List.{append-nil, map-append, reverse-append, length-map, length-reverse}
use Rattle.std.proofs.lemmas.List.Elements.{All-push}
use Rattle.node_actors.specs.Gates.{AreFrom}
use Rattle.node_actors.specs.declared.spawner.running.Asked.{Asked}

module _ {X : Type 0} (P : X → Type 0) where
  pub last_of : (xs : List X) (x : X) → All P (xs ++ x ∷ []) → P x
  last_of [] x h = h 0 x (omega arith)
  last_of (y ∷ xs) x h = last_of xs x (λ k d l. h (suc k) d (omega arith))

  pub front_of : (xs : List X) (x : X) → All P (xs ++ x ∷ []) → All P xs
  front_of [] x h = λ k d l. absurd (omega arith)
  front_of (y ∷ xs) x h = all_first y xs (h 0 y (omega arith)) (front_of xs x (λ k d l. h (suc k) d (omega arith)))
    where
      all_first : (y : X) (ys : List X) → P y → All P ys → All P (y ∷ ys)
      all_first y ys p all zero d l = p
      all_first y ys p all (suc k) d l = all k d (omega arith)

-- two lists that grow at their ends
pub zip_snoc : {A B : Type 0} (R : A → B → Type 0) (xs : List A) (ys : List B) (x : A) (y : B) → AllZip R xs ys → R x y → AllZip R (xs ++ x ∷ []) (ys ++ y ∷ [])
zip_snoc R [] [] x y all r = (r, tt)
zip_snoc R [] (b ∷ ys) x y all r = absurd all
zip_snoc R (a ∷ xs) [] x y all r = absurd all
zip_snoc R (a ∷ xs) (b ∷ ys) x y all r = (all.0, zip_snoc R xs ys x y all.1 r)

module _ {A T : Type 0} (promise : T → Asked A) (gate : ℕ) where
  abbrev actor : Asked A → A
  actor a = a.actor.value

  abbrev IsAt : Asked A → Type 0
  IsAt a = a.gate.value.id ≡ gate

  -- an actor that goes from the end of one list to the end of another, which is read from its end
  moved : (left : List A) (ps : List (Asked A)) (p : Asked A) → (left ++ actor p ∷ []) ++ reverse (map actor ps) ≡ left ++ reverse (map actor (ps ++ p ∷ []))
  moved left ps p =
      let whole : reverse (map actor (ps ++ p ∷ [])) ≡ actor p ∷ reverse (map actor ps) = ap (λ (xs : List A). reverse xs) (map-append actor ps (p ∷ [])) ∙ reverse-append (map actor ps) (actor p ∷ []) in
      append_assoc left (actor p ∷ []) (reverse (map actor ps)) ∙ ap (λ (xs : List A). left ++ xs) (sym whole)

  abbrev Are : List A → List A → List T → Type 0
  Are left actors threads = AreFrom gate left actors (map promise threads)

  -- the last actor that was left is in a thread
  pub started : (left before actors : List A) (threads : List T) (a : A) (t : T) → before ≡ left ++ a ∷ [] → Are before actors threads
      → (promise t).gate.value.id ≡ gate → (promise t).actor.value ≡ a → Are left actors (threads ++ t ∷ [])
  started left before actors threads a t last are here is =
      let ps : List (Asked A) = map promise threads in
      let grown : map promise (threads ++ t ∷ []) ≡ ps ++ promise t ∷ [] = map-append promise threads (t ∷ []) in
      let whole : actors ≡ left ++ reverse (map actor (ps ++ promise t ∷ [])) =
      are.1 ∙ (ap (λ (xs : List A). xs ++ reverse (map actor ps)) (last ∙ ap (λ (x : A). left ++ x ∷ []) (sym is)) ∙ moved left ps (promise t)) in
      let at : All IsAt (ps ++ promise t ∷ []) = All-push IsAt ps (promise t) are.0 here in
      subst (λ (qs : List (Asked A)). AreFrom gate left actors qs) (sym grown) (at, whole)

  -- the last thread waits at the gate
  pub waits : (left actors : List A) (before threads : List T) (t : T) → before ≡ threads ++ t ∷ [] → Are left actors before → (promise t).gate.value.id ≡ gate
  waits left actors before threads t last are =
      let ps : List (Asked A) = map promise threads in
      let grown : map promise before ≡ ps ++ promise t ∷ [] = ap (λ (ts : List T). map promise ts) last ∙ map-append promise threads (t ∷ []) in
      last_of IsAt ps (promise t) (subst (λ (qs : List (Asked A)). All IsAt qs) grown are.0)

  -- the actor of the last thread is left
  pub came_back : (left actors : List A) (before threads : List T) (t : T) → before ≡ threads ++ t ∷ [] → Are left actors before → Are (left ++ (promise t).actor.value ∷ []) actors threads
  came_back left actors before threads t last are =
      let ps : List (Asked A) = map promise threads in
      let grown : map promise before ≡ ps ++ promise t ∷ [] = ap (λ (ts : List T). map promise ts) last ∙ map-append promise threads (t ∷ []) in
      let all : AreFrom gate left actors (ps ++ promise t ∷ []) = subst (λ (qs : List (Asked A)). AreFrom gate left actors qs) grown are in
      (front_of IsAt ps (promise t) all.0, all.1 ∙ sym (moved left ps (promise t)))

  -- none is in a thread
  pub all_left : (left actors : List A) (threads : List T) → threads ≡ [] → Are left actors threads → left ≡ actors
  all_left left actors threads none are =
      let nothing : reverse (map actor (map promise threads)) ≡ [] = ap (λ (ts : List T). reverse (map actor (map promise ts))) none in
      sym (are.1 ∙ (ap (λ (xs : List A). left ++ xs) nothing ∙ append-nil left))

  -- as many are left or in threads as there are
  pub as_many : (left actors : List A) (threads : List T) → Are left actors threads → length actors ≡ length left + length threads
  as_many left actors threads are =
      let ps : List (Asked A) = map promise threads in
      ap (λ (xs : List A). length xs) are.1
      ∙ (length-append left (reverse (map actor ps)) ∙ ap (λ (n : ℕ). length left + n) (length-reverse (map actor ps) ∙ (length-map ps actor ∙ length-map threads promise)))
