-- The ends of lines are added one by one.
use Rattle.std.proofs.Common.{◌≡◌, ◌<◌, ◌≤◌, ◌+◌, ◌*◌, ◌/◌, ◌==◌, ℕ, Bool, true, false, zero, suc, List, [], ◌∷◌, ◌++◌, length, map, replicate, refl, sym, ap, subst, ◌∙◌, append_assoc, zero-add, add_assoc, ne_eqb, arith, if◌then◌else◌}
use Rattle.std.specs.Prelude.{All}
use Rattle.std.specs.Global.{Vec}
use Rattle.std.specs.List.{range_with_len}
use Rattle.std.proofs.lemmas.List.{append-nil, length-append, length_push, map-append}
use Rattle.std.proofs.lemmas.List.Elements.{All-push}
use Rattle.std.proofs.lemmas.List.FromFn.{map-range_with_len_more}
use Rattle.std.proofs.lemmas.Nat.{div-mul-add}
use Rattle.lab_text.specs.declared.settings.Config.{Config}
use Rattle.mix_waves.specs.Network.{node_id}
use Rattle.turn_lock.proofs.Lists.{all_middle}
use Rattle.net_run.specs.Lines.{AddsLinked, AreLinked, IsLinked, ids_in, ids_of, ids_onto, sizes}
use Rattle.net_run.specs.Plans.{layer_of, links_into, links_onto}
use Rattle.net_run.specs.declared.lines.NodeLinks.{NodeLinks}

-- one more line of a sender
pub ids_more : {O : Type 0} (layer n : ℕ) (old new : List (List ℕ × O)) (id : List ℕ) (end : O) → ids_of old ≡ ids_in layer n → new ≡ old ++ (id, end) ∷ [] → id ≡ node_id layer n
    → ids_of new ≡ ids_in layer (n + 1)
ids_more {O} layer n old new id end are new_is id_is =
    ap (λ (links : List (List ℕ × O)). ids_of links) new_is ∙ map-append (λ (link : List ℕ × O). link.0) old ((id, end) ∷ [])
    ∙ ap (λ (ids : List (List ℕ)). ids ++ id ∷ []) are ∙ ap (λ (i : List ℕ). ids_in layer n ++ i ∷ []) id_is
    ∙ sym (map-range_with_len_more (node_id layer) 0 n n (zero-add n))

-- one more list
pub sizes_more : {A : Type 0} (old new : List (Vec A)) (list : Vec A) → new ≡ old ++ list ∷ [] → sizes new ≡ sizes old ++ length list.items ∷ []
sizes_more {A} old new list is = ap (λ (lists : List (Vec A)). sizes lists) is ∙ map-append (λ (l : Vec A). length l.items) old (list ∷ [])

-- with one end more
pub grown_more : {A : Type 0} (grown new : List (Vec A)) (met : List (Vec A)) (was is : Vec A) (end : A) → sizes grown ≡ map (λ n. n + 1) (sizes met) → new ≡ grown ++ is ∷ []
    → is.items ≡ was.items ++ end ∷ [] → sizes new ≡ map (λ n. n + 1) (sizes (met ++ was ∷ []))
grown_more grown new met was is end are new_is is_one =
    sizes_more grown new is new_is
    ∙ ap (λ (ns : List ℕ). ns ++ length is.items ∷ []) are
    ∙ ap (λ (n : ℕ). map (λ n. n + 1) (sizes met) ++ n ∷ []) (ap length is_one ∙ length_push was.items end)
    ∙ sym (ap (λ (ns : List ℕ). map (λ n. n + 1) ns) (sizes_more met (met ++ was ∷ []) was refl) ∙ map-append (λ n. n + 1) (sizes met) (length was.items ∷ []))

-- all have one more
pub all_grown : (count n : ℕ) → map (λ n. n + 1) (replicate count n) ≡ replicate count (n + 1)
all_grown zero n = refl
all_grown (suc count) n = ap (λ (ns : List ℕ). (n + 1) ∷ ns) (all_grown count n)

pub copies : (count n : ℕ) → length (replicate count n) ≡ count
copies zero n = refl
copies (suc count) n = ap (λ k. suc k) (copies count n)

pub many_of : {A : Type 0} (lists : List (Vec A)) (count n : ℕ) → sizes lists ≡ replicate count n → length lists ≡ count
many_of {A} lists count n are = sym (long lists) ∙ ap (λ (ns : List ℕ). length ns) are ∙ copies count n
  where
    long : (ls : List (Vec A)) → length (sizes ls) ≡ length ls
    long [] = refl
    long (l ∷ ls) = ap (λ n. suc n) (long ls)

-- each of them has so many
pub each_of : {A : Type 0} (lists front rest : List (Vec A)) (list : Vec A) (count n : ℕ) → sizes lists ≡ replicate count n → lists ≡ front ++ list ∷ rest → length list.items ≡ n
each_of {A} lists front rest list count n are is =
    of_sizes count (sizes lists) (sizes front) (sizes rest) (length list.items) are (ap (λ (ls : List (Vec A)). sizes ls) is ∙ map-append (λ (l : Vec A). length l.items) front (list ∷ rest))
  where
    of_sizes : (m : ℕ) (all before behind : List ℕ) (k : ℕ) → all ≡ replicate m n → all ≡ before ++ k ∷ behind → k ≡ n
    of_sizes zero all before behind k same split = absurd (let a = ap (λ (ns : List ℕ). length ns) (sym same ∙ split) ∙ length-append before (k ∷ behind) in omega (arith, a))
    of_sizes (suc m) all [] behind k same split = first_same (sym split ∙ same)
      where
        first_same : k ∷ behind ≡ n ∷ replicate m n → k ≡ n
        first_same e = cc
    of_sizes (suc m) all (b ∷ before) behind k same split = of_sizes m (before ++ k ∷ behind) before behind k (rest_same (sym split ∙ same)) refl
      where
        rest_same : b ∷ (before ++ k ∷ behind) ≡ n ∷ replicate m n → before ++ k ∷ behind ≡ replicate m n
        rest_same e = cc

module _ {N O : Type 0} where
  pub none_added : (incoming : ℕ) (ids : List (List ℕ)) (nodes : List (NodeLinks N O)) → AddsLinked 0 incoming ids nodes nodes
  none_added incoming ids nodes = record { added = []; are = sym (append-nil nodes); many = refl; each = λ k d low. absurd (omega (arith, low)) }

  pub one_added : (count incoming : ℕ) (ids : List (List ℕ)) (old mid new : List (NodeLinks N O)) (links : NodeLinks N O) → AddsLinked count incoming ids old mid → new ≡ mid ++ links ∷ []
      → IsLinked incoming ids links → AddsLinked (count + 1) incoming ids old new
  one_added count incoming ids old mid new links adds is one = record {
    added = adds.added ++ links ∷ [];
    are = is ∙ ap (λ (ls : List (NodeLinks N O)). ls ++ links ∷ []) adds.are ∙ append_assoc old adds.added (links ∷ []);
    many = length_push adds.added links ∙ ap (λ n. n + 1) adds.many;
    each = All-push (IsLinked incoming ids) adds.added links adds.each one;
  }

  -- a layer more
  linked_join : (config : Config) (number : ℕ) (first more : List (NodeLinks N O)) → AreLinked config number first → AreLinked config (number + length first) more
      → AreLinked config number (first ++ more)
  linked_join config number [] more one two = subst (λ (n : ℕ). AreLinked config n more) {x = number + 0} {y = number} (omega arith) two
  linked_join config number (l ∷ ls) more one two =
      (one.0, linked_join config (number + 1) ls more one.1 (subst (λ (n : ℕ). AreLinked config n more) {x = number + suc (length ls)} {y = number + 1 + length ls} (omega arith) two))

  layer_linked : (config : Config) (layer place : ℕ) (more : List (NodeLinks N O)) → place + length more ≤ config.width → All (IsLinked (links_into config layer) (ids_onto config layer)) more
      → AreLinked config (layer * config.width + place) more
  layer_linked config layer place [] fit all = tt
  layer_linked config layer place (l ∷ ls) fit all = (
    subst (λ (n : ℕ). IsLinked (links_into config n) (ids_onto config n) l) (sym (div-mul-add layer config.width place (omega (arith, fit)))) (all_middle (IsLinked (links_into config layer) (ids_onto config layer)) [] ls l all),
    subst (λ (n : ℕ). AreLinked config n ls) {x = layer * config.width + (place + 1)} {y = layer * config.width + place + 1} (omega arith)
        (layer_linked config layer (place + 1) ls (omega (arith, fit)) (λ k d low. all (suc k) d (omega (arith, low)))),
  )

  pub layer_more : (config : Config) (layer : ℕ) (old new : List (NodeLinks N O)) → AreLinked config 0 old → length old ≡ layer * config.width
      → AddsLinked config.width (links_into config layer) (ids_onto config layer) old new → AreLinked config 0 new
  layer_more config layer old new linked many adds =
      subst (λ (ls : List (NodeLinks N O)). AreLinked config 0 ls) (sym adds.are)
      (linked_join config 0 old adds.added linked
      (subst (λ (n : ℕ). AreLinked config n adds.added) {x = layer * config.width + 0} {y = 0 + length old} (omega (arith, many))
      (layer_linked config layer 0 adds.added (omega (arith, adds.many)) adds.each)))

  pub layer_many : (config : Config) (layer : ℕ) (old new : List (NodeLinks N O)) → length old ≡ layer * config.width
      → AddsLinked config.width (links_into config layer) (ids_onto config layer) old new → length new ≡ (layer + 1) * config.width
  layer_many config layer old new many adds =
      let a = ap (λ (ls : List (NodeLinks N O)). length ls) adds.are ∙ length-append old adds.added in
      let b : (layer + 1) * config.width ≡ layer * config.width + config.width = add_one_mul layer config.width in
      omega (arith, a, b, many, adds.many)
    where
      add_one_mul : (m k : ℕ) → (m + 1) * k ≡ m * k + k
      add_one_mul m k = omega arith

-- how many lines go out
pub onto_few : (config : Config) (layer : ℕ) → config.width ≤ 255 → links_onto config layer ≤ 255
onto_few config layer few = by (layer + 1 == config.layers) config.width few
  where
    by : (last : Bool) (width : ℕ) → width ≤ 255 → (if last then 0 else width) ≤ 255
    by true width low = omega arith
    by false width low = low

-- and come in at the next layer, if there is one
pub next_incoming : (config : Config) (layer : ℕ) → layer + 1 < config.layers → replicate (links_onto config layer) config.width ≡ replicate config.width (links_into config (layer + 1))
next_incoming config layer low =
    ap (λ (last : Bool). replicate (if last then 0 else config.width) config.width) (ne_eqb (layer + 1) config.layers (λ same. omega (arith, low, same)))
    ∙ sym (ap (λ (first : Bool). replicate config.width (if first then 1 else config.width)) (ne_eqb (layer + 1) 0 (λ same. omega (arith, same))))
