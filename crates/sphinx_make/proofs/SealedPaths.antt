-- What is known of a path that was sealed: each hop is made from its own coins, and secret keys that agree with the path
-- open all of them.
use Rattle.std.specs.Prelude.{⊤}
use Rattle.std.proofs.Common.{◌≡◌, ℕ, suc, ◌+◌, ◌*◌, ◌^◌, ◌≤◌, ◌<◌, List, [], ◌∷◌, ◌++◌, length, drop, take, get_or, Bool, true, false, cond, ◌&&◌, ltb, leb, eqb, Option, Some, None, IfSome, IsSomeAnd, Result, Ok, Err, All, refl, sym, ap, subst, ◌∙◌, arith, length-drop, Fits, w32}
use Rattle.std.specs.List.{AllByRecursion, position, position_or_len}
use Rattle.std.specs.Option.{option_map, option_map_or, ok_or}
use Rattle.std.proofs.lemmas.Bool.{leb-true, ltb-false}
use Rattle.std.proofs.lemmas.List.{length-take-le}
use Rattle.std.proofs.Math.Nat.{mul-le-mul_right}
use Rattle.std.proofs.lemmas.List.Elements.{All-cons, All-drop, All-from_get_or, All-take}
use Rattle.std.proofs.Math.Facts.{Fits-lt-pow}
use Rattle.std.proofs.lemmas.List.Sums.{fails_before_first}
use Rattle.mix_base.specs.Results.{◌>>=◌}
use Rattle.mix_base.specs.Suites.{Agrees, SuiteMeaning}
use Rattle.packet_form.specs.Commands.{HasLengths, longest_delay}
use Rattle.packet_form.proofs.CommandLaws.{both}
use Rattle.packet_form.specs.Geometry.{Sizes, routing, slot}
use Rattle.packet_form.specs.Geometry as lengths
use Rattle.packet_form.specs.declared.commands.Exit.{Exit}
use Rattle.sphinx_make.proofs.HeaderLaws.{AllOpenTo, IsReady, IsSealed, KeepsLengths, OpensTo, carries-made}
use Rattle.sphinx_make.specs.Carrying.{CarriesEachPayload}
use Rattle.sphinx_make.specs.Making.{AllAgree, checked, checked_count, decrypted_along, delay_refused, header_for, is_late, keyed, sealed_by, sealed_hop, sealed_path, wides_of}
use Rattle.sphinx_make.specs.NestedPath.{Carries, KeyedHop}
use Rattle.sphinx_make.specs.Sealing.{HasKeyLengths, IsOnTime}
use Rattle.sphinx_make.specs.declared.faults.MakeFault.{MakeFault}
use Rattle.sphinx_make.specs.declared.faults.MakeFault.TheVariants as faults
use Rattle.sphinx_make.specs.declared.path.HopSpec.{HopSpec}
use Rattle.sphinx_make.specs.declared.path.SealedHop.{SealedHop}

-- ---- a path that isn't refused

record IsFitting (sizes : Sizes) (path : List HopSpec) : Type 0 where
  some : 0 < length path
  most : length path ≤ sizes.hops
  on_time : All (λ spec. is_late spec ≡ false) path

abbrev counted : Bool → Result ⊤ MakeFault
counted test = cond test (Ok tt) (Err faults.PathLength)

count_passed : (test : Bool) (next : Result ⊤ MakeFault) → (counted test >>= λ fitting. next) ≡ Ok tt → (test ≡ true) × (next ≡ Ok tt)
count_passed true next e = (refl, e)
count_passed false next e = cc

none_found : (test : Bool) (place : ℕ) → delay_refused (cond test (Some place) None) ≡ Ok tt → test ≡ false
none_found true place e = cc
none_found false place e = refl

is_fitting : (sizes : Sizes) (path : List HopSpec) → checked sizes path ≡ Ok tt → IsFitting sizes path
unfolding checked checked_count
is_fitting sizes path e =
    let first : ℕ = position_or_len is_late path in
    let passed = count_passed (leb 1 (length path) && leb (length path) sizes.hops) (delay_refused (position is_late path)) e in
    let counts = both (leb 1 (length path)) (leb (length path) sizes.hops) passed.0 in
    let none : length path ≤ first = ltb-false first (length path) (none_found (ltb first (length path)) first passed.1) in
    record {
      some = leb-true 1 (length path) counts.0;
      most = leb-true (length path) sizes.hops counts.1;
      on_time = λ k d within. fails_before_first is_late path k d (omega arith);
    }

-- ---- one hop

-- a hop is made from its own coins
record IsSealedFrom (suite : SuiteMeaning) (spec : HopSpec) (own : List ℕ) (hop : SealedHop) : Type 0 where
  id : hop.id ≡ spec.id
  delay : hop.delay ≡ spec.delay
  secret : List ℕ
  made : suite.kem.encapsulate spec.key own ≡ Some (hop.ciphertext, secret)
  keys : hop.keys ≡ suite.hop_keys secret

from_encapsulation : (suite : SuiteMeaning) (spec : HopSpec) (own : List ℕ) (hop : SealedHop) (test : Bool) (found : Option (List ℕ × List ℕ)) → suite.kem.encapsulate spec.key own ≡ found → cond test (option_map (sealed_by suite spec) found) None ≡ Some hop → IsSealedFrom suite spec own hop
from_encapsulation suite spec own hop true (Some made) e h =
    let same : sealed_by suite spec made ≡ hop = cc in
    subst (λ (x : SealedHop). IsSealedFrom suite spec own x) same (record { id = refl; delay = refl; secret = made.1; made = e; keys = refl })
from_encapsulation suite spec own hop true None e h = absurd cc
from_encapsulation suite spec own hop false found e h = absurd cc

is_sealed_from : (suite : SuiteMeaning) (spec : HopSpec) (own : List ℕ) (hop : SealedHop) → sealed_hop suite spec own ≡ Some hop → IsSealedFrom suite spec own hop
unfolding sealed_hop
is_sealed_from suite spec own hop e = from_encapsulation suite spec own hop (eqb (length spec.key) suite.kem.public_key) (suite.kem.encapsulate spec.key own) refl e

-- a secret key that agrees with the hop's key opens what was made for it
opens_to : (suite : SuiteMeaning) (spec : HopSpec) (own : List ℕ) (hop : SealedHop) (key : List ℕ) → length own ≡ suite.kem.coins → All (λ word. word < 2 ^ 32) own → Agrees suite.kem spec.key key → IsSealedFrom suite spec own hop → OpensTo suite (record { secret_key = key; id = spec.id; delay = spec.delay }) hop
opens_to suite spec own hop key count words agrees from =
    let opened : suite.kem.decapsulate key hop.ciphertext ≡ Some from.secret =
    subst (λ (made : Option (List ℕ × List ℕ)). IsSomeAnd made (λ made. suite.kem.decapsulate key made.0 ≡ Some made.1)) from.made (agrees own count words) in
    record {
      id = sym from.id;
      delay = sym from.delay;
      keys = ap (option_map suite.hop_keys) opened ∙ ap Some (sym from.keys);
    }

on_time_from : (delay : Option ℕ) → option_map_or (λ delay. ltb longest_delay delay) delay false ≡ false → IfSome delay (λ delay. delay ≤ longest_delay)
on_time_from None e = tt
on_time_from (Some delay) e = ltb-false longest_delay delay e

-- ---- all hops

-- each hop is made from its own coins
abbrev AllSealedFrom : SuiteMeaning → List HopSpec → List ℕ → List SealedHop → Type 0
AllSealedFrom suite [] coins [] = ⊤
AllSealedFrom suite [] coins (hop ∷ hops) = ⊥
AllSealedFrom suite (spec ∷ path) coins [] = ⊥
AllSealedFrom suite (spec ∷ path) coins (hop ∷ hops) = IsSealedFrom suite spec (take suite.kem.coins coins) hop × AllSealedFrom suite path (drop suite.kem.coins coins) hops

-- the first hop and the others, where both are made
record IsCut (suite : SuiteMeaning) (place : ℕ) (spec : HopSpec) (path : List HopSpec) (coins : List ℕ) (hops : List SealedHop) : Type 0 where
  first : SealedHop
  others : List SealedHop
  whole : first ∷ others ≡ hops
  sealed : sealed_hop suite spec (take suite.kem.coins coins) ≡ Some first
  behind : sealed_path suite (place + 1) path (drop suite.kem.coins coins) ≡ Ok others

is_cut : (suite : SuiteMeaning) (place : ℕ) (spec : HopSpec) (path : List HopSpec) (coins : List ℕ) (hops : List SealedHop) (found : Option SealedHop) (more : Result (List SealedHop) MakeFault) → sealed_hop suite spec (take suite.kem.coins coins) ≡ found → sealed_path suite (place + 1) path (drop suite.kem.coins coins) ≡ more
    → (ok_or found (faults.KeyForm place) >>= λ first. more >>= λ others. Ok (first ∷ others)) ≡ Ok hops → IsCut suite place spec path coins hops
is_cut suite place spec path coins hops (Some first) (Ok others) one rest e = record { first = first; others = others; whole = cc; sealed = one; behind = rest }
is_cut suite place spec path coins hops (Some first) (Err why) one rest e = absurd cc
is_cut suite place spec path coins hops None more one rest e = absurd cc

all_sealed_from : (suite : SuiteMeaning) (place : ℕ) (path : List HopSpec) (coins : List ℕ) (hops : List SealedHop) → sealed_path suite place path coins ≡ Ok hops → AllSealedFrom suite path coins hops
unfolding sealed_path
all_sealed_from suite place [] coins hops e =
    let none : [] ≡ hops = cc in
    subst (λ (hs : List SealedHop). AllSealedFrom suite [] coins hs) none tt
all_sealed_from suite place (spec ∷ path) coins hops e =
    let cut = is_cut suite place spec path coins hops (sealed_hop suite spec (take suite.kem.coins coins)) (sealed_path suite (place + 1) path (drop suite.kem.coins coins)) refl refl e in
    subst (λ (hs : List SealedHop). AllSealedFrom suite (spec ∷ path) coins hs) cut.whole
    (is_sealed_from suite spec (take suite.kem.coins coins) cut.first cut.sealed, all_sealed_from suite (place + 1) path (drop suite.kem.coins coins) cut.others cut.behind)

count_of : (suite : SuiteMeaning) (path : List HopSpec) (coins : List ℕ) (hops : List SealedHop) → AllSealedFrom suite path coins hops → length hops ≡ length path
count_of suite [] coins [] all = refl
count_of suite [] coins (hop ∷ hops) all = absurd all
count_of suite (spec ∷ path) coins [] all = absurd all
count_of suite (spec ∷ path) coins (hop ∷ hops) all = ap suc (count_of suite path (drop suite.kem.coins coins) hops all.1)

all_on_time : (suite : SuiteMeaning) (path : List HopSpec) (coins : List ℕ) (hops : List SealedHop) → AllSealedFrom suite path coins hops → All (λ spec. is_late spec ≡ false) path → All IsOnTime hops
all_on_time suite [] coins [] all early = λ k d within. absurd (omega arith)
all_on_time suite [] coins (hop ∷ hops) all early = absurd all
all_on_time suite (spec ∷ path) coins [] all early = absurd all
all_on_time suite (spec ∷ path) coins (hop ∷ hops) all early =
    All-cons IsOnTime hop hops
    (subst (λ (delay : Option ℕ). IfSome delay (λ delay. delay ≤ longest_delay)) (sym all.0.delay) (on_time_from spec.delay (early 0 spec (omega arith))))
    (all_on_time suite path (drop suite.kem.coins coins) hops all.1 (λ k d within. early (suc k) d (omega arith)))

all_open : (suite : SuiteMeaning) (path : List HopSpec) (coins : List ℕ) (hops : List SealedHop) (keys : List (List ℕ)) → length coins ≡ length path * suite.kem.coins → All (λ word. word < 2 ^ 32) coins → AllAgree suite.kem path keys → AllSealedFrom suite path coins hops → AllOpenTo suite (keyed path keys) hops
all_open suite [] coins [] keys count words agree all = tt
all_open suite [] coins (hop ∷ hops) keys count words agree all = absurd all
all_open suite (spec ∷ path) coins [] keys count words agree all = absurd all
all_open suite (spec ∷ path) coins (hop ∷ hops) [] count words agree all = absurd agree
all_open suite (spec ∷ path) coins (hop ∷ hops) (key ∷ keys) count words agree all =
    let n : ℕ = suite.kem.coins in
    let product : suc (length path) * n ≡ n + length path * n = omega arith in
    let own : length (take n coins) ≡ n = length-take-le n coins (omega arith) in
    let others : length (drop n coins) ≡ length path * n = omega (arith, length-drop n coins) in (
      opens_to suite spec (take n coins) hop key own (All-take (λ word. word < 2 ^ 32) n coins words) agree.0 all.0,
      all_open suite path (drop n coins) hops keys others (All-drop (λ word. word < 2 ^ 32) n coins words) agree.1 all.1,
    )

-- what is known of the hops that a path is sealed to
pub record AreSealed (suite : SuiteMeaning) (sizes : Sizes) (path : List HopSpec) (hops : List SealedHop) : Type 0 where
  pub some : 0 < length hops
  pub most : length hops ≤ sizes.hops
  pub on_time : All IsOnTime hops
  pub opened : (keys : List (List ℕ)) → AllAgree suite.kem path keys → AllOpenTo suite (keyed path keys) hops

pub are_sealed : (suite : SuiteMeaning) (sizes : Sizes) (path : List HopSpec) (coins : List ℕ) (hops : List SealedHop) (n : ℕ) → suite.kem.coins ≡ n → checked sizes path ≡ Ok tt → sealed_path suite 0 path coins ≡ Ok hops → length coins ≡ length path * n → ((place : ℕ) → Fits w32 (get_or coins place 0)) → AreSealed suite sizes path hops
are_sealed suite sizes path coins hops n coins_are fine sealed each fits_word =
    let from = all_sealed_from suite 0 path coins hops sealed in
    let fits = is_fitting sizes path fine in
    let words = All-from_get_or (λ word. word < 2 ^ 32) coins 0 (λ place within. Fits-lt-pow (fits_word place)) in
    let same : length hops ≡ length path = count_of suite path coins hops from in
    let count : length coins ≡ length path * suite.kem.coins = each ∙ ap (λ k. length path * k) (sym coins_are) in
    record {
      some = omega arith;
      most = omega arith;
      on_time = all_on_time suite path coins hops from fits.on_time;
      opened = λ keys agree. all_open suite path coins hops keys count words agree from;
    }

-- ---- the nested path

is_sealed : (sizes : Sizes) (ct : ℕ) (hops : List SealedHop) → sizes.ct ≡ ct → All (HasKeyLengths ct) hops → All IsOnTime hops → AllByRecursion (IsSealed sizes) hops
is_sealed sizes ct [] same known on_time = tt
is_sealed sizes ct (hop ∷ hops) same known on_time =
    let own = known 0 hop (omega arith) in (
      record { ciphertext = own.ciphertext ∙ sym same; id = own.id; mac_key = own.mac_key; delay = on_time 0 hop (omega arith) },
      is_sealed sizes ct hops same (λ k d within. known (suc k) d (omega arith)) (λ k d within. on_time (suc k) d (omega arith)),
    )

carries_along : (suite : SuiteMeaning) (sizes : Sizes) (last : Exit) (keyed_path : List KeyedHop) (hops : List SealedHop) (payload : List ℕ)
    → KeepsLengths suite → HasLengths last → AllByRecursion (IsSealed sizes) hops → 0 < length hops → length hops ≤ sizes.hops → AllOpenTo suite keyed_path hops → length payload ≡ lengths.payload sizes
    → Carries suite sizes keyed_path last (header_for suite sizes last hops ++ payload) (decrypted_along suite (wides_of hops) payload)
carries_along suite sizes last keyed_path [] payload laws h is some most opens long = absurd (omega arith)
carries_along suite sizes last [] (hop ∷ hops) payload laws h is some most opens long = absurd opens
carries_along suite sizes last (keyed_hop ∷ keyed_path) (hop ∷ hops) payload laws h is some most opens long =
    let slots : suc (length hops) * slot sizes ≤ sizes.hops * slot sizes = mul-le-mul_right (slot sizes) most in
    let room : 0 + slot sizes + length hops * slot sizes ≤ routing sizes = omega arith in
    let ready : IsReady suite sizes last [] hop hops = record { laws = laws; exit = h; own = is.0; others = is.1; room = room } in
    carries-made suite sizes last [] keyed_hop keyed_path hop hops payload ready opens.0 opens.1 long

pub header_carries : (suite : SuiteMeaning) (sizes : Sizes) (ct : ℕ) (path : List HopSpec) (last : Exit) (hops : List SealedHop) (header : List ℕ) (wides : List (List ℕ))
    → KeepsLengths suite → HasLengths last → sizes.ct ≡ ct → All (HasKeyLengths ct) hops → AreSealed suite sizes path hops → header ≡ header_for suite sizes last hops → wides ≡ wides_of hops
    → CarriesEachPayload suite sizes path last header wides
header_carries suite sizes ct path last hops header wides laws h same known sealed header_is wides_are = λ keys payload agree long.
    rw (header_is, wides_are)
    (carries_along suite sizes last (keyed path keys) hops payload laws h (is_sealed sizes ct hops same known sealed.on_time) sealed.some sealed.most (sealed.opened keys agree) long)
