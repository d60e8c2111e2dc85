-- The packets of a storm: what a fresh one is made with, and that none of the refusals of a maker comes.
use Rattle.std.proofs.Common.{◌≡◌, ℕ, ◌+◌, ◌-◌, ◌%◌, ◌<◌, ◌≤◌, false, List, [], ◌∷◌, ◌++◌, length, take, replicate, Option, Some, None, Result, Ok, IsOk, ap, ◌∙◌, sym, arith}
use Rattle.std.specs.Int.{to_be_bytes, w64}
use Rattle.std.specs.Option.{option_map}
use Rattle.std.specs.Prelude.{◌==◌, unwrap_or}
use Rattle.std.specs.Result.{result_ok}
use Rattle.std.proofs.lemmas.Bool.{le-ltb}
use Rattle.std.proofs.lemmas.List.{length-append, length-replicate, take_all}
use Rattle.std.proofs.lemmas.List.Elements.{All-cons, All-nil}
use Rattle.mix_base.specs.Options.{◌>>=◌}
use Rattle.mix_base.specs.Suites.{SuiteMeaning}
use Rattle.mix_base.specs.WordStreams.{first_words}
use Rattle.epoch_keys.specs.Keys.{epoch_public_key}
use Rattle.packet_form.specs.Commands.{longest_delay}
use Rattle.packet_form.specs.Geometry.{Sizes}
use Rattle.sphinx_make.specs.Making.{made_packet}
use Rattle.sphinx_make.specs.declared.faults.MakeFault.{MakeFault}
use Rattle.node_core.specs.declared.setup.NodeSetup.{NodeSetup}
use Rattle.mix_tools.proofs.MadePackets.{IsMakeable, made_packet-ok}
use Rattle.mix_top.specs.Storm.{Making, body_of, changed, cut, epoch_of, made_as, made_fresh, made_last, next_packet, packet_under, path_with, recipient_id, words_behind}
use Rattle.mix_top.specs.Storming.{IsSealing, making_at}

-- ---- the words

-- a making whose words stand at the same places
same_making : (words other : ℕ → ℕ) (last : Option (List ℕ)) → ((place : ℕ) → words place ≡ other place) → making_at words last ≡ making_at other last
same_making words other last same = λ i. making_at (λ place. same place i) last

-- the words behind the first are drawn as coins, and those behind them are to come
pub drawn_behind : (words behind : ℕ → ℕ) (count needed : ℕ) (coins : List ℕ) → ((place : ℕ) → behind place ≡ words (place + 1)) → needed ≡ count
    → coins ≡ first_words behind count → coins ≡ first_words (words_behind 1 words) needed
drawn_behind words behind count needed coins moved same drawn =
    drawn ∙ ap (first_words behind) (sym same)
    ∙ ap (λ (list : ℕ → ℕ). first_words list needed) (λ i place. (moved place ∙ (let other : place + 1 ≡ 1 + place = omega arith in ap words other)) i)

pub moved_behind : (words behind after : ℕ → ℕ) (count needed : ℕ) → ((place : ℕ) → behind place ≡ words (place + 1)) → needed ≡ count
    → ((place : ℕ) → after place ≡ behind (count + place)) → (place : ℕ) → after place ≡ words (1 + needed + place)
moved_behind words behind after count needed moved same skipped place =
    let further : count + place + 1 ≡ 1 + needed + place = omega (arith, same) in
    skipped place ∙ moved (count + place) ∙ ap words further

module _ (suite : SuiteMeaning) (setup : NodeSetup) (number : ℕ) where
  -- the kind is of the next word, and the packet of those behind it
  pub next_as : (words behind : ℕ → ℕ) (last : Option (List ℕ)) → ((place : ℕ) → behind place ≡ words (place + 1))
      → next_packet suite setup number (making_at words last) ≡ made_as suite setup number (words 0 % 8) (making_at behind last)
  next_as words behind last moved =
      ap (made_as suite setup number (words 0 % 8))
      (same_making (words_behind 1 words) behind last (λ place. let same : 1 + place ≡ place + 1 = omega arith in ap words same ∙ sym (moved place)))

  pub next_is : (words behind : ℕ → ℕ) (last : Option (List ℕ)) (word : ℕ) (made : Option (List ℕ × Making)) → ((place : ℕ) → behind place ≡ words (place + 1))
      → word ≡ words 0 → made_as suite setup number (word % 8) (making_at behind last) ≡ made → next_packet suite setup number (making_at words last) ≡ made
  next_is words behind last word made moved is_word is =
      next_as words behind last moved ∙ ap (λ (first : ℕ). made_as suite setup number (first % 8) (making_at behind last)) (sym is_word) ∙ is

  -- the packets of each kind
  pub as_changed : (making next : Making) (packet result : List ℕ) → made_fresh suite setup number making ≡ Some (packet, next) → result ≡ changed setup.geo packet
      → made_as suite setup number 6 making ≡ Some (result, next)
  as_changed making next packet result made is =
      ap (option_map (λ fresh. (changed setup.geo fresh.0, fresh.1))) made ∙ ap (λ (bytes : List ℕ). Some (bytes, next)) (sym is)

  pub as_cut : (making next : Making) (packet result : List ℕ) → made_fresh suite setup number making ≡ Some (packet, next) → result ≡ cut packet
      → made_as suite setup number 7 making ≡ Some (result, next)
  as_cut making next packet result made is =
      ap (option_map (λ fresh. (cut fresh.0, fresh.1))) made ∙ ap (λ (bytes : List ℕ). Some (bytes, next)) (sym is)

  pub as_last : (kind : ℕ) (making : Making) (made : Option (List ℕ × Making)) → (kind == 5) ≡ false → (kind == 6) ≡ false → (kind == 7) ≡ false
      → made_last suite setup number making ≡ made → made_as suite setup number kind making ≡ made
  as_last kind making made not_5 not_6 not_7 is = rw (not_5, not_6, not_7) is

  -- a fresh packet is made under the key of its epoch, with the words to come
  pub made_fresh_is : (words after : ℕ → ℕ) (last : Option (List ℕ)) (key coins packet : List ℕ) (word : ℕ)
      → epoch_public_key suite.kem setup.seed (epoch_of setup number) ≡ Some key → word ≡ words 0
      → coins ≡ first_words (words_behind 1 words) suite.kem.coins
      → made_packet suite setup.geo (path_with key (word % 1000)) recipient_id (body_of setup number) None coins ≡ Ok packet
      → ((place : ℕ) → after place ≡ words (1 + suite.kem.coins + place))
      → made_fresh suite setup number (making_at words last) ≡ Some (packet, making_at after last)
  made_fresh_is words after last key coins packet word has_key is_word drawn made moved =
      ap (λ (fresh : Option (List ℕ)). fresh >>= (λ bytes. Some (bytes, making_at (words_behind (1 + suite.kem.coins) words) last)))
      (ap (option_map (packet_under suite setup number words)) has_key ∙ ap (λ (bytes : List ℕ). Some bytes) under)
      ∙ ap (λ (making : Making). Some (packet, making)) (same_making (words_behind (1 + suite.kem.coins) words) after last (λ place. sym (moved place)))
    where
      under : packet_under suite setup number words key ≡ packet
      under =
          ap (λ (list : List ℕ). unwrap_or (result_ok (made_packet suite setup.geo (path_with key (words 0 % 1000)) recipient_id (body_of setup number) None list)) []) (sym drawn)
          ∙ ap (λ (first : ℕ). unwrap_or (result_ok (made_packet suite setup.geo (path_with key (first % 1000)) recipient_id (body_of setup number) None coins)) []) (sym is_word)
          ∙ ap (λ (result : Result (List ℕ) MakeFault). unwrap_or (result_ok result) []) made

  pub made_fresh_none : (making : Making) → epoch_public_key suite.kem setup.seed (epoch_of setup number) ≡ None → made_fresh suite setup number making ≡ None
  made_fresh_none making none =
      ap (λ (key : Option (List ℕ)). option_map (packet_under suite setup number making.words) key
      >>= (λ bytes. Some (bytes, making_at (words_behind (1 + suite.kem.coins) making.words) making.last))) none

-- ---- its body

pub body_is : (number size given : ℕ) (items : List ℕ) → items ≡ to_be_bytes w64 number → given ≡ size → 8 ≤ size
    → take given items ++ replicate (given - length items) 0 ≡ to_be_bytes w64 number ++ replicate (size - 8) 0
body_is number size given items same is room =
    ap (λ (xs : List ℕ). take given xs ++ replicate (given - length xs) 0) same ∙ ap (λ (n : ℕ). take n (to_be_bytes w64 number) ++ replicate (n - 8) 0) is
    ∙ ap (λ (xs : List ℕ). xs ++ replicate (size - 8) 0) (take_all size (to_be_bytes w64 number) room)

pub body_length : (setup : NodeSetup) (number : ℕ) → 8 ≤ setup.geo.body → length (body_of setup number) ≡ setup.geo.body
body_length setup number room =
    let parts = length-append (to_be_bytes w64 number) (replicate (setup.geo.body - 8) 0) in
    let zeros = length-replicate {A = ℕ} (setup.geo.body - 8) 0 in
    omega (arith, parts, zeros, room)

-- ---- no maker refuses it

pub storm_made : (suite : SuiteMeaning) (sizes : Sizes) (key recipient body coins : List ℕ) (delay : ℕ) → 1 ≤ sizes.hops → delay < 1000
    → length body ≡ sizes.body → length key ≡ suite.kem.public_key → IsSealing suite.kem key
    → IsOk (made_packet suite sizes (path_with key delay) recipient body None coins)
storm_made suite sizes key recipient body coins delay room soon fits long sealing =
    made_packet-ok suite sizes (path_with key delay) recipient body None coins (omega arith) (omega (arith, room))
    (All-cons (IsMakeable suite) (record { id = replicate 32 17; key = key; delay = Some delay }) []
    (record { key = long; sealed = sealing; delay = le-ltb longest_delay delay (omega (arith, soon)) }) (All-nil (IsMakeable suite)))
    fits tt
