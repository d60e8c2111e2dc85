-- What is held came from its packet: a key of an epoch that was live at its receipt opens the packet, and gives all that the
-- item has of it.
use Rattle.std.proofs.Common.{◌≡◌, ℕ, ◌+◌, List, [], ◌∷◌, map, Option, Some, None, option_map, unwrap_or, Result, Ok, Err, refl, sym, ap, subst, ◌∙◌}
use Rattle.std.specs.List.{Contains}
use Rattle.mix_base.specs.Options.{◌>>=◌}
use Rattle.mix_base.specs.Suites.{SuiteMeaning}
use Rattle.mix_base.proofs.Members.{Contains-head, Contains-tail}
use Rattle.epoch_keys.specs.Epochs.{live_epochs}
use Rattle.epoch_keys.specs.Keys.{epoch_secret_key, secret_keys}
use Rattle.sphinx_unwrap.specs.Outcome.{unwrapped}
use Rattle.sphinx_unwrap.specs.declared.outcome.Opened.{Opened}
use Rattle.sphinx_unwrap.specs.declared.faults.Refused.{Refused}
use Rattle.sphinx_unwrap.specs.declared.faults.Refused.TheVariants as refusals
use Rattle.mix_shard.specs.Items.{Item, IsHeld, item_of, item_or_not}
use Rattle.mix_shard.specs.LiveKeys.{first_open, live_keys, opened_with}
use Rattle.mix_shard.specs.declared.setup.Setup.{Setup}

-- an item is what the key of an epoch that was live at its receipt makes of its packet, and it is due when the delay that the
-- packet asks for has passed since then
pub record IsOpening (suite : SuiteMeaning) (item : Item) : Type 0 where
  pub live : Contains (live_epochs item.setup.times item.at) item.epoch
  pub key : List ℕ
  pub of_epoch : epoch_secret_key suite.kem item.setup.seed item.epoch ≡ Some key
  pub opened : Opened
  pub unwraps : unwrapped suite item.setup.geometry key item.packet ≡ Ok opened
  pub tag : item.tag ≡ opened.tag
  pub out : item.out ≡ opened.out
  pub due : item.due ≡ item.at + unwrap_or opened.delay 0

module _ (suite : SuiteMeaning) (setup : Setup) (packet : List ℕ) where
  -- the key of one of these epochs gives this
  record OpensUnder (epochs : List ℕ) (epoch : ℕ) (opened : Opened) : Type 0 where
    tried : Contains epochs epoch
    key : List ℕ
    of_epoch : epoch_secret_key suite.kem setup.seed epoch ≡ Some key
    unwraps : unwrapped suite setup.geometry key packet ≡ Ok opened

  later_opening : (first : ℕ) (epochs : List ℕ) (epoch : ℕ) (opened : Opened) → OpensUnder epochs epoch opened → OpensUnder (first ∷ epochs) epoch opened
  later_opening first epochs epoch opened found = record {
    tried = Contains-tail first epochs epoch found.tried;
    key = found.key;
    of_epoch = found.of_epoch;
    unwraps = found.unwraps;
  }

  abbrev tries : List (ℕ × List ℕ) → List (ℕ × Result Opened Refused)
  tries keys = map (opened_with suite setup.geometry packet) keys

  -- by what the first key gives
  opening_by : (first : ℕ) (key : List ℕ) (result : Result Opened Refused) (others : List (ℕ × Result Opened Refused)) (epochs : List ℕ) (epoch : ℕ) (opened : Opened)
      → epoch_secret_key suite.kem setup.seed first ≡ Some key → unwrapped suite setup.geometry key packet ≡ result
      → (first_open others ≡ Ok (epoch, opened) → OpensUnder epochs epoch opened)
      → first_open ((first, result) ∷ others) ≡ Ok (epoch, opened) → OpensUnder (first ∷ epochs) epoch opened
  opening_by first key (Ok made) others epochs epoch opened has gives rest found =
      let pair : (first, made) ≡ (epoch, opened) = cc in
      let same : first ≡ epoch = ap (λ (p : ℕ × Opened). p.0) pair in
      let same_opened : made ≡ opened = ap (λ (p : ℕ × Opened). p.1) pair in
      record {
        tried = subst (λ (e : ℕ). Contains (first ∷ epochs) e) same (Contains-head first epochs);
        key = key;
        of_epoch = subst (λ (e : ℕ). epoch_secret_key suite.kem setup.seed e ≡ Some key) same has;
        unwraps = gives ∙ ap Ok same_opened;
      }
  opening_by first key (Err refusals.Sealed) others epochs epoch opened has gives rest found = later_opening first epochs epoch opened (rest found)
  opening_by first key (Err refusals.Length) others epochs epoch opened has gives rest found = absurd (cc)
  opening_by first key (Err refusals.Version) others epochs epoch opened has gives rest found = absurd (cc)
  opening_by first key (Err refusals.Commands) others epochs epoch opened has gives rest found = absurd (cc)

  opening_more : (first : ℕ) (epochs : List ℕ) (key : Option (List ℕ)) (others : Option (List (ℕ × List ℕ))) (keys : List (ℕ × List ℕ)) (epoch : ℕ) (opened : Opened)
      → epoch_secret_key suite.kem setup.seed first ≡ key
      → (key >>= λ k. others >>= λ ks. Some ((first, k) ∷ ks)) ≡ Some keys → first_open (tries keys) ≡ Ok (epoch, opened)
      → ((rest : List (ℕ × List ℕ)) → others ≡ Some rest → first_open (tries rest) ≡ Ok (epoch, opened) → OpensUnder epochs epoch opened)
      → OpensUnder (first ∷ epochs) epoch opened
  opening_more first epochs None others keys epoch opened has made found again = absurd (cc)
  opening_more first epochs (Some key) None keys epoch opened has made found again = absurd (cc)
  opening_more first epochs (Some key) (Some others) keys epoch opened has made found again =
      let same : (first, key) ∷ others ≡ keys = cc in
      opening_by first key (unwrapped suite setup.geometry key packet) (tries others) epochs epoch opened has refl (λ opens. again others refl opens)
      (subst (λ (ks : List (ℕ × List ℕ)). first_open (tries ks) ≡ Ok (epoch, opened)) (sym same) found)

  opening_among : (epochs : List ℕ) (keys : List (ℕ × List ℕ)) (epoch : ℕ) (opened : Opened)
      → secret_keys suite.kem setup.seed epochs ≡ Some keys → first_open (tries keys) ≡ Ok (epoch, opened) → OpensUnder epochs epoch opened
  opening_among [] keys epoch opened made found =
      let none : [] ≡ keys = cc in
      let opens : first_open (tries []) ≡ Ok (epoch, opened) = subst (λ (ks : List (ℕ × List ℕ)). first_open (tries ks) ≡ Ok (epoch, opened)) (sym none) found in
      absurd (cc)
  opening_among (first ∷ epochs) keys epoch opened made found =
      opening_more first epochs (epoch_secret_key suite.kem setup.seed first) (secret_keys suite.kem setup.seed epochs) keys epoch opened refl made found
      (λ rest is opens. opening_among epochs rest epoch opened is opens)

  -- the item of what a key gives
  item_opening : (number at : ℕ) (epoch : ℕ) (opened : Opened) → OpensUnder (live_epochs setup.times at) epoch opened
      → IsOpening suite (item_of setup number at packet (epoch, opened))
  item_opening number at epoch opened opens = record {
    live = opens.tried;
    key = opens.key;
    of_epoch = opens.of_epoch;
    opened = opened;
    unwraps = opens.unwraps;
    tag = refl;
    out = refl;
    due = refl;
  }

  item_among : (number at : ℕ) (item : Item) (keys : Option (List (ℕ × List ℕ))) → live_keys suite setup at ≡ keys
      → option_map (item_or_not setup number at packet) (option_map (λ ks. first_open (tries ks)) keys) ≡ Some (Ok item)
      → IsOpening suite item
  item_among number at item None is opens = absurd (cc)
  item_among number at item (Some keys) is opens = by_result (first_open (tries keys)) refl opens
    where
      by_result : (result : Result (ℕ × Opened) Refused) → first_open (tries keys) ≡ result → Some (item_or_not setup number at packet result) ≡ Some (Ok item)
          → IsOpening suite item
      by_result (Err why) found same = absurd (cc)
      by_result (Ok found) first same =
          let item_is : item_of setup number at packet found ≡ item = cc in
          subst (IsOpening suite) item_is
          (item_opening number at found.0 found.1 (opening_among (live_epochs setup.times at) keys found.0 found.1 is first))

-- all that is known of an item that is held
pub held_opening : (suite : SuiteMeaning) (item : Item) → IsHeld suite item → IsOpening suite item
held_opening suite item held =
    item_among suite item.setup item.packet item.number item.at item (live_keys suite item.setup item.at) refl held.opens

-- the epoch whose key opens it was live at its receipt
pub held_live : (suite : SuiteMeaning) (item : Item) → IsHeld suite item → Contains (live_epochs item.setup.times item.at) item.epoch
held_live suite item held = (held_opening suite item held).live
