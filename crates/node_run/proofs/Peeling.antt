-- An unwrapped packet has the number, the receipt and the bytes that it was unwrapped with.
use Rattle.std.proofs.Common.{◌≡◌, ℕ, List, Option, Some, None, option_map, Result, Ok, Err, ap, sym}
use Rattle.mix_base.specs.Suites.{SuiteMeaning}
use Rattle.sphinx_unwrap.specs.declared.faults.Refused.{Refused}
use Rattle.sphinx_unwrap.specs.declared.outcome.Opened.{Opened}
use Rattle.mix_shard.specs.Items.{Item, item_of, item_or_not, peeled}
use Rattle.mix_shard.specs.LiveKeys.{opened_at}
use Rattle.mix_shard.specs.declared.setup.Setup.{Setup}

pub record Came (number at : ℕ) (packet : List ℕ) (item : Item) : Type 0 where
  pub number_is : item.number ≡ number
  pub at_is : item.at ≡ at
  pub packet_is : item.packet ≡ packet

came_from : (setup : Setup) (number at : ℕ) (packet : List ℕ) (item : Item) (answer : Option (Result (ℕ × Opened) Refused))
    → option_map (item_or_not setup number at packet) answer ≡ Some (Ok item) → Came number at packet item
came_from setup number at packet item None opens = absurd (cc)
came_from setup number at packet item (Some (Err why)) opens = absurd (cc)
came_from setup number at packet item (Some (Ok found)) opens =
    let same : item_of setup number at packet found ≡ item = cc in
    record {
      number_is = ap (λ (i : Item). i.number) (sym same);
      at_is = ap (λ (i : Item). i.at) (sym same);
      packet_is = ap (λ (i : Item). i.packet) (sym same);
    }

pub peeled_came : (suite : SuiteMeaning) (setup : Setup) (number at : ℕ) (packet : List ℕ) (item : Item) → peeled suite setup number at packet ≡ Some (Ok item)
    → Came number at packet item
peeled_came suite setup number at packet item opens = came_from setup number at packet item (opened_at suite setup at packet) opens
