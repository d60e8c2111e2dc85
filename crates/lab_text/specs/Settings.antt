-- The settings of the command `run`: their keys, each at its place, what a text of TOML says of them, and which place is the
-- first that is bad.
use Rattle.std.specs.Prelude.{◌≡◌, ⊤, ℕ, ◌-◌, ◌/◌, ◌^◌, ◌≤◌, ◌⊎◌, ◌||◌, Bool, false, not, ℤ, pos, negsuc, if◌then◌else◌}
use Rattle.std.specs.Prelude.{List, [], ◌∷◌, length, get_or, String, codes, IsUtf8}
use Rattle.std.specs.Prelude.{Option, Some, None, option_and_then, Result, Ok, Err}
use Rattle.std.specs.BTreeMap.{BTreeMap}
use Rattle.std.specs.List.{list_any}
use Rattle.std.specs.Str.{bytes_eq}
use Rattle.std.specs.declared.alloc.Global.{Global}
use Rattle.mix_base.specs.Results.{◌>>=◌}
use Rattle.packet_form.specs.Geometry.{IsWithin}
use Rattle.sphinx_make.specs.Drawing.{IsAllowed}
use Rattle.toml.specs.Data.{Data, as_integer, as_str, Members, no_members, member, get_member}
use Rattle.toml.specs.Parse.{parse_document}
use Rattle.toml.specs.View.{table_view}
use Rattle.toml.specs.declared.value.Value.{Value}
use Rattle.lab_text.specs.Words.{thirty_two, within}
use Rattle.lab_text.specs.WordForms.{suite_of}
use Rattle.lab_text.specs.declared.settings.Config.{Config}
use Rattle.lab_text.specs.declared.settings.ConfigFault.{ConfigFault}
use Rattle.lab_text.specs.declared.settings.ConfigFault.TheVariants.{BadConfig, Memory}

-- ---- the keys

-- the keys in the order of their places, from place 1 on; all are needed
abbrev pub setting_keys : List (List ℕ)
setting_keys =
    codes "suite" ∷ codes "body" ∷ codes "layers" ∷ codes "width" ∷ codes "workers" ∷ codes "shards"
    ∷ codes "epoch_ms" ∷ codes "grace_ms" ∷ codes "seed" ∷ codes "messages"
    ∷ codes "delay_threshold" ∷ codes "delay_unit" ∷ codes "delay_cap" ∷ []

-- the name of each place: place 0 is the text as a whole, and a place behind the keys is a key that isn't among them
abbrev pub key_name : ℕ → List ℕ
key_name place = get_or (codes "toml" ∷ setting_keys) place (codes "unknown")

-- whether a key is among them
abbrev pub is_setting : List ℕ → Bool
is_setting key = list_any (λ name. bytes_eq name key) setting_keys

-- whether a table has a key that isn't
abbrev pub has_unknown : Members → Bool
has_unknown no_members = false
has_unknown (member key value others) = not (is_setting key) || has_unknown others

-- ---- what stands at a key

-- an integer, where it is in a range
abbrev pub whole_within : ℕ → ℕ → ℤ → Option ℕ
whole_within low high (pos value) = within low high value
whole_within low high (negsuc below) = None

abbrev pub number_of : ℕ → ℕ → Data → Option ℕ
number_of low high value = option_and_then (whole_within low high) (as_integer value)

-- whether a string names the suite `ntru`, where it names `ntru` or `lab`
abbrev pub suite_in : Data → Option Bool
suite_in value = option_and_then suite_of (as_str value)

-- the 32 bytes that a string spells
abbrev pub seed_in : Data → Option (List ℕ)
seed_in value = option_and_then thirty_two (as_str value)

-- ---- the settings of a table

-- a value, or the place that is bad without it
abbrev pub at_place : {A : Type 0} → ℕ → Option A → Result A ℕ
at_place place None = Err place
at_place place (Some value) = Ok value

-- what stands at the key of a place, as this reads it
abbrev pub read_at : {A : Type 0} → Members → ℕ → (Data → Option A) → Result A ℕ
read_at table place read = at_place place (option_and_then read (get_member (key_name place) table))

abbrev pub number_at : Members → ℕ → ℕ → ℕ → Result ℕ ℕ
number_at table place low high = read_at table place (number_of low high)

-- the settings, or the first place that is bad; a grace is at most a quarter of an epoch
abbrev pub config_of : Members → Result Config ℕ
config_of table = do
  ntru ← read_at table 1 suite_in
  body ← number_at table 2 16 4096
  layers ← number_at table 3 1 5
  width ← number_at table 4 1 4
  workers ← number_at table 5 1 4
  shards ← number_at table 6 1 16
  epoch ← number_at table 7 4 (2 ^ 40)
  grace ← number_at table 8 0 (epoch / 4)
  seed ← read_at table 9 seed_in
  messages ← number_at table 10 0 10000
  threshold ← number_at table 11 0 (2 ^ 32 - 1)
  unit ← number_at table 12 1 60000
  cap ← number_at table 13 0 10800000
  if has_unknown table then Err 14 else Ok (record {
    ntru = ntru;
    body = body;
    layers = layers;
    width = width;
    workers = workers;
    shards = shards;
    epoch = epoch;
    grace = grace;
    seed = seed;
    messages = messages;
    draw = record { threshold = threshold; unit = unit; cap = cap };
  })

-- their ranges
pub record IsConfigInRange (config : Config) : Type 0 where
  pub body : IsWithin 16 4096 config.body
  pub layers : IsWithin 1 5 config.layers
  pub width : IsWithin 1 4 config.width
  pub workers : IsWithin 1 4 config.workers
  pub shards : IsWithin 1 16 config.shards
  pub epoch : IsWithin 4 (2 ^ 40) config.epoch
  pub grace : config.grace ≤ config.epoch / 4
  pub messages : config.messages ≤ 10000
  pub unit : config.draw.unit ≤ 60000
  pub draw : IsAllowed config.draw

-- ---- the settings of a text

-- a text is a document of TOML with this table: at most 65,536 bytes of UTF-8, in the grammar
pub record IsDocument (text : List ℕ) (table : Members) : Type 0 where
  pub few : length text ≤ 65536
  pub utf8 : IsUtf8 text
  pub parsed : parse_document text ≡ Some table

-- what was parsed of a text: its table, or the fault of place 0
abbrev pub ReadsDocument : List ℕ → Result (BTreeMap (String Global) Value) ConfigFault → Type 0
ReadsDocument text (Ok table) = IsDocument text (table_view table)
ReadsDocument text (Err (BadConfig key)) = (key ≡ 0) × ((table : Members) → ¬ IsDocument text table)
ReadsDocument text (Err Memory) = ⊤

-- what was read of a text: the settings of its table; or the first place that is bad, which is place 0 where the text is no
-- document; want of memory may come at any time, and then nothing is said
abbrev pub ReadsConfig : List ℕ → Result Config ConfigFault → Type 0
ReadsConfig text (Ok config) = (table : Members) × IsDocument text table × (config_of table ≡ Ok config)
ReadsConfig text (Err (BadConfig key)) =
    ((key ≡ 0) × ((table : Members) → ¬ IsDocument text table))
    ⊎ ((table : Members) × IsDocument text table × (config_of table ≡ Err key))
ReadsConfig text (Err Memory) = ⊤
