-- What the map of a table finds at the key.
use Rattle.toml.proofs.Views.{table_get}
use Rattle.lab_text.proofs.settings.value_at.Goals as goal

pub returns : goal.returns
returns c = rw (← c.key_name.ensures) (table_get c.get.result c.key_name.result.now c.args.table.now.entries c.get.ensures.value)
