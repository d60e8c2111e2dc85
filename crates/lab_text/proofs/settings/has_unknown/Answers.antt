-- `any` over the keys, as the definition goes over the members.
use Rattle.std.proofs.Common.{not, string_bytes, String, Global, sym, ◌∙◌, rules, tests}
use Rattle.std.specs.Map.{keys_of}
use Rattle.std.proofs.lemmas.Iterator.Consumers.{YieldsList-from_rest}
use Rattle.std.proofs.lemmas.Iterator.Search.{any_from_yields_List}
use Rattle.lab_text.specs.Settings.{is_setting}
use Rattle.lab_text.proofs.SettingKeys.{unknown_among}
use Rattle.lab_text.proofs.settings.has_unknown.Goals as goal

pub returns : goal.returns
returns c =
    any_from_yields_List (λ (key : String Global). not (is_setting (string_bytes key))) _ _ c.any.result c.any.ensures.ran
    (YieldsList-from_rest (keys_of c.args.table.now.entries) c.keys.ensures.rest) (λ x b q k. search (rules, tests))
    ∙ sym (unknown_among c.args.table.now.entries)
