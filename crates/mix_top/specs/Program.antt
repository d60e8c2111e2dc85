-- A script as what it asks for: how the node is set up, its acts, and how it ends.
use Rattle.std.specs.Prelude.{ℕ, ◌+◌, ◌^◌, if◌then◌else◌, List, [], ◌∷◌, ◌++◌, Option, Some, None}
use Rattle.epoch_keys.specs.Epochs.{EpochTimes}
use Rattle.lab_text.specs.Lines.{ScriptLine, Text, TooLong, lines_from}
use Rattle.lab_text.specs.NodeLines.{node_of, sizes_of}
use Rattle.lab_text.specs.Script.{Ending, Outside, Events, events_from}
use Rattle.lab_text.specs.Sizes.{geometry_of}
use Rattle.lab_text.specs.Words.{words_of}
use Rattle.lab_text.specs.WordForms.{says_nothing}
use Rattle.lab_text.specs.declared.node_lines.NodeLine.{NodeLine}
use Rattle.mix_tools.specs.Suites.{scheme_for}
use Rattle.node_core.specs.declared.setup.NodeSetup.{NodeSetup}
use Rattle.mix_top.specs.Acts.{Act, acts_of_all, first_acts}

-- a node's epochs, by its line
abbrev pub times_of : NodeLine → EpochTimes
times_of node = record { epoch = node.epoch; grace = node.grace }

-- how it is set up; a log of its journals has 2 ^ 26 records at most
abbrev pub setup_of : NodeLine → NodeSetup
setup_of node = record {
  geo = geometry_of (scheme_for node.ntru).ciphertext (sizes_of node);
  shards = node.shards;
  times = times_of node;
  seed = node.seed;
  limit = 2 ^ 26;
}

-- a whole script, by its node line
pub record Program : Type 0 where
  pub node : Option NodeLine
  pub acts : List Act
  pub ending : Ending

-- a script that ends before its node is set up
abbrev pub no_node : Ending → Program
no_node ending = record { node = None; acts = []; ending = ending }

-- a script whose node is set up, and what comes behind its line
abbrev pub set_up : NodeLine → Events → Program
set_up node events = record {
  node = Some node;
  acts = first_acts node.shards ++ acts_of_all node.shards events.list;
  ending = events.ending;
}

-- a script with this node line, of this number, and the lines behind it
abbrev pub with_node : ℕ → Option NodeLine → List ScriptLine → Program
with_node number None lines = no_node (Outside number)
with_node number (Some node) lines = set_up node (events_from node.shards (number + 1) lines)

-- the script of lines, the first of which has this number: the first line that isn't skipped is the node line
abbrev pub program_from : ℕ → List ScriptLine → Program
program_from number [] = no_node (Outside number)
program_from number (TooLong ∷ lines) = no_node (Outside number)
program_from number (Text line ∷ lines) =
    if says_nothing (words_of line) then program_from (number + 1) lines else with_node number (node_of line) lines

-- the script of these bytes
abbrev pub program_of : List ℕ → Program
program_of script = program_from 1 (lines_from 0 script)
