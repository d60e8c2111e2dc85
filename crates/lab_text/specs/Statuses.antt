-- How a call ends: the code and the text of each status, and the statuses of faults.
use Rattle.std.specs.Prelude.{ℕ, List, [], ◌∷◌, ◌++◌, codes}
use Rattle.std.specs.Fmt.{decimal}
use Rattle.mix_base.specs.declared.shards.Shape.{Shape}
use Rattle.mix_base.specs.declared.writing.PutFault.{PutFault}
use Rattle.mix_base.specs.declared.writing.PutFault.TheVariants as puts
use Rattle.lab_text.specs.Settings.{key_name}
use Rattle.lab_text.specs.WordForms.{line_of}
use Rattle.lab_text.specs.declared.faults.LineFault.{LineFault}
use Rattle.lab_text.specs.declared.faults.LineFault.TheVariants as faults
use Rattle.lab_text.specs.declared.settings.ConfigFault.{ConfigFault}
use Rattle.lab_text.specs.declared.settings.ConfigFault.TheVariants as configs
use Rattle.lab_text.specs.declared.statuses.Status.{Status}
use Rattle.lab_text.specs.declared.statuses.Status.TheVariants.{Done, Words, Line, Key, ReadFault, WriteFault, Foreign, OtherShape, Memory, NoThread, NoKey, NoLine, Disk}

-- the exit code
abbrev pub code_of : Status → ℕ
code_of Done = 0
code_of Words = 1
code_of (Line line) = 2
code_of (Key key) = 2
code_of ReadFault = 3
code_of WriteFault = 4
code_of (Foreign node shard area at) = 5
code_of (OtherShape node shard stored asked) = 5
code_of Memory = 6
code_of NoThread = 7
code_of (NoKey epoch) = 8
code_of NoLine = 9
code_of (Disk node shard) = 10

-- which shard of how many: the number of shards, a stroke, and the index; 47 is the stroke
abbrev pub shape_word : Shape → List ℕ
shape_word shape = decimal shape.shards ++ 47 ∷ decimal shape.index

-- the text on standard error; 10 is a line feed
abbrev pub status_text : Status → List ℕ
status_text Done = []
status_text Words = codes "mix: words" ++ 10 ∷ []
status_text (Line line) = codes "mix: line " ++ decimal line ++ 10 ∷ []
status_text (Key key) = line_of (codes "mix:" ∷ codes "key" ∷ key_name key ∷ [])
status_text ReadFault = codes "mix: read fault" ++ 10 ∷ []
status_text WriteFault = codes "mix: write fault" ++ 10 ∷ []
status_text (Foreign node shard area at) = line_of (codes "mix:" ∷ codes "journal" ∷ decimal node ∷ decimal shard ∷
    codes "foreign" ∷ codes "area" ∷ decimal area ∷ codes "at" ∷ decimal at ∷ [])
status_text (OtherShape node shard stored asked) = line_of (codes "mix:" ∷ codes "journal" ∷ decimal node ∷ decimal shard ∷
    codes "stored" ∷ shape_word stored ∷ codes "asked" ∷ shape_word asked ∷ [])
status_text Memory = codes "mix: memory" ++ 10 ∷ []
status_text NoThread = codes "mix: no thread" ++ 10 ∷ []
status_text (NoKey epoch) = codes "mix: no key for epoch " ++ decimal epoch ++ 10 ∷ []
status_text NoLine = codes "mix: no line" ++ 10 ∷ []
status_text (Disk node shard) = line_of (codes "mix:" ∷ codes "disk" ∷ decimal node ∷ decimal shard ∷ [])

-- the status of a fault in reading a line
abbrev pub line_status : LineFault → Status
line_status (faults.BadLine number) = Line number
line_status faults.ReadFault = ReadFault
line_status faults.Memory = Memory

-- the status of a fault in reading settings
abbrev pub config_status : ConfigFault → Status
config_status (configs.BadConfig key) = Key key
config_status configs.Memory = Memory

-- the status of a fault in writing a line of the report
abbrev pub put_status : PutFault → Status
put_status puts.WriteFault = WriteFault
put_status puts.Memory = Memory
