-- A run: acts one after the other, with the report of all of them; and how a status says that it ended.
use Rattle.std.specs.Prelude.{◌≡◌, ◌⊎◌, List, [], ◌∷◌, ◌++◌}
use Rattle.mix_base.specs.Suites.{SuiteMeaning}
use Rattle.lab_text.specs.Script.{Ending, AtEnd, Outside}
use Rattle.lab_text.specs.declared.statuses.Status.{Status}
use Rattle.lab_text.specs.declared.statuses.Status.TheVariants.{Done, Line, ReadFault, WriteFault, Foreign, OtherShape, Memory, NoKey}
use Rattle.node_core.specs.Nodes.{NodeState}
use Rattle.mix_top.specs.Acts.{Act}
use Rattle.mix_top.specs.Report as report
use Rattle.mix_top.specs.Steps.{Does, Ends}

-- the acts take the node from old to new, and give this report
abbrev pub Runs : Type 0 → SuiteMeaning → NodeState → List Act → List report.Line → NodeState → Type 0
Runs tells suite old [] said new = (said ≡ []) × (new ≡ old)
Runs tells suite old (act ∷ acts) said new =
    (between : NodeState) × (lines : List report.Line) × (others : List report.Line) × Does tells suite act lines old between
    × Runs tells suite between acts others new × (said ≡ lines ++ others)

-- the first of the acts that weren't done ended the run so
abbrev pub EndsNext : Type 0 → SuiteMeaning → Status → List Act → NodeState → NodeState → Type 0
EndsNext tells suite status [] state end = ⊥
EndsNext tells suite status (act ∷ others) state end = Ends tells suite act status state end

-- What a status says of a script that ends so, where `rest` are the acts that weren't done, the others led to `state`, and
-- the run came to `end`. After Done and Line all that stands before the end or that line was done. After a fault of the
-- source or the sink the run stands where the acts led; want of memory may also end it within the next act, and a journal
-- or a key always does.
abbrev pub Owes : Type 0 → SuiteMeaning → Ending → Status → List Act → NodeState → NodeState → Type 0
Owes tells suite ending Done rest state end = (ending ≡ AtEnd) × (rest ≡ []) × (end ≡ state)
Owes tells suite ending (Line number) rest state end = (ending ≡ Outside number) × (rest ≡ []) × (end ≡ state)
Owes tells suite ending ReadFault rest state end = end ≡ state
Owes tells suite ending WriteFault rest state end = end ≡ state
Owes tells suite ending Memory rest state end = (end ≡ state) ⊎ EndsNext tells suite Memory rest state end
Owes tells suite ending (Foreign node shard area at) rest state end = EndsNext tells suite (Foreign node shard area at) rest state end
Owes tells suite ending (OtherShape node shard stored asked) rest state end = EndsNext tells suite (OtherShape node shard stored asked) rest state end
Owes tells suite ending (NoKey epoch) rest state end = EndsNext tells suite (NoKey epoch) rest state end
Owes tells suite ending _ rest state end = ⊥
