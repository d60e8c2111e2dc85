-- What a receiver took of the report of a run, by the status that the run ended with: all that it took whole, and more behind
-- that.
use Rattle.std.proofs.Common.{List, [], ◌++◌}
use Rattle.lab_text.specs.declared.statuses.Status.{Status}
use Rattle.lab_text.specs.declared.statuses.Status.TheVariants.{Done, Words, Line, Key, ReadFault, WriteFault, Foreign, OtherShape, Memory, NoThread, NoKey, NoLine, Disk}
use Rattle.mix_top.specs.Progress.{TakenOf}
use Rattle.mix_top.specs.Receiving.{TakesInTurn}
use Rattle.mix_top.specs.Report as report

module _ {R : Type 0} {took took_front : R → R → List report.Line → Type 0} (in_turn : TakesInTurn took took_front) where
  pub taken_whole : (status : Status) (old new : R) (said : List report.Line) → took old new said → TakenOf (took old new) (took_front old new) status said
  taken_whole WriteFault old new said whole = in_turn.whole_front old new said whole
  taken_whole Memory old new said whole = in_turn.whole_front old new said whole
  taken_whole Done old new said whole = whole
  taken_whole Words old new said whole = whole
  taken_whole (Key key) old new said whole = whole
  taken_whole NoThread old new said whole = whole
  taken_whole NoLine old new said whole = whole
  taken_whole (Disk node shard) old new said whole = whole
  taken_whole (Line number) old new said whole = whole
  taken_whole ReadFault old new said whole = whole
  taken_whole (Foreign node shard area at) old new said whole = whole
  taken_whole (OtherShape node shard stored asked) old new said whole = whole
  taken_whole (NoKey epoch) old new said whole = whole

  pub taken_behind : (status : Status) (old between new : R) (said others : List report.Line) → took old between said
      → TakenOf (took between new) (took_front between new) status others → TakenOf (took old new) (took_front old new) status (said ++ others)
  taken_behind WriteFault old between new said others first second = in_turn.front_behind old between new said others first second
  taken_behind Memory old between new said others first second = in_turn.front_behind old between new said others first second
  taken_behind Done old between new said others first second = in_turn.behind old between new said others first second
  taken_behind Words old between new said others first second = in_turn.behind old between new said others first second
  taken_behind (Key key) old between new said others first second = in_turn.behind old between new said others first second
  taken_behind NoThread old between new said others first second = in_turn.behind old between new said others first second
  taken_behind NoLine old between new said others first second = in_turn.behind old between new said others first second
  taken_behind (Disk node shard) old between new said others first second = in_turn.behind old between new said others first second
  taken_behind (Line number) old between new said others first second = in_turn.behind old between new said others first second
  taken_behind ReadFault old between new said others first second = in_turn.behind old between new said others first second
  taken_behind (Foreign node shard area at) old between new said others first second = in_turn.behind old between new said others first second
  taken_behind (OtherShape node shard stored asked) old between new said others first second = in_turn.behind old between new said others first second
  taken_behind (NoKey epoch) old between new said others first second = in_turn.behind old between new said others first second
