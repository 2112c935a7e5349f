use Rattle.std.proofs.Common.{rules}
use Rattle.serving.proofs.StepOpening.{column_refused}
use Rattle.serving.proofs.step.take_step.Goals as goal

pub returns-in-Begin : goal.returns-in-Begin
returns-in-Begin g c = let stepped = c.take_begin.ensures g.C.Readings.may_give in search rules

pub returns-in-Insert : goal.returns-in-Insert
returns-in-Insert g c = let stepped = c.take_write.ensures g.C.Readings.may_give in search rules

pub returns-in-Update : goal.returns-in-Update
returns-in-Update g c = let stepped = c.take_write-in-Update.ensures g.C.Readings.may_give in search rules

pub returns-in-Delete : goal.returns-in-Delete
returns-in-Delete g c = let stepped = c.take_write-in-Delete.ensures g.C.Readings.may_give in search rules

pub returns-in-UpdatePortion : goal.returns-in-UpdatePortion
returns-in-UpdatePortion g c = let stepped = c.take_write-in-UpdatePortion.ensures g.C.Readings.may_give in search rules

pub returns-in-DeletePortion : goal.returns-in-DeletePortion
returns-in-DeletePortion g c = let stepped = c.take_write-in-DeletePortion.ensures g.C.Readings.may_give in search rules

pub returns-in-Select : goal.returns-in-Select
returns-in-Select g c = let stepped = c.take_query.ensures g.C.Readings.may_give in search rules

pub returns-in-Rollback : goal.returns-in-Rollback
returns-in-Rollback g c = let stepped = c.take_rollback.ensures g.C.Readings.may_give in search rules

pub returns-in-AddColumn : goal.returns-in-AddColumn
returns-in-AddColumn g c = rw c.in-AddColumn.is (rw c.reply.ensures (column_refused g.C.Readings.may_give c.args.session.now _ _ _ _))

pub returns-in-SplitKey : goal.returns-in-SplitKey
returns-in-SplitKey g c = let stepped = c.take_key_split.ensures g.C.Readings.may_give in search rules

pub returns-in-SplitTime : goal.returns-in-SplitTime
returns-in-SplitTime g c = let stepped = c.take_time_split.ensures g.C.Readings.may_give in search rules

pub returns-in-Migrate : goal.returns-in-Migrate
returns-in-Migrate g c = let stepped = c.take_migrate.ensures g.C.Readings.may_give in search rules
