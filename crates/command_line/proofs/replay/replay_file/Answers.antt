use Rattle.std.proofs.Common.{[]}
use Rattle.command_line.proofs.ReplayParts.{after_file, not_replayed}
use Rattle.command_line.proofs.replay.replay_file.Goals as goal

pub returns-in-Ok-replay_script-clause-ok : goal.returns-in-Ok-replay_script-clause-ok
returns-in-Ok-replay_script-clause-ok g c = after_file c.args.schema c.args.path.now c.in-Ok-replay_script.system _ _ (c.in-Ok-replay_script.ensures.done c.args.schema [] c.in-Ok.ensures.empty)

pub returns-in-Ok-open-clause-err : goal.returns-in-Ok-open-clause-err
returns-in-Ok-open-clause-err g c = not_replayed c.in-Err-replay_script.fault c.replay_fault.result c.args.schema _ _ c.replay_fault.ensures (c.in-Err-replay_script.ensures.fault c.args.schema [] c.in-Ok.ensures.empty)
