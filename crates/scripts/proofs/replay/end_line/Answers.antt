use Rattle.std.proofs.Common.{refl}
use Rattle.scripts.proofs.ReplayPassed.{same_passed}
use Rattle.scripts.proofs.replay.end_line.Goals as goal

pub returns-clause-ok : goal.returns-clause-ok
returns-clause-ok c = same_passed c.args.replay.now.script c.pass.new.script _ c.in-Ok.ensures.ok (record { system = refl; reading = refl })
