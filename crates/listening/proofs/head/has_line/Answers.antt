use Rattle.std.proofs.Common.{◌∙◌}
use Rattle.listening.proofs.HeadShown.{lined}
use Rattle.listening.proofs.head.has_line.Goals as goal
