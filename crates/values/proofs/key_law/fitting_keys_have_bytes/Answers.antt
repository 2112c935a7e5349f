use Rattle.values.proofs.KeyLengths.{fitting_keys_are_short}
use Rattle.values.proofs.key_law.fitting_keys_have_bytes.Goals as goal

pub returns : goal.returns
returns c = fitting_keys_are_short
