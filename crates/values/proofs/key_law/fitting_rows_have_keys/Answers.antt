use Rattle.values.proofs.KeyReads.{key_back}
use Rattle.values.proofs.RowKeys.{fitting_rows_have_keys, keys_are_short}
use Rattle.values.proofs.key_law.fitting_rows_have_keys.Goals as goal

pub returns-clause-keys : goal.returns-clause-keys
returns-clause-keys c = fitting_rows_have_keys

pub returns-clause-short : goal.returns-clause-short
returns-clause-short c = keys_are_short

pub returns-clause-back : goal.returns-clause-back
returns-clause-back c = key_back
