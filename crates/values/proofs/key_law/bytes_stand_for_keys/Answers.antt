use Rattle.std.proofs.Common.{refl}
use Rattle.values.proofs.KeyOrder.{byte_order_is_key_order, bytes_tell_keys_apart, no_key_begins_another}
use Rattle.values.proofs.key_law.bytes_stand_for_keys.Goals as goal

pub returns-clause-order : goal.returns-clause-order
returns-clause-order c = byte_order_is_key_order

pub returns-clause-apart : goal.returns-clause-apart
returns-clause-apart c = bytes_tell_keys_apart

pub returns-clause-whole : goal.returns-clause-whole
returns-clause-whole c = no_key_begins_another

pub returns-clause-worked : goal.returns-clause-worked
returns-clause-worked c = record { one = refl; minus_one = refl; letter = refl; letter_and_number = refl; zero_byte = refl }
