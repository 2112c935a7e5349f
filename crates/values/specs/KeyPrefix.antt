-- The first bytes of a key as numbers.
use Rattle.std.specs.Prelude.{◌≡◌, ℕ, ◌<◌, List, slice_index, drop}
use Rattle.std.specs.Int.{w64, from_be_bytes}
use Rattle.values.specs.declared.key_prefix.KeyPrefix.{KeyPrefix}

-- eight bytes and the eight behind them, each as one number, with 0 for a byte that is missing
unfoldable pub prefix_of : List ℕ → KeyPrefix
prefix_of bytes = record { first = from_be_bytes w64 bytes; second = from_be_bytes w64 (drop 8 bytes) }

-- the prefix of these numbers, which are bytes
pub record IsPrefixOf (prefix : KeyPrefix) (bytes : List ℕ) : Type 0 where
  pub are_bytes : (i : ℕ) → slice_index bytes i < 256
  pub is : prefix ≡ prefix_of bytes
