-- The head of a block: what it states, and behind that the body's ranges and the number of its events.
use Rattle.std.specs.Prelude.{ℕ, ◌≤◌, List, Option, Some, length, IfSome}
use Rattle.std.specs.Option.{option_copied}
use Rattle.values.specs.RowReading.{Parsed}
use Rattle.values.specs.KeyEncoding.{longest_key}
use Rattle.keyrange.specs.Rect.{Area}
use Rattle.blocks.specs.declared.head.Body.{Body}
use Rattle.blocks.specs.declared.head.Head.{Head}
use Rattle.blocks.specs.Field.{taken_then, byte_from}
use Rattle.blocks.specs.Rect.{keys_from, time_from}
use Rattle.blocks.specs.Start.{start_from}

-- the ranges and the number of events of a body, which is alike in both forms, and the bytes from the first event on
unfoldable pub body_from : List ℕ → Parsed (Area × ℕ)
body_from bytes =
    taken_then (keys_from bytes)
    (λ keys rest.
    taken_then (time_from rest)
    (λ time left.
    taken_then (byte_from left)
    (λ count events. Some ((record { keys = keys; time = time }, count), events))))

-- what a block states, and the same of its body
unfoldable pub head_from : List ℕ → Parsed (Option ℕ × (Area × ℕ))
head_from bytes =
    taken_then (start_from bytes)
    (λ stated rest.
    taken_then (body_from rest) (λ body events. Some ((stated, body), events)))

-- the ranges of a body that was read, which need not be a rectangle's, and its number of events
abbrev pub area_of : Body → Area
area_of body = record {
  keys = record { lo = body.lo.now; hi = option_copied body.hi };
  time = body.time;
}

abbrev pub body_of : Body → Area × ℕ
body_of body = (area_of body, body.count)

abbrev pub head_of : Head → Option ℕ × (Area × ℕ)
head_of head = (head.stated, body_of head.body)

-- no key of it has over 1,609 bytes
pub record IsShortBody (body : Body) : Type 0 where
  pub lower : length body.lo.now ≤ longest_key
  pub upper : IfSome body.hi (λ key. length key.now ≤ longest_key)
