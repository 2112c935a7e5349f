-- Texts that begin as a request of HTTP or a handshake of TLS does, or that have no line.
use Rattle.std.specs.Prelude.{ℕ, List, [], ◌∷◌, Bool, false, true, ◌==◌, ◌||◌, codes}
use Rattle.std.specs.List.{starts_with}

-- the bytes begin with a word
abbrev pub begins : List ℕ → List ℕ → Bool
begins bytes word = starts_with (λ x y. x == y) bytes word

-- a method and a blank; where the method is the first word of a statement too, the `/` of a path as well
abbrev pub is_request : List ℕ → Bool
is_request bytes =
    begins bytes (codes "GET ") || begins bytes (codes "HEAD ")
    || begins bytes (codes "POST ") || begins bytes (codes "PUT ")
    || begins bytes (codes "OPTIONS ") || begins bytes (codes "CONNECT ")
    || begins bytes (codes "TRACE ") || begins bytes (codes "PATCH ")
    || begins bytes (codes "DELETE /")

-- the first byte of a record of TLS that begins a handshake
abbrev pub is_handshake : List ℕ → Bool
is_handshake bytes = begins bytes (22 ∷ [])

abbrev pub is_foreign : List ℕ → Bool
is_foreign bytes = is_handshake bytes || is_request bytes

-- the bytes are the first ones of a word, or all of it
abbrev pub begin : List ℕ → List ℕ → Bool
begin bytes word = begins word bytes

-- with more bytes behind them they may begin so
abbrev pub may_become : List ℕ → Bool
may_become bytes =
    begin bytes (22 ∷ [])
    || begin bytes (codes "GET ") || begin bytes (codes "HEAD ")
    || begin bytes (codes "POST ") || begin bytes (codes "PUT ")
    || begin bytes (codes "OPTIONS ") || begin bytes (codes "CONNECT ")
    || begin bytes (codes "TRACE ") || begin bytes (codes "PATCH ")
    || begin bytes (codes "DELETE /")

-- the first line may be ended by the end of the text
abbrev pub has_line : List ℕ → Bool
has_line [] = false
has_line (c ∷ bytes) = true
