-- Lists that are read item by item, one turn at a time.
use Rattle.std.proofs.Common.{◌≡◌, ℕ, ◌+◌, ◌-◌, ◌<◌, List, [], ◌∷◌, ◌++◌, Result, Ok, Err, Bool, true, false, refl, sym, ap, ◌∙◌, append_assoc, append-nil}
use Rattle.std.specs.Prelude.{if◌then◌else◌}
use Rattle.values.proofs.RowReadingParsed.{left}
use Rattle.rows.specs.declared.declaration.Mark.{Mark}
use Rattle.rows.specs.declared.declaration.Declaration.{Declaration}
use Rattle.tokens.specs.Token.{After, Read, ◌>>=◌}
use Rattle.rows.specs.SchemaToken.{symbol_at}
use Rattle.rows.specs.Declaration.{prepend, list_at, marks_upto, is_mark_at, mark_at, creates_upto, create_at, more_at}

pub joined-joined : {A : Type 0} (xs ys : List A) (r : Read (List A)) → prepend xs (prepend ys r) ≡ prepend (xs ++ ys) r
joined-joined xs ys (Ok x) = ap (λ l. Ok (l, x.1)) (sym (append_assoc xs ys x.0))
joined-joined xs ys (Err e) = refl

abbrev ended : {A : Type 0} → (List ℕ → Read A) → ℕ → (A × List ℕ) → After → Read (List A)
ended item n x o = elim o [ Err _ ↦ Ok (x.0 ∷ [], x.1) | Ok more ↦ prepend (x.0 ∷ []) (list_at item n more) ]

abbrev turned : {A : Type 0} → (List ℕ → Read A) → ℕ → Result (A × List ℕ) (List ℕ) → Read (List A)
turned item n r = r >>= (λ x. ended item n x (symbol_at 44 x.1))

-- a turn of n, by what the item gives
turns : {A : Type 0} (item : List ℕ → Read A) (n i : ℕ) (xs : List A) (bytes : List ℕ) (r : Result (A × List ℕ) (List ℕ))
    → i < n → item bytes ≡ r → prepend xs (list_at item (n - i) bytes) ≡ prepend xs (turned item (n - (i + 1)) r)
turns item n i xs bytes r h is =
    ap (λ k. prepend xs (list_at item k bytes)) (left n i h) ∙ ap (λ q. prepend xs (turned item (n - (i + 1)) q)) is

pub listed_err : {A : Type 0} (item : List ℕ → Read A) (n i : ℕ) (xs : List A) (bytes e : List ℕ)
    → i < n → item bytes ≡ Err e → prepend xs (list_at item (n - i) bytes) ≡ Err e
listed_err item n i xs bytes e h is = turns item n i xs bytes (Err e) h is

pub listed_last : {A : Type 0} (item : List ℕ → Read A) (n i : ℕ) (xs : List A) (x : A) (bytes after at : List ℕ)
    → i < n → item bytes ≡ Ok (x, after) → symbol_at 44 after ≡ Err at → prepend xs (list_at item (n - i) bytes) ≡ Ok (xs ++ x ∷ [], after)
listed_last item n i xs x bytes after at h is comma =
    turns item n i xs bytes (Ok (x, after)) h is ∙ ap (λ o. prepend xs (ended item (n - (i + 1)) (x, after) o)) comma

pub listed_more : {A : Type 0} (item : List ℕ → Read A) (n i : ℕ) (xs : List A) (x : A) (bytes after more : List ℕ)
    → i < n → item bytes ≡ Ok (x, after) → symbol_at 44 after ≡ Ok more
    → prepend xs (list_at item (n - i) bytes) ≡ prepend (xs ++ x ∷ []) (list_at item (n - (i + 1)) more)
listed_more item n i xs x bytes after more h is comma =
    turns item n i xs bytes (Ok (x, after)) h is ∙ ap (λ o. prepend xs (ended item (n - (i + 1)) (x, after) o)) comma
    ∙ joined-joined xs (x ∷ []) (list_at item (n - (i + 1)) more)

-- marks
abbrev marked : ℕ → List ℕ → Bool → Read (List Mark)
marked n bytes t = if t then (mark_at bytes >>= (λ x. prepend (x.0 ∷ []) (marks_upto n x.1))) else Ok ([], bytes)

mark_turn : (n i : ℕ) (xs : List Mark) (bytes : List ℕ) (t : Bool) → i < n → is_mark_at bytes ≡ t
    → prepend xs (marks_upto (n - i) bytes) ≡ prepend xs (marked (n - (i + 1)) bytes t)
mark_turn n i xs bytes t h is = ap (λ k. prepend xs (marks_upto k bytes)) (left n i h) ∙ ap (λ t. prepend xs (marked (n - (i + 1)) bytes t)) is

pub marks_end : (n i : ℕ) (xs : List Mark) (bytes : List ℕ) → i < n → is_mark_at bytes ≡ false → prepend xs (marks_upto (n - i) bytes) ≡ Ok (xs, bytes)
marks_end n i xs bytes h is = mark_turn n i xs bytes false h is ∙ ap (λ l. Ok (l, bytes)) (append-nil xs)

pub marks_err : (n i : ℕ) (xs : List Mark) (bytes e : List ℕ) → i < n → is_mark_at bytes ≡ true → mark_at bytes ≡ Err e
    → prepend xs (marks_upto (n - i) bytes) ≡ Err e
marks_err n i xs bytes e h is at =
    mark_turn n i xs bytes true h is ∙ ap (λ (r : Read Mark). prepend xs (r >>= (λ x. prepend (x.0 ∷ []) (marks_upto (n - (i + 1)) x.1)))) at

pub marks_more : (n i : ℕ) (xs : List Mark) (x : Mark) (bytes after : List ℕ) → i < n → is_mark_at bytes ≡ true → mark_at bytes ≡ Ok (x, after)
    → prepend xs (marks_upto (n - i) bytes) ≡ prepend (xs ++ x ∷ []) (marks_upto (n - (i + 1)) after)
marks_more n i xs x bytes after h is at =
    mark_turn n i xs bytes true h is ∙ ap (λ (r : Read Mark). prepend xs (r >>= (λ x. prepend (x.0 ∷ []) (marks_upto (n - (i + 1)) x.1)))) at
    ∙ joined-joined xs (x ∷ []) (marks_upto (n - (i + 1)) after)

-- statements
abbrev created : ℕ → (Declaration × List ℕ) → Read Bool → Read (List Declaration)
created n x r = r >>= (λ more. if more.0 then prepend (x.0 ∷ []) (creates_upto n more.1) else Ok (x.0 ∷ [], more.1))

create_turn : (n i : ℕ) (xs : List Declaration) (bytes : List ℕ) (r : Read Declaration) → i < n → create_at bytes ≡ r
    → prepend xs (creates_upto (n - i) bytes) ≡ prepend xs (r >>= (λ x. created (n - (i + 1)) x (more_at x.1)))
create_turn n i xs bytes r h is =
    ap (λ k. prepend xs (creates_upto k bytes)) (left n i h) ∙ ap (λ (r : Read Declaration). prepend xs (r >>= (λ x. created (n - (i + 1)) x (more_at x.1)))) is

pub creates_err : (n i : ℕ) (xs : List Declaration) (bytes e : List ℕ) → i < n → create_at bytes ≡ Err e → prepend xs (creates_upto (n - i) bytes) ≡ Err e
creates_err n i xs bytes e h is = create_turn n i xs bytes (Err e) h is

more_turn : (n i : ℕ) (xs : List Declaration) (x : Declaration) (bytes after : List ℕ) (r : Read Bool) → i < n → create_at bytes ≡ Ok (x, after) → more_at after ≡ r
    → prepend xs (creates_upto (n - i) bytes) ≡ prepend xs (created (n - (i + 1)) (x, after) r)
more_turn n i xs x bytes after r h is more =
    create_turn n i xs bytes (Ok (x, after)) h is ∙ ap (λ (r : Read Bool). prepend xs (created (n - (i + 1)) (x, after) r)) more

pub creates_more_err : (n i : ℕ) (xs : List Declaration) (x : Declaration) (bytes after e : List ℕ) → i < n → create_at bytes ≡ Ok (x, after) → more_at after ≡ Err e
    → prepend xs (creates_upto (n - i) bytes) ≡ Err e
creates_more_err n i xs x bytes after e h is more = more_turn n i xs x bytes after (Err e) h is more

pub creates_last : (n i : ℕ) (xs : List Declaration) (x : Declaration) (bytes after rest : List ℕ) → i < n → create_at bytes ≡ Ok (x, after) → more_at after ≡ Ok (false, rest)
    → prepend xs (creates_upto (n - i) bytes) ≡ Ok (xs ++ x ∷ [], rest)
creates_last n i xs x bytes after rest h is more = more_turn n i xs x bytes after (Ok (false, rest)) h is more

pub creates_more : (n i : ℕ) (xs : List Declaration) (x : Declaration) (bytes after rest : List ℕ) → i < n → create_at bytes ≡ Ok (x, after) → more_at after ≡ Ok (true, rest)
    → prepend xs (creates_upto (n - i) bytes) ≡ prepend (xs ++ x ∷ []) (creates_upto (n - (i + 1)) rest)
creates_more n i xs x bytes after rest h is more =
    more_turn n i xs x bytes after (Ok (true, rest)) h is more ∙ joined-joined xs (x ∷ []) (creates_upto (n - (i + 1)) rest)
