-- Lists as productions.
use Rattle.std.proofs.Common.{◌≡◌, ◌≤◌, ◌<◌, ◌⊎◌, ℕ, List, [], ◌∷◌, ◌++◌, inl, inr, length, Ok, Err, refl, sym, ap, ◌∙◌, arith, subst}
use Rattle.std.proofs.lemmas.List.{append-nil, append_assoc, length-append}
use Rattle.tokens.specs.Token.{After, Read, ◌>>=◌}
use Rattle.tokens.specs.Token.{symbol_at as symbol_after}
use Rattle.statement.specs.List.{more_at, list_at, enclosed_at}
use Rattle.statement.specs.Token.{symbol_at}
use Rattle.statement.specs.Grammar.{Piece, ◌⋯◌, Empty, Symbol, Listed, Enclosed}
use Rattle.tokens.proofs.WordCases.{Refused}
use Rattle.tokens.proofs.TokenFollows.{Moves}
use Rattle.tokens.proofs.TokenGoing.{Reads, ReadsAfter, Then, Next, reads_then, reads_read, reads_weaker, reads_either, nothing}
use Rattle.tokens.proofs.PlaceSame.{Texts, Near, IsPast, Within, WithinAfter, wider, within_then, Same, past, same_then, Good, good_ok, good_then}
use Rattle.tokens.proofs.TokenSame.{GoodToken, same_by}
use Rattle.tokens.proofs.TokenProduction.{Begins, Token, Production, Any, ok_then, no_longer, token_takes, token_less, begins_then, last}
use Rattle.tokens.proofs.TokenProductionParts.{skip, field, finish, alone}
use Rattle.statement.proofs.GrammarMoves.{list_moves}
use Rattle.statement.proofs.TokenWhole.{next_symbol, symbol_refused}
use Rattle.statement.proofs.TokenProduction.{texts_of, gaps, symbol}

module _ {A : Type 0} (S : Piece) (P : A → Piece) where
  -- items after a first one, each behind a separator
  abbrev pub More : List A → Piece
  More [] = Empty
  More (x ∷ xs) = S ⋯ P x ⋯ More xs

  pub joined : (x : A) (xs : List A) (bytes between rest : List ℕ) → P x bytes between → More xs between rest → Listed S P (x ∷ xs) bytes rest
  joined x [] bytes between rest first more = subst (λ (l : List ℕ). P x bytes l) more first
  joined x (y ∷ xs) bytes between rest first more =
      (between, (first, (more.0, (more.1.0, joined y xs more.0 more.1.1.0 rest more.1.1.1.0 more.1.1.1.1))))

-- ---- one turn of the loop

module _ {A : Type 0} (separator : List ℕ → After) (item : List ℕ → Read A) where
  abbrev on_item : List ℕ → List A → Read A → Read (List A)
  on_item turns front r = elim r [ Err at ↦ Err at | Ok x ↦ more_at separator item turns (front ++ x.0 ∷ []) x.1 ]

  abbrev on_separator : List ℕ → List A → List ℕ → After → Read (List A)
  on_separator turns front bytes s = elim s [ Err at ↦ Ok (front, bytes) | Ok rest ↦ on_item turns front (item rest) ]

-- ---- reading stops in a list, and the bytes before can go on to one

module _ {A : Type 0} (S : Piece) (P : A → Piece) (separator : List ℕ → After) (item : List ℕ → Read A)
    (separator_moves : Moves S) (item_moves : (x : A) → Moves (P x))
    (separator_reads : (bytes : List ℕ) → ReadsAfter S bytes (separator bytes)) (item_reads : (bytes : List ℕ) → Reads P bytes (item bytes)) where
  -- items behind those in front
  record Tail (front all : List A) (bytes rest : List ℕ) : Type 0 where
    more : List A
    is : all ≡ front ++ more
    are : More S P more bytes rest

  no_more : (front : List A) (bytes : List ℕ) → Tail front front bytes bytes
  no_more front bytes = record { more = []; is = sym (append-nil front); are = refl }

  one_more : (front all : List A) (bytes rest : List ℕ) → Next S (Then P (λ x. Tail (front ++ x ∷ []))) all bytes rest → Tail front all bytes rest
  one_more front all bytes rest n =
      let t = n.second in
      record {
        more = t.value ∷ (t.second).more;
        is = (t.second).is ∙ append_assoc front (t.value ∷ []) (t.second).more;
        are = (n.between, (n.first, (t.between, (t.first, (t.second).are))));
      }

  more_reads : (turns : List ℕ) (front : List A) (bytes : List ℕ) → Reads (Tail front) bytes (more_at separator item turns front bytes)
  more_reads [] front bytes = record { it = no_more front bytes }
  more_reads (_ ∷ turns) front bytes =
      reads_either (separator bytes) _ _ separator_moves (separator_reads bytes) (λ all b rest n. one_more front all b rest n)
      (λ m. reads_read (item m) (λ x. more_at separator item turns (front ++ x.0 ∷ []) x.1) item_moves (λ x. nothing (front ++ x ∷ []) (no_more (front ++ x ∷ [])))
      (item_reads m) (λ x after. more_reads turns (front ++ x ∷ []) after))
      (λ at c. record { it = no_more front bytes })

  pub list_reads : (bytes : List ℕ) → Reads (Listed S P) bytes (list_at separator item bytes)
  list_reads bytes =
      reads_weaker _ (reads_then (item bytes) (λ first. more_at separator item first.1 (first.0 ∷ []) first.1) item_moves (λ x. nothing (x ∷ []) (no_more (x ∷ [])))
      (item_reads bytes) (λ x m. more_reads m (x ∷ []) m))
      (λ all b rest t. subst (λ (l : List A). Listed S P l b rest) (sym (t.second).is) (joined S P t.value (t.second).more b t.between rest t.first (t.second).are))

-- ---- a list of the grammar is read

module _ {A : Type 0} (S : Piece) (P : A → Piece) where
  unjoined : (x : A) (xs : List A) (bytes rest : List ℕ) → Listed S P (x ∷ xs) bytes rest → (between : List ℕ) × (P x bytes between × More S P xs between rest)
  unjoined x [] bytes rest is = (rest, (is, refl))
  unjoined x (y ∷ xs) bytes rest is =
      let more = unjoined y xs is.1.1.0 rest is.1.1.1.1 in
      (is.0, (is.1.0, (is.1.1.0, (is.1.1.1.0, (more.0, more.1)))))

  module _ (separator : List ℕ → After) (item : List ℕ → Read A)
      (separator_whole : (bytes rest : List ℕ) → S bytes rest → separator bytes ≡ Ok rest)
      (item_whole : (x : A) (bytes rest : List ℕ) → P x bytes rest → item bytes ≡ Ok (x, rest))
      (separator_takes : (bytes rest : List ℕ) → S bytes rest → length rest < length bytes) (item_moves : (x : A) → Moves (P x)) where
    long : (xs : List A) (bytes rest : List ℕ) → More S P xs bytes rest → length xs ≤ length bytes
    long [] bytes rest is = omega arith
    long (x ∷ xs) bytes rest is =
        let h = long xs is.1.1.0 rest is.1.1.1.1 in
        omega (arith, separator_takes bytes is.0 is.1.0, no_longer (item_moves x) is.0 is.1.1.0 is.1.1.1.0, h)

    more_whole : (xs : List A) (turns : List ℕ) (front : List A) (bytes rest : List ℕ) → length xs ≤ length turns → More S P xs bytes rest → Refused (separator rest)
        → more_at separator item turns front bytes ≡ Ok (front ++ xs, rest)
    more_whole [] [] front bytes rest enough is none = ap (λ (l : List ℕ). Ok (front, l)) is ∙ ap (λ (l : List A). Ok (l, rest)) (sym (append-nil front))
    more_whole [] (t ∷ turns) front bytes rest enough is none =
        ap (on_separator separator item turns front bytes) (ap separator is ∙ none.is) ∙ ap (λ (l : List ℕ). Ok (front, l)) is ∙ ap (λ (l : List A). Ok (l, rest)) (sym (append-nil front))
    more_whole (x ∷ xs) [] front bytes rest enough is none = absurd (omega arith)
    more_whole (x ∷ xs) (t ∷ turns) front bytes rest enough is none =
        ap (on_separator separator item turns front bytes) (separator_whole bytes is.0 is.1.0)
        ∙ ap (on_item separator item turns front) (item_whole x is.0 is.1.1.0 is.1.1.1.0)
        ∙ more_whole xs turns (front ++ x ∷ []) is.1.1.0 rest (omega arith) is.1.1.1.1 none
        ∙ ap (λ (l : List A). Ok (l, rest)) (append_assoc front (x ∷ []) xs)

    pub list_whole : (xs : List A) (bytes rest : List ℕ) → Listed S P xs bytes rest → Refused (separator rest) → list_at separator item bytes ≡ Ok (xs, rest)
    list_whole [] bytes rest is none = absurd is
    list_whole (x ∷ xs) bytes rest is none =
        let parts = unjoined x xs bytes rest is in
        ok_then _ _ (item_whole x bytes parts.0 parts.1.0)
        (more_whole xs parts.0 (x ∷ []) parts.0 rest (long xs parts.0 rest parts.1.1) parts.1.1 none)

-- ---- where reading stops a token begins

begins_more : {A : Type 0} (separator : List ℕ → After) (item : List ℕ → Read A) → ((bytes : List ℕ) → Begins gaps (item bytes)) → (turns : List ℕ) (front : List A) (bytes : List ℕ)
    → Begins gaps (more_at separator item turns front bytes)
begins_more separator item b [] front bytes = record { it = tt }
begins_more {A} separator item b (_ ∷ turns) front bytes = by_separator (separator bytes) (begins_more separator item b turns)
  where
    by_item : (r : Read A) → Begins gaps r → ((front : List A) (bytes : List ℕ) → Begins gaps (more_at separator item turns front bytes)) → Begins gaps (on_item separator item turns front r)
    by_item (Ok x) one others = others (front ++ x.0 ∷ []) x.1
    by_item (Err at) one others = record { it = one.it }

    by_separator : (r : After) → ((front : List A) (bytes : List ℕ) → Begins gaps (more_at separator item turns front bytes))
        → Begins gaps (on_separator separator item turns front bytes r)
    by_separator (Err at) others = record { it = tt }
    by_separator (Ok m) others = by_item (item m) (b m) others

-- ---- lists: the turns are enough, since each separator takes a byte or more

module _ {A : Type 0} (w : Texts) (separator : List ℕ → After) (item : List ℕ → Read A) (k : GoodToken w separator) (h : Good w item)
    (some : (bytes rest : List ℕ) → separator bytes ≡ Ok rest → length rest < length bytes) where
  as_then : (turns : List ℕ) (front : List A) (r : Read A) → on_item separator item turns front r ≡ (r >>= λ x. more_at separator item turns (front ++ x.0 ∷ []) x.1)
  as_then turns front (Ok x) = refl
  as_then turns front (Err at) = refl

  fewer : {bytes : List ℕ} (x : A) (m : List ℕ) (r : Read A) → Within w bytes r → r ≡ Ok (x, m) → length m ≤ length bytes
  fewer {bytes} x m r i e = let Q : Read A → Type 0 = λ r. Within w bytes r in (subst Q e i).it.fewer

  more_inside : (turns : List ℕ) (front : List A) (bytes : List ℕ) → Within w bytes (more_at separator item turns front bytes)
  more_inside [] front bytes = (good_ok w front).within bytes
  more_inside (_ ∷ turns) front bytes = by_separator (separator bytes) (k.leaves bytes) (more_inside turns)
    where
      by_separator : (r : After) → WithinAfter w bytes r → ((front : List A) (bytes : List ℕ) → Within w bytes (more_at separator item turns front bytes)) → Within w bytes (on_separator separator item turns front bytes r)
      by_separator (Err at) l others = (good_ok w front).within bytes
      by_separator (Ok m) l others = wider w _ l.it (subst (Within w m) (sym (as_then turns front (item m))) (within_then w (item m) _ (h.within m) (λ x n e. others (front ++ x ∷ []) n)))

  more_same : (turns others : List ℕ) (front : List A) (a c : List ℕ) → Near w a c → length a ≤ length turns → length c ≤ length others
      → Same w (more_at separator item turns front a) (more_at separator item others front c)
  more_same [] others front a c r e i = absurd (omega (arith, e, ap length r.left, length-append r.front (w.first ∷ w.rest)))
  more_same (_ ∷ turns) [] front a c r e i = absurd (omega (arith, i, ap length r.right, length-append r.front (w.first ∷ w.other)))
  more_same (z ∷ turns) (_ ∷ others) front a c r e i =
      same_by w separator k a c r (on_separator separator item turns front a) (on_separator separator item others front c) (more_inside (z ∷ turns) front a) (λ m n e d f. by_place m n e (some a m d) (some c n f) (more_same turns others)) (λ _ _. (good_ok w front).same a c r)
    where
      by_place : (m n : List ℕ) → Near w m n ⊎ IsPast w m → length m < length a → length n < length c
          → ((front : List A) (p q : List ℕ) → Near w p q → length p ≤ length turns → length q ≤ length others → Same w (more_at separator item turns front p) (more_at separator item others front q))
          → Same w (on_item separator item turns front (item m)) (on_item separator item others front (item n))
      by_place m n s below under go =
          subst (λ x. Same w x (on_item separator item others front (item n))) (sym (as_then turns front (item m))) (subst (λ x. Same w (item m >>= λ x. more_at separator item turns (front ++ x.0 ∷ []) x.1) x) (sym (as_then others front (item n))) (joined s))
        where
          joined : Near w m n ⊎ IsPast w m → Same w (item m >>= λ x. more_at separator item turns (front ++ x.0 ∷ []) x.1) (item n >>= λ x. more_at separator item others (front ++ x.0 ∷ []) x.1)
          joined (inl near) = same_then w (item m) (item n) _ _ (h.same m n near) (λ x p d. more_inside turns (front ++ x ∷ []) p)
              (λ x p q here d f. go (front ++ x ∷ []) p q here (omega (arith, e, below, fewer x p (item m) (h.within m) d)) (omega (arith, i, under, fewer x q (item n) (h.within n) f)))
          joined (inr less) = past w _ _ less (within_then w (item m) _ (h.within m) (λ x p d. more_inside turns (front ++ x ∷ []) p))

  pub good_list : Good w (list_at separator item)
  good_list = good_then w item (λ x rest. more_at separator item rest (x ∷ []) rest) h (λ x. record {
    within = λ rest. more_inside rest (x ∷ []) rest;
    same = λ a c r. more_same a c (x ∷ []) a c r (omega arith) (omega arith);
  })

-- ---- the productions

pub list : {A : Type 0} {S : Piece} {P : A → Piece} {R : List ℕ → After} {I : List ℕ → Read A}
    → Token gaps S R → Refused (R []) → Production gaps P Any I → Production gaps (Listed S P) (λ rest. Refused (R rest)) (list_at R I)
list {A} {S} {P} {R} {I} t none p = record {
  moves = list_moves t.moves p.moves;
  reads = list_reads S P R I t.moves p.moves t.reads p.reads;
  begins = λ bytes. begins_then (I bytes) _ (p.begins bytes) (λ x. begins_more R I p.begins x.1 (x.0 ∷ []) x.1);
  whole = list_whole S P R I t.whole (λ x bytes rest is. p.whole x bytes rest is tt) (token_takes t none) p.moves;
  same = λ s. good_list (texts_of s) R I (t.same s) (p.same s) (token_less t none);
}

no_bytes : Refused (symbol_at 44 [])
unfolding symbol_after
no_bytes = record { at = []; is = refl }

no_comma : (bytes rest : List ℕ) → Symbol 41 bytes rest → Refused (symbol_at 44 bytes)
no_comma bytes rest is = symbol_refused 44 41 rest bytes (next_symbol 41 refl bytes rest is) refl

pub commas : {A : Type 0} {P : A → Piece} {I : List ℕ → Read A} → Production gaps P Any I → Production gaps (Listed (Symbol 44) P) (λ rest. Refused (symbol_at 44 rest)) (list_at (symbol_at 44) I)
commas p = list (symbol 44 refl) no_bytes p

pub enclosed : {A : Type 0} {P : A → Piece} {I : List ℕ → Read A} → Production gaps P Any I → Production gaps (Enclosed P) Any (enclosed_at (symbol_at 44) I)
enclosed p = alone (skip (symbol 40 refl) (field (λ xs. xs) (commas p) (λ xs bytes rest is f. no_comma bytes rest is) (λ xs. finish xs (tt, refl) (λ z k. k.1) (last xs (symbol 41 refl)))))
