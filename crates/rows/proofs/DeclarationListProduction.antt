-- Marks and lists as productions: one item after another.
use Rattle.std.proofs.Common.{◌≡◌, ◌⊎◌, ◌<◌, ℕ, Bool, true, false, List, [], ◌∷◌, inl, inr, Ok, Err, length, refl, ap, sym, ◌∙◌, subst, arith, if◌then◌else◌}
use Rattle.tokens.specs.Token.{After, Read, ◌>>=◌}
use Rattle.tokens.specs.Token.{symbol_at as symbol_after}
use Rattle.tokens.proofs.WordCases.{Refused}
use Rattle.tokens.proofs.TokenFollows.{Moves}
use Rattle.tokens.proofs.TokenGoing.{Usual, Reads, Then, Next, By, usual_weaker, usual_by, reads_then, reads_weaker, reads_either, nothing}
use Rattle.tokens.proofs.PlaceSame.{Near, Within, within_then, Same, same_place, same_then, same_test, Tells, good_ok}
use Rattle.tokens.proofs.TokenSame.{same_by, within_either}
use Rattle.tokens.proofs.TokenProduction.{Begins, Token, Production, Any, ok_then, if_both, both_move, usual, begins_where, begins_either, no_longer, leaves, takes, takes_read, token_takes, token_less}
use Rattle.tokens.proofs.TokenProductionTurns.{Turn, by_turns}
use Rattle.rows.specs.declared.declaration.Mark.{Mark}
use Rattle.rows.specs.SchemaToken.{symbol_at}
use Rattle.rows.specs.Declaration.{prepend, list_at, mark_at, is_mark_at, marks_upto, marks_at}
use Rattle.rows.specs.SchemaGrammar.{Says, Symbol, Listed, Many, MarkWords}
use Rattle.rows.proofs.SchemaRead.{symbol_read}
use Rattle.rows.proofs.SchemaTokenProduction.{Parting, texts_of, gaps, symbol_token}

-- ---- an item before others

pub reads_prepend : {A : Type 0} {R : Says (List A)} {bytes : List ℕ} (x : A) (r : Read (List A)) → Reads R bytes r → Reads (By (λ xs. x ∷ xs) R) bytes (prepend (x ∷ []) r)
reads_prepend x (Ok (ys, rest)) s = record { it = (ys, (refl, s.it)) }
reads_prepend x (Err at) s = let c = s.it in record { it = record { front = c.front; place = c.place; more = c.more; value = x ∷ c.value; clean = c.clean; goes = λ tail clean. (c.value, (refl, c.goes tail clean)) } }

pub goes_here : {A : Type 0} {R : Says A} (bytes : List ℕ) → Usual R → Reads R bytes (Err bytes)
goes_here bytes u = record { it = record { front = []; place = refl; more = u.text; value = u.value; clean = u.clean; goes = u.holds } }

pub begins_prepend : {A : Type 0} (x : A) (r : Read (List A)) → Begins gaps r → Begins gaps (prepend (x ∷ []) r)
begins_prepend x (Ok y) b = record { it = tt }
begins_prepend x (Err at) b = record { it = b.it }

module _ (s : Parting) where
  pub prepended : {A : Type 0} {bytes : List ℕ} (x : A) (r : Read (List A)) → Within (texts_of s) bytes r → Within (texts_of s) bytes (prepend (x ∷ []) r)
  prepended x (Ok y) i = record { it = i.it }
  prepended x (Err at) i = record { it = i.it }

  pub prepends : {A : Type 0} (x : A) (r u : Read (List A)) → Same (texts_of s) r u → Same (texts_of s) (prepend (x ∷ []) r) (prepend (x ∷ []) u)
  prepends x (Ok y) (Ok z) i = record { it = elim i.it [ inl e ↦ inl (ap (λ l. x ∷ l) e.0, e.1) | inr less ↦ inr less ] }
  prepends x (Ok y) (Err c) i = record { it = i.it }
  prepends x (Err a) (Ok z) i = record { it = i.it }
  prepends x (Err a) (Err c) i = record { it = tt }

-- which way a test goes
pub when : {A : Type 0} (t : Bool) (p q r : A) → t ≡ true → p ≡ r → (if t then p else q) ≡ r
when t p q r e go = ap (λ t. if t then p else q) e ∙ go

pub unless : {A : Type 0} (t : Bool) (p q r : A) → t ≡ false → q ≡ r → (if t then p else q) ≡ r
unless t p q r e go = ap (λ t. if t then p else q) e ∙ go

-- ---- marks, as many as come

module _ (mark : Production gaps MarkWords Any mark_at) (first : (m : Mark) (bytes rest : List ℕ) → MarkWords m bytes rest → is_mark_at bytes ≡ true) (no_mark : Refused (mark_at [])) (tells : (s : Parting) → Tells (texts_of s) is_mark_at) where
  many_moves : (xs : List Mark) → Moves (Many MarkWords xs)
  many_moves [] = λ bytes rest is. record { taken = []; place = is; stays = λ other follows. refl }
  many_moves (x ∷ xs) = both_move (λ bytes m rest one others. (m, (one, others))) (λ bytes rest is. is) (mark.moves x) (many_moves xs)

  many_of : (xs : List Mark) (bytes rest : List ℕ) → Then MarkWords (λ x. By (λ ys. x ∷ ys) (Many MarkWords)) xs bytes rest → Many MarkWords xs bytes rest
  many_of xs bytes rest t = let b = t.second in subst (λ (l : List Mark). Many MarkWords l bytes rest) (sym b.1.0) (t.between, (t.first, b.1.1))

  abbrev marks_by : (List ℕ → Read (List Mark)) → List ℕ → Read (List Mark)
  marks_by o bytes = if is_mark_at bytes then (mark_at bytes >>= (λ x. prepend (x.0 ∷ []) (o x.1))) else Ok ([], bytes)

  marks_turn : Turn gaps (Many MarkWords) (λ rest. is_mark_at rest ≡ false) marks_by
  marks_turn = record {
    moves = many_moves;
    reads = λ o bytes others.
        if_both (Reads (Many MarkWords) bytes) (is_mark_at bytes)
        (reads_weaker _ (reads_then (mark_at bytes) _ mark.moves (λ x. usual_by (λ ys. x ∷ ys) (nothing [] (λ tail. refl))) (mark.reads bytes) (λ x m. reads_prepend x (o m) (others m))) many_of) (record { it = refl });
    begins = λ o bytes others.
        if_both (Begins gaps) (is_mark_at bytes) (begins_where (mark_at bytes) _ (mark.begins bytes) (λ x e. begins_prepend x.0 (o x.1) (others x.1 (less x.0 bytes x.1 e)))) (record { it = tt });
    whole = whole;
    within = within;
    same = λ s o u a c near inside others.
        same_test (texts_of s) is_mark_at (tells s) a c near _ _ _ _ (within s o a inside)
        (same_then (texts_of s) (mark_at a) (mark_at c) _ _ ((mark.same s).same a c near) (λ x m e. prepended s x (o m) (inside m (less x a m e))) (λ x l m here d e. prepends s x (o l) (u m) (others l m here (less x a l d) (less x c m e))))
        ((good_ok (texts_of s) []).same a c near);
  }
    where
      less : (m : Mark) (bytes rest : List ℕ) → mark_at bytes ≡ Ok (m, rest) → length rest < length bytes
      less = takes_read mark tt no_mark

      whole : (o : List ℕ → Read (List Mark)) (ms : List Mark) (bytes rest : List ℕ) → ((ys : List Mark) (m : List ℕ) → length m < length bytes → Many MarkWords ys m rest → o m ≡ Ok (ys, rest)) → Many MarkWords ms bytes rest → is_mark_at rest ≡ false
          → marks_by o bytes ≡ Ok (ms, rest)
      whole o [] bytes rest others is done = unless (is_mark_at bytes) _ _ _ (ap is_mark_at is ∙ done) (λ k. Ok ([], is k))
      whole o (m ∷ ms) bytes rest others (more, (one, is)) done =
          when (is_mark_at bytes) _ _ _ (first m bytes more one) (ok_then (mark_at bytes) _ (mark.whole m bytes more one tt) (ap (prepend (m ∷ [])) (others ms more (takes mark tt no_mark m bytes more one) is)))

      within : (s : Parting) (o : List ℕ → Read (List Mark)) (bytes : List ℕ) → ((m : List ℕ) → length m < length bytes → Within (texts_of s) m (o m)) → Within (texts_of s) bytes (marks_by o bytes)
      within s o bytes others =
          if_both (Within (texts_of s) bytes) (is_mark_at bytes) (within_then (texts_of s) (mark_at bytes) _ ((mark.same s).within bytes) (λ x m e. prepended s x (o m) (others m (less x bytes m e)))) ((good_ok (texts_of s) []).within bytes)

  no_mark_begins : is_mark_at [] ≡ false → marks_upto 0 [] ≡ marks_by (marks_upto 0) []
  no_mark_begins none = sym (unless (is_mark_at []) _ _ _ none refl)

  pub many : is_mark_at [] ≡ false → Production gaps (Many MarkWords) (λ rest. is_mark_at rest ≡ false) marks_at
  unfolding marks_at
  many none = by_turns marks_turn marks_upto (λ bytes. record { it = refl }) (no_mark_begins none) (λ n bytes. refl)

-- ---- lists, with commas between the items

comma : Token gaps (Symbol 44 tt) (symbol_at 44)
comma = symbol_token 44 refl

no_comma : Refused (symbol_at 44 [])
unfolding symbol_after
no_comma = record { at = []; is = refl }

comma_takes : (bytes rest : List ℕ) → Symbol 44 tt bytes rest → length rest < length bytes
comma_takes = token_takes comma no_comma

comma_less : (bytes rest : List ℕ) → symbol_at 44 bytes ≡ Ok rest → length rest < length bytes
comma_less = token_less comma no_comma

module _ {A : Type 0} {R : Says A} {C : List ℕ → Type 0} {item : List ℕ → Read A} (p : Production gaps R C item) (comma_ends : (bytes rest : List ℕ) → Symbol 44 tt bytes rest → C bytes) where
  abbrev on_comma : A → (List ℕ → Read (List A)) → List ℕ → After → Read (List A)
  on_comma x o bytes r = elim r [ Err _ ↦ Ok (x ∷ [], bytes) | Ok more ↦ prepend (x ∷ []) (o more) ]

  abbrev list_by : (List ℕ → Read (List A)) → List ℕ → Read (List A)
  list_by o bytes = item bytes >>= λ x. on_comma x.0 o x.1 (symbol_at 44 x.1)

  listed_moves : (xs : List A) → Moves (Listed R xs)
  listed_moves [] = λ bytes rest is. absurd is
  listed_moves (x ∷ []) = p.moves x
  listed_moves (x ∷ y ∷ ys) =
      both_move {P = R x} {Q = λ bytes rest. (m : List ℕ) × (Symbol 44 tt bytes m × Listed R (y ∷ ys) m rest)} (λ bytes m rest one others. (m, (others.0, (one, others.1)))) (λ bytes rest is. (is.0, (is.1.1.0, (is.1.0, is.1.1.1))))
      (p.moves x) (both_move (λ bytes m rest one others. (m, (one, others))) (λ bytes rest is. is) comma.moves (listed_moves (y ∷ ys)))

  -- after an item: nothing, or a comma and the others
  abbrev Others : A → List A → List ℕ → List ℕ → Type 0
  Others x xs bytes rest = ((xs ≡ x ∷ []) × (bytes ≡ rest)) ⊎ Next (Symbol 44 tt) (By (λ ys. x ∷ ys) (Listed R)) xs bytes rest

  joined : (x : A) (ys : List A) (bytes after more rest : List ℕ) → R x bytes after → Symbol 44 tt after more → Listed R ys more rest → Listed R (x ∷ ys) bytes rest
  joined x [] bytes after more rest one between others = absurd others
  joined x (y ∷ ys) bytes after more rest one between others = (after, (more, (one, (between, others))))

  listed_of : (xs : List A) (bytes rest : List ℕ) → Then R Others xs bytes rest → Listed R xs bytes rest
  listed_of xs bytes rest t = elim t.second [
    | inl is ↦ subst (λ (l : List A). Listed R l bytes rest) (sym is.0) (subst (λ (l : List ℕ). R t.value bytes l) is.1 t.first)
    | inr n ↦ let b = n.second in subst (λ (l : List A). Listed R l bytes rest) (sym b.1.0) (joined t.value b.0 bytes t.between n.between rest t.first n.first b.1.1)
  ]

  others_read : (x : A) (o : List ℕ → Read (List A)) (m : List ℕ) → ((more : List ℕ) → Reads (Listed R) more (o more)) → Reads (Others x) m (on_comma x o m (symbol_at 44 m))
  others_read x o m others = reads_either (symbol_at 44 m) _ _ comma.moves (comma.reads m) (λ y b rest is. inr is) (λ more. reads_prepend x (o more) (others more)) (λ at c. record { it = inl (refl, refl) })

  others_begin : (x : A) (o : List ℕ → Read (List A)) (m : List ℕ) → ((more : List ℕ) → length more < length m → Begins gaps (o more)) → Begins gaps (on_comma x o m (symbol_at 44 m))
  others_begin x o m others = begins_either (symbol_at 44 m) _ _ (λ more e. begins_prepend x (o more) (others more (comma_less m more e))) (λ at. record { it = tt })

  module _ (s : Parting) where
    others_within : (x : A) (o : List ℕ → Read (List A)) (m : List ℕ) → ((more : List ℕ) → length more < length m → Within (texts_of s) more (o more)) → Within (texts_of s) m (on_comma x o m (symbol_at 44 m))
    others_within x o m others = within_either (texts_of s) (symbol_at 44 m) _ _ ((comma.same s).leaves m) (λ more e. prepended s x (o more) (others more (comma_less m more e))) (λ at. (good_ok (texts_of s) (x ∷ [])).within m)

    others_same : (x : A) (o u : List ℕ → Read (List A)) (l m : List ℕ) → Near (texts_of s) l m → ((more : List ℕ) → length more < length l → Within (texts_of s) more (o more))
        → ((p q : List ℕ) → Near (texts_of s) p q → length p < length l → length q < length m → Same (texts_of s) (o p) (u q)) → Same (texts_of s) (on_comma x o l (symbol_at 44 l)) (on_comma x u m (symbol_at 44 m))
    others_same x o u l m here inside others =
        same_by (texts_of s) (symbol_at 44) (comma.same s) l m here (on_comma x o l) (on_comma x u m) (others_within x o l inside)
        (λ p q at d e. same_place (texts_of s) _ _ at (prepended s x (o p) (inside p (comma_less l p d))) (λ near. prepends s x (o p) (u q) (others p q near (comma_less l p d) (comma_less m q e)))) (λ _ _. (good_ok (texts_of s) (x ∷ [])).same l m here)

  listed_turn : Turn gaps (Listed R) (λ rest. C rest × Refused (symbol_at 44 rest)) list_by
  listed_turn = record {
    moves = listed_moves;
    reads = λ o bytes others. reads_weaker _ (reads_then (item bytes) _ p.moves (λ x. nothing (x ∷ []) (λ tail. inl (refl, refl))) (p.reads bytes) (λ x m. others_read x o m others)) listed_of;
    begins = λ o bytes others. begins_where (item bytes) _ (p.begins bytes) (λ x e. others_begin x.0 o x.1 (λ more less. others more (omega (arith, less, leaves p x.0 bytes x.1 e))));
    whole = whole;
    within = λ s o bytes others. within_then (texts_of s) (item bytes) _ ((p.same s).within bytes) (λ x m e. others_within s x o m (λ more less. others more (omega (arith, less, leaves p x bytes m e))));
    same = λ s o u a c near inside others.
        same_then (texts_of s) (item a) (item c) _ _ ((p.same s).same a c near) (λ x m e. others_within s x o m (λ more less. inside more (omega (arith, less, leaves p x a m e))))
        (λ x l m here d e. others_same s x o u l m here (λ more less. inside more (omega (arith, less, leaves p x a l d))) (λ f g at less fewer. others f g at (omega (arith, less, leaves p x a l d)) (omega (arith, fewer, leaves p x c m e))));
  }
    where
      shorter : (x : A) (bytes m more : List ℕ) → R x bytes m → Symbol 44 tt m more → length more < length bytes
      shorter x bytes m more one between = omega (arith, no_longer (p.moves x) bytes m one, comma_takes m more between)

      whole : (o : List ℕ → Read (List A)) (xs : List A) (bytes rest : List ℕ) → ((ys : List A) (m : List ℕ) → length m < length bytes → Listed R ys m rest → o m ≡ Ok (ys, rest)) → Listed R xs bytes rest → C rest × Refused (symbol_at 44 rest)
          → list_by o bytes ≡ Ok (xs, rest)
      whole o [] bytes rest others is c = absurd is
      whole o (x ∷ []) bytes rest others is c = ok_then (item bytes) _ (p.whole x bytes rest is c.0) (ap (on_comma x o rest) (c.1).is)
      whole o (x ∷ y ∷ ys) bytes rest others (after, (more, (one, (between, is)))) c =
          ok_then (item bytes) _ (p.whole x bytes after one (comma_ends after more between))
          (ap (on_comma x o after) (symbol_read 44 tt after more between) ∙ ap (prepend (x ∷ [])) (others (y ∷ ys) more (shorter x bytes after more one between) is))

  pub listed : item [] ≡ Err [] → Production gaps (Listed R) (λ rest. C rest × Refused (symbol_at 44 rest)) (λ bytes. list_at item (length bytes) bytes)
  listed none =
      by_turns listed_turn (list_at item) (λ bytes. goes_here bytes (usual_weaker (λ x. x ∷ []) (usual p) (λ x b rest is. is)))
      (sym (ap (λ (r : Read A). r >>= λ x. on_comma x.0 (list_at item 0) x.1 (symbol_at 44 x.1)) none)) (λ n bytes. refl)
