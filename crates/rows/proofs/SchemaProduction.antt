-- Schemas as a production: statements with semicolons between them.
use Rattle.std.proofs.Common.{◌≡◌, ◌⊎◌, ◌<◌, ℕ, zero, suc, Bool, true, false, List, [], ◌∷◌, inl, inr, Ok, Err, length, refl, ap, sym, ◌∙◌, subst, arith, if◌then◌else◌}
use Rattle.std.specs.Prelude.{codes, not}
use Rattle.values.specs.Names.{same_name}
use Rattle.rows.specs.declared.declaration.Declaration.{Declaration}
use Rattle.tokens.specs.Token.{After, Read, ◌>>=◌, prefix_while}
use Rattle.tokens.specs.Token.{symbol_at as symbol_after}
use Rattle.tokens.specs.Word.{is_name_byte}
use Rattle.tokens.specs.Word.{is_word_at as is_word_after, word_at as word_after}
use Rattle.tokens.proofs.WordCases.{Refused}
use Rattle.tokens.proofs.TokenFollows.{Spelling, Moves}
use Rattle.tokens.proofs.TokenGoing.{Reads, Then, Next, By, Last, usual_weaker, usual_by, reads_then, reads_weaker, after_then, nothing}
use Rattle.tokens.proofs.PlaceSame.{Texts, Near, Within, within_then, within_after, within_if, Same, same_place, same_then, Tells, same_test, good_ok}
use Rattle.tokens.proofs.TokenSame.{same_by}
use Rattle.tokens.proofs.TokenProduction.{Begins, Token, Production, Empty, Or, ok_then, if_both, both_move, usual, begins_where, sound, no_longer, leaves, token_takes, token_less}
use Rattle.tokens.proofs.TokenProductionTurns.{Turn, by_turns}
use Rattle.tokens.proofs.TokenNothingLeft.{Leaving, all_then}
use Rattle.rows.specs.SchemaToken.{next, symbol_at}
use Rattle.rows.specs.Declaration.{prepend, create_at, is_nothing, is_end_at, more_at, creates_upto, creates_at}
use Rattle.rows.specs.SchemaGrammar.{Symbol, CreateText, IsEnd, SchemaText}
use Rattle.rows.proofs.SchemaSpelled.{next_is}
use Rattle.rows.proofs.SchemaRead.{next_reads, symbol_read, word_is_at}
use Rattle.rows.proofs.SchemaSame.{tells_end}
use Rattle.rows.proofs.SchemaTokenProduction.{Parting, texts_of, gaps, symbol_token}
use Rattle.rows.proofs.DeclarationListProduction.{reads_prepend, goes_here, begins_prepend, prepended, prepends, when, unless}
use Rattle.rows.proofs.DeclarationProduction.{create}

semicolon : Token gaps (Symbol 59 tt) (symbol_at 59)
semicolon = symbol_token 59 refl

no_semicolon : Refused (symbol_at 59 [])
unfolding symbol_after
no_semicolon = record { at = []; is = refl }

semicolon_takes : (bytes rest : List ℕ) → Symbol 59 tt bytes rest → length rest < length bytes
semicolon_takes = token_takes semicolon no_semicolon

semicolon_less : (bytes rest : List ℕ) → symbol_at 59 bytes ≡ Ok rest → length rest < length bytes
semicolon_less = token_less semicolon no_semicolon

-- ---- the end of a text

end_says : (bytes : List ℕ) → is_end_at bytes ≡ true → IsEnd bytes
unfolding is_end_at
end_says bytes e = next_is bytes [] (nothing_at (next bytes) e)
  where
    nothing_at : (at : List ℕ) → is_nothing at ≡ true → at ≡ []
    nothing_at [] e = refl
    nothing_at (b ∷ bs) e = cc

end_read : (bytes : List ℕ) → IsEnd bytes → is_end_at bytes ≡ true
unfolding is_end_at
end_read bytes e = ap is_nothing (next_reads bytes [] e)

no_end_at_semicolon : (bytes rest : List ℕ) → Symbol 59 tt bytes rest → is_end_at bytes ≡ false
unfolding is_end_at
no_end_at_semicolon bytes rest s = ap is_nothing (next_reads bytes (59 ∷ rest) s.next)

no_end_at_create : (d : Declaration) (bytes rest : List ℕ) → CreateText d bytes rest → is_end_at bytes ≡ false
unfolding is_end_at is_word_after
no_end_at_create d bytes rest is = by_next (next bytes) (word_is_at (codes "CREATE") is.0 bytes is.1.0 is.1.1.0)
  where
    by_next : (at : List ℕ) → same_name (codes "CREATE") (prefix_while is_name_byte at) ≡ true → is_nothing at ≡ false
    by_next [] e = cc
    by_next (b ∷ bs) e = refl

-- ---- the grammar

-- {";" create} [";"]
abbrev Rest : List Declaration → Spelling
Rest [] bytes rest = Empty bytes rest ⊎ Symbol 59 tt bytes rest
Rest (e ∷ es) bytes rest = (more : List ℕ) × (Symbol 59 tt bytes more × ((after : List ℕ) × (CreateText e more after × Rest es after rest)))

abbrev pub Creates : List Declaration → Spelling
Creates [] bytes rest = ⊥
Creates (d ∷ ds) bytes rest = (after : List ℕ) × (CreateText d bytes after × Rest ds after rest)

rest_moves : (ds : List Declaration) → Moves (Rest ds)
rest_moves [] = λ bytes rest is. elim is [
  | inl e ↦ record { taken = []; place = e; stays = λ other follows. inl refl }
  | inr s ↦ let a = semicolon.moves bytes rest s in record { taken = a.taken; place = a.place; stays = λ other follows. inr (a.stays other follows) }
]
rest_moves (e ∷ es) =
    both_move {Q = λ bytes rest. (after : List ℕ) × (CreateText e bytes after × Rest es after rest)} (λ bytes m rest one others. (m, (one, others))) (λ bytes rest is. is)
    semicolon.moves (both_move (λ bytes m rest one others. (m, (one, others))) (λ bytes rest is. is) (create.moves e) (rest_moves es))

creates_move : (ds : List Declaration) → Moves (Creates ds)
creates_move [] = λ bytes rest is. absurd is
creates_move (d ∷ ds) = both_move (λ bytes m rest one others. (m, (one, others))) (λ bytes rest is. is) (create.moves d) (rest_moves ds)

text_of : (ds : List Declaration) (bytes rest : List ℕ) → Creates ds bytes rest → IsEnd rest → SchemaText ds bytes
text_of [] bytes rest is end = absurd is
text_of (d ∷ []) bytes rest (after, (one, inl e)) end = (after, (one, inl (subst IsEnd (sym e) end)))
text_of (d ∷ []) bytes rest (after, (one, inr s)) end = (after, (one, inr (rest, (s, end))))
text_of (d ∷ e ∷ es) bytes rest (after, (one, (more, (s, others)))) end = (after, (more, (one, (s, text_of (e ∷ es) more rest others end))))

of_text : (ds : List Declaration) (bytes : List ℕ) → SchemaText ds bytes → (rest : List ℕ) × (Creates ds bytes rest × IsEnd rest)
of_text [] bytes is = absurd is
of_text (d ∷ []) bytes (after, (one, inl end)) = (after, ((after, (one, inl refl)), end))
of_text (d ∷ []) bytes (after, (one, inr (more, (s, end)))) = (more, ((after, (one, inr s)), end))
of_text (d ∷ e ∷ es) bytes (after, (more, (one, (s, others)))) = let o = of_text (e ∷ es) more others in (o.0, ((after, (one, (more, (s, o.1.0)))), o.1.1))

-- ---- reading: after a semicolon, after a statement, and a statement with what comes after it

abbrev behind : Declaration → (List ℕ → Read (List Declaration)) → List ℕ → Read (List Declaration)
behind d o s = if is_end_at s then Ok (d ∷ [], s) else prepend (d ∷ []) (o s)

abbrev after_create : Declaration → (List ℕ → Read (List Declaration)) → List ℕ → Read (List Declaration)
after_create d o m = if is_end_at m then Ok (d ∷ [], m) else (symbol_at 59 m >>= behind d o)

abbrev creates_by : (List ℕ → Read (List Declaration)) → List ℕ → Read (List Declaration)
creates_by o bytes = create_at bytes >>= λ d. after_create d.0 o d.1

-- the test of the end, put before
abbrev on_more : Declaration → (List ℕ → Read (List Declaration)) → Bool × List ℕ → Read (List Declaration)
on_more d o more = if more.0 then prepend (d ∷ []) (o more.1) else Ok (d ∷ [], more.1)

abbrev more_after : After → Read Bool
more_after r = r >>= λ rest. Ok (not (is_end_at rest), rest)

turn_is : (n : ℕ) (bytes : List ℕ) → creates_upto (suc n) bytes ≡ creates_by (creates_upto n) bytes
unfolding more_at
turn_is n bytes = ap (λ (f : Declaration × List ℕ → Read (List Declaration)). create_at bytes >>= f) (λ i. λ d. by_end d.0 d.1 (is_end_at d.1) i)
  where
    by_more : (d : Declaration) (s : List ℕ) (t : Bool) → on_more d (creates_upto n) (not t, s) ≡ (if t then Ok (d ∷ [], s) else prepend (d ∷ []) (creates_upto n s))
    by_more d s true = refl
    by_more d s false = refl

    by_semicolon : (d : Declaration) (r : After) → (more_after r >>= on_more d (creates_upto n)) ≡ (r >>= behind d (creates_upto n))
    by_semicolon d (Err at) = refl
    by_semicolon d (Ok s) = by_more d s (is_end_at s)

    by_end : (d : Declaration) (m : List ℕ) (t : Bool) → ◌>>=◌ {A = Bool × List ℕ} (if t then Ok (false, m) else more_after (symbol_at 59 m)) (on_more d (creates_upto n)) ≡ (if t then Ok (d ∷ [], m) else (symbol_at 59 m >>= behind d (creates_upto n)))
    by_end d m true = refl
    by_end d m false = by_semicolon d (symbol_at 59 m)

-- ---- a turn

-- after a semicolon: nothing, or the others
abbrev Behind : Declaration → List Declaration → Spelling
Behind d = Or (Last (d ∷ []) Empty) (By (λ es. d ∷ es) Creates)

follow : (es : List Declaration) (bytes m rest : List ℕ) → Symbol 59 tt bytes m → Creates es m rest → Rest es bytes rest
follow [] bytes m rest s is = absurd is
follow (e ∷ es) bytes m rest s is = (m, (s, is))

rest_of : (d : Declaration) (ds : List Declaration) (bytes rest : List ℕ) → Next (Symbol 59 tt) (Behind d) ds bytes rest → By (λ es. d ∷ es) Rest ds bytes rest
rest_of d ds bytes rest n = by_case n.between n.first n.second
  where
    by_case : (m : List ℕ) → Symbol 59 tt bytes m → Behind d ds m rest → By (λ es. d ∷ es) Rest ds bytes rest
    by_case m s (inl is) = ([], (is.0, inr (subst (λ (l : List ℕ). Symbol 59 tt bytes l) is.1 s)))
    by_case m s (inr b) = (b.0, (b.1.0, follow b.0 bytes m rest s b.1.1))

creates_of : (ds : List Declaration) (bytes rest : List ℕ) → Then CreateText (λ d. By (λ es. d ∷ es) Rest) ds bytes rest → Creates ds bytes rest
creates_of ds bytes rest t = let b = t.second in subst (λ (l : List Declaration). Creates l bytes rest) (sym b.1.0) (t.between, (t.first, b.1.1))

after_reads : (d : Declaration) (o : List ℕ → Read (List Declaration)) (m : List ℕ) → ((s : List ℕ) → Reads Creates s (o s)) → Reads (By (λ es. d ∷ es) Rest) m (after_create d o m)
after_reads d o m others =
    if_both (Reads (By (λ es. d ∷ es) Rest) m) (is_end_at m) (record { it = ([], (refl, inl refl)) })
    (reads_weaker _ (after_then (symbol_at 59 m) (behind d o) semicolon.moves (nothing (d ∷ []) (λ tail. inl (refl, refl))) (semicolon.reads m) (λ s.
    if_both (Reads (Behind d) s) (is_end_at s) (record { it = inl (refl, refl) }) (reads_weaker _ (reads_prepend d (o s) (others s)) (λ y b rest is. inr is)))) (rest_of d))

after_begins : (d : Declaration) (o : List ℕ → Read (List Declaration)) (m : List ℕ) → ((s : List ℕ) → length s < length m → Begins gaps (o s)) → Begins gaps (after_create d o m)
after_begins d o m others =
    if_both (Begins gaps) (is_end_at m) (record { it = tt }) (begins_where (symbol_at 59 m) (behind d o) (semicolon.begins m) (λ s e. if_both (Begins gaps) (is_end_at s) (record { it = tt }) (begins_prepend d (o s) (others s (semicolon_less m s e)))))

module _ (o : List ℕ → Read (List Declaration)) where
  turn_whole : (ds : List Declaration) (bytes rest : List ℕ) → ((es : List Declaration) (m : List ℕ) → length m < length bytes → Creates es m rest → o m ≡ Ok (es, rest)) → Creates ds bytes rest → is_end_at rest ≡ true → creates_by o bytes ≡ Ok (ds, rest)
  turn_whole [] bytes rest others is end = absurd is
  turn_whole (d ∷ []) bytes rest others (after, (one, inl e)) end =
      ok_then (create_at bytes) _ (create.whole d bytes after one tt) (when (is_end_at after) _ _ _ (ap is_end_at e ∙ end) (λ k. Ok (d ∷ [], e k)))
  turn_whole (d ∷ []) bytes rest others (after, (one, inr s)) end =
      ok_then (create_at bytes) _ (create.whole d bytes after one tt) (unless (is_end_at after) _ _ _ (no_end_at_semicolon after rest s)
      (ok_then (symbol_at 59 after) (behind d o) (symbol_read 59 tt after rest s) (when (is_end_at rest) _ _ _ end refl)))
  turn_whole (d ∷ e ∷ es) bytes rest others (after, (one, (more, (s, is)))) end =
      ok_then (create_at bytes) _ (create.whole d bytes after one tt) (unless (is_end_at after) _ _ _ (no_end_at_semicolon after more s)
      (ok_then (symbol_at 59 after) (behind d o) (symbol_read 59 tt after more s)
      (unless (is_end_at more) _ _ _ (no_end_at_create e more is.0 is.1.0) (ap (prepend (d ∷ [])) (others (e ∷ es) more (omega (arith, no_longer (create.moves d) bytes after one, semicolon_takes after more s)) is)))))

-- two schemas that are the same up to a token and in it
module _ (s : Parting) where
  abbrev w : Texts
  w = texts_of s

  tells : Tells w is_end_at
  tells = tells_end s.first s.rest s.other s.tokens

  module _ (d : Declaration) (o : List ℕ → Read (List Declaration)) where
    behind_within : (bytes : List ℕ) → Within w bytes (o bytes) → Within w bytes (behind d o bytes)
    behind_within bytes i = within_if w (is_end_at bytes) _ _ ((good_ok w (d ∷ [])).within bytes) (prepended s d (o bytes) i)

    semicolon_within : (m : List ℕ) → ((bytes : List ℕ) → length bytes < length m → Within w bytes (o bytes)) → Within w m (symbol_at 59 m >>= behind d o)
    semicolon_within m i = within_after w (symbol_at 59 m) (behind d o) ((semicolon.same s).leaves m) (λ bytes e. behind_within bytes (i bytes (semicolon_less m bytes e)))

    after_within : (m : List ℕ) → ((bytes : List ℕ) → length bytes < length m → Within w bytes (o bytes)) → Within w m (after_create d o m)
    after_within m i = within_if w (is_end_at m) _ _ ((good_ok w (d ∷ [])).within m) (semicolon_within m i)

  module _ (d : Declaration) (o u : List ℕ → Read (List Declaration)) where
    behind_same : (a c : List ℕ) → Near w a c → Within w a (o a) → Same w (o a) (u c) → Same w (behind d o a) (behind d u c)
    behind_same a c near i same = same_test w is_end_at tells a c near _ _ _ _ (behind_within d o a i) ((good_ok w (d ∷ [])).same a c near) (prepends s d (o a) (u c) same)

    after_same : (a c : List ℕ) → Near w a c → ((bytes : List ℕ) → length bytes < length a → Within w bytes (o bytes))
        → ((p q : List ℕ) → Near w p q → length p < length a → length q < length c → Same w (o p) (u q)) → Same w (after_create d o a) (after_create d u c)
    after_same a c near i same =
        same_test w is_end_at tells a c near _ _ _ _ (after_within d o a i) ((good_ok w (d ∷ [])).same a c near)
        (same_by w (symbol_at 59) (semicolon.same s) a c near (λ r. r >>= behind d o) (λ r. r >>= behind d u) (semicolon_within d o a i)
        (λ p q at e f. let j = i p (semicolon_less a p e) in same_place w _ _ at (behind_within d o p j) (λ here. behind_same p q here j (same p q here (semicolon_less a p e) (semicolon_less c q f)))) (λ _ _. record { it = tt }))

turn : Turn gaps Creates (λ rest. is_end_at rest ≡ true) creates_by
turn = record {
  moves = creates_move;
  reads = λ o bytes others. reads_weaker _ (reads_then (create_at bytes) _ create.moves (λ d. usual_by (λ es. d ∷ es) (nothing [] (λ tail. inl refl))) (create.reads bytes) (λ d m. after_reads d o m others)) creates_of;
  begins = λ o bytes others. begins_where (create_at bytes) _ (create.begins bytes) (λ d e. after_begins d.0 o d.1 (λ m less. others m (omega (arith, less, leaves create d.0 bytes d.1 e))));
  whole = turn_whole;
  within = λ s o bytes others. within_then (texts_of s) (create_at bytes) _ ((create.same s).within bytes) (λ d m e. after_within s d o m (λ left less. others left (omega (arith, less, leaves create d bytes m e))));
  same = λ s o u a c near inside others.
      same_then (texts_of s) (create_at a) (create_at c) _ _ ((create.same s).same a c near) (λ d m e. after_within s d o m (λ left less. inside left (omega (arith, less, leaves create d a m e))))
      (λ d l m here e f. after_same s d o u l m here (λ left less. inside left (omega (arith, less, leaves create d a l e))) (λ p q at less fewer. others p q at (omega (arith, less, leaves create d a l e)) (omega (arith, fewer, leaves create d c m f))));
}

no_create : create_at [] ≡ Err []
unfolding create_at is_word_after word_after
no_create = refl

pub creates : Production gaps Creates (λ rest. is_end_at rest ≡ true) creates_at
unfolding creates_at
creates =
    by_turns turn creates_upto (λ bytes. goes_here bytes (usual_weaker (λ d. d ∷ []) (usual create) (λ d b rest is. (rest, (is, inl refl)))))
    (sym (ap (λ (r : Read Declaration). r >>= λ d. after_create d.0 (creates_upto 0) d.1) no_create)) turn_is

-- ---- what is left is the end

abbrev AtEnd : List ℕ → Type 0
AtEnd rest = is_end_at rest ≡ true

ended_if : {A : Type 0} (x : A) (bytes : List ℕ) (r : Read A) → Leaving AtEnd r → Leaving AtEnd (if is_end_at bytes then Ok (x, bytes) else r)
ended_if {A} x bytes r e = by_end (is_end_at bytes) refl
  where
    by_end : (t : Bool) → is_end_at bytes ≡ t → Leaving AtEnd {A = A} (if t then Ok (x, bytes) else r)
    by_end true is = record { it = is }
    by_end false is = e

ended_prepend : {A : Type 0} (xs : List A) (r : Read (List A)) → Leaving AtEnd r → Leaving AtEnd (prepend xs r)
ended_prepend xs (Ok x) e = record { it = e.it }
ended_prepend xs (Err at) e = record { it = tt }

upto_ended : (n : ℕ) (bytes : List ℕ) → Leaving AtEnd (creates_upto n bytes)
upto_ended zero bytes = record { it = tt }
upto_ended (suc n) bytes =
    subst (Leaving AtEnd) (sym (turn_is n bytes))
    (all_then (create_at bytes) _ (λ d. ended_if (d.0 ∷ []) d.1 _ (all_then (symbol_at 59 d.1) (behind d.0 (creates_upto n)) (λ s. ended_if (d.0 ∷ []) s _ (ended_prepend (d.0 ∷ []) (creates_upto n s) (upto_ended n s))))))

pub text_says : (ds : List Declaration) (text rest : List ℕ) → creates_at text ≡ Ok (ds, rest) → SchemaText ds text
unfolding creates_at
text_says ds text rest is =
    let e : Leaving AtEnd (Ok (ds, rest)) = subst (Leaving AtEnd) is (upto_ended (length text) text) in
    text_of ds text rest (sound creates ds text rest is) (end_says rest e.it)

pub text_read : (ds : List Declaration) (text : List ℕ) → SchemaText ds text → (rest : List ℕ) × (creates_at text ≡ Ok (ds, rest))
text_read ds text is = let o = of_text ds text is in (o.0, creates.whole ds text o.0 o.1.0 (end_read o.0 o.1.1))

-- where no bytes are left
pub text_at_end : (ds : List Declaration) (text : List ℕ) → Creates ds text [] → SchemaText ds text
text_at_end ds text is = text_of ds text [] is (record { gap = []; skipped = refl; begins = tt })
