-- A piece of a line is one still where other bytes follow it that end it as well.
use Rattle.std.proofs.Common.{◌≡◌, ℕ, Bool, true, false, List, [], ◌∷◌, ◌++◌, ◌==◌, inl, inr, refl, ap, sym, ◌∙◌, subst}
use Rattle.std.specs.Prelude.{codes}
use Rattle.std.specs.Char.{is_ascii_digit}
use Rattle.std.proofs.lemmas.List.{append_assoc}
use Rattle.values.specs.Commits.{max_instant}
use Rattle.values.specs.declared.value.Value.{Value}
use Rattle.values.specs.declared.value.Value.TheVariants.{Int, Text, Bool as Truth, Null}
use Rattle.values.specs.declared.query.Operator.{Operator}
use Rattle.values.specs.declared.query.Operator.TheVariants.{Equal, Below, AtMost, Above, AtLeast}
use Rattle.tokens.specs.Run.{Ends, Run}
use Rattle.tokens.specs.Word.{is_name_byte}
use Rattle.tokens.proofs.TokenFollows.{Follows, front_follows, ends_so, Moves}
use Rattle.statement.specs.Grammar.{Piece, ◌⋯◌, ◌∣◌, Blanks, Exactly, Symbol, Word, Name, Digits, Number, doubled, is_quote, Quoted, Literal, Listed, IsOperator, IsInstant, CappedDigits, IsNumber}

pub both_move : {P Q : Piece} → Moves P → Moves Q → Moves (P ⋯ Q)
both_move {P} {Q} p q bytes rest is =
    let a = p bytes is.0 is.1.0 in
    let b = q is.0 rest is.1.1 in
    record {
      taken = a.taken ++ b.taken;
      place = a.place ∙ ap (λ (l : List ℕ). a.taken ++ l) b.place ∙ sym (append_assoc a.taken b.taken rest);
      stays = λ other follows.
          let behind : Follows is.0 (b.taken ++ other) = subst (λ (l : List ℕ). Follows l (b.taken ++ other)) (sym b.place) (front_follows b.taken rest other follows) in
          subst (λ (l : List ℕ). (P ⋯ Q) l other) (sym (append_assoc a.taken b.taken other))
          (b.taken ++ other, (a.stays (b.taken ++ other) behind, b.stays other follows));
    }

pub either_moves : {P Q : Piece} → Moves P → Moves Q → Moves (P ∣ Q)
either_moves p q bytes rest (inl is) = let a = p bytes rest is in record { taken = a.taken; place = a.place; stays = λ other follows. inl (a.stays other follows) }
either_moves p q bytes rest (inr is) = let a = q bytes rest is in record { taken = a.taken; place = a.place; stays = λ other follows. inr (a.stays other follows) }

pub blanks_move : Moves Blanks
blanks_move bytes rest is = record { taken = is.blanks; place = is.spelled; stays = λ other follows. record { blanks = is.blanks; are_blank = is.are_blank; spelled = refl } }

pub text_moves : (text : List ℕ) → Moves (Exactly text)
text_moves text bytes rest is = record { taken = text; place = is; stays = λ other follows. refl }

pub symbol_moves : (symbol : ℕ) → Moves (Symbol symbol)
symbol_moves symbol = both_move blanks_move (text_moves (symbol ∷ []))

run_stays : (p : ℕ → Bool) → p 32 ≡ false → p 10 ≡ false → (run bytes rest other : List ℕ) → Run p run bytes rest → Follows rest other → Run p run (run ++ other) other
run_stays p space feed run bytes rest other r follows = record { all = r.all; ends = ends_so p space feed rest other follows r.ends; spelled = refl }

pub word_moves : (word : List ℕ) → Moves (Word word)
word_moves word = both_move blanks_move (λ bytes rest is. record {
  taken = is.0;
  place = is.1.0.spelled;
  stays = λ other follows. (is.0, (run_stays is_name_byte refl refl is.0 bytes rest other is.1.0 follows, is.1.1));
})

pub name_moves : (name : List ℕ) → Moves (Name name)
name_moves name = both_move blanks_move (λ bytes rest is. record {
  taken = name;
  place = is.0.spelled;
  stays = λ other follows. (run_stays is_name_byte refl refl name bytes rest other is.0 follows, is.1);
})

pub digits_move : (most n : ℕ) → Moves (Digits most n)
digits_move most n bytes rest is = record {
  taken = is.digits;
  place = is.run.spelled;
  stays = λ other follows. record {
    digits = is.digits;
    some = is.some;
    run = run_stays is_ascii_digit refl refl is.digits bytes rest other is.run follows;
    value = is.value;
    within = is.within;
  };
}

pub number_moves : (z : _) → Moves (Number z)
number_moves z = either_moves
    (λ bytes rest is. let d = digits_move _ is.0 bytes rest is.1.1 in record { taken = d.taken; place = d.place; stays = λ other follows. (is.0, (is.1.0, d.stays other follows)) })
    (λ bytes rest is. let d = both_move (text_moves (45 ∷ [])) (digits_move _ is.0) bytes rest is.1.1 in record { taken = d.taken; place = d.place; stays = λ other follows. (is.0, (is.1.0, d.stays other follows)) })

quoted_moves : (text : List ℕ) → Moves (Quoted text)
quoted_moves text bytes rest is = record {
  taken = 39 ∷ (doubled text ++ 39 ∷ []);
  place = is.spelled ∙ ap (λ (l : List ℕ). 39 ∷ l) (sym (append_assoc (doubled text) (39 ∷ []) rest));
  stays = λ other follows. record {
    utf8 = is.utf8;
    ends = ends_so is_quote refl refl rest other follows is.ends;
    spelled = ap (λ (l : List ℕ). 39 ∷ l) (append_assoc (doubled text) (39 ∷ []) other);
  };
}

pub literal_moves : (value : Value) → Moves (Literal value)
literal_moves (Int z) = both_move blanks_move (number_moves z)
literal_moves (Text text) = both_move blanks_move (quoted_moves text)
literal_moves (Truth true) = word_moves (codes "TRUE")
literal_moves (Truth false) = word_moves (codes "FALSE")
literal_moves Null = word_moves (codes "NULL")

pub list_moves : {A : Type 0} {separator : Piece} {item : A → Piece} → Moves separator → ((x : A) → Moves (item x)) → (xs : List A) → Moves (Listed separator item xs)
list_moves between one [] = λ bytes rest is. absurd is
list_moves between one (x ∷ []) = one x
list_moves between one (x ∷ y ∷ xs) = both_move (one x) (both_move between (list_moves between one (y ∷ xs)))

strict_moves : (first : ℕ) → Moves (λ bytes rest. Exactly (first ∷ []) bytes rest × Ends (λ b. b == 61) rest)
strict_moves first bytes rest is = record { taken = first ∷ []; place = is.0; stays = λ other follows. (refl, ends_so (λ b. b == 61) refl refl rest other follows is.1) }

pub operator_moves : (operator : Operator) → Moves (IsOperator operator)
operator_moves Equal = symbol_moves 61
operator_moves Below = both_move blanks_move (strict_moves 60)
operator_moves AtMost = both_move blanks_move (text_moves (60 ∷ 61 ∷ []))
operator_moves Above = both_move blanks_move (strict_moves 62)
operator_moves AtLeast = both_move blanks_move (text_moves (62 ∷ 61 ∷ []))

pub instant_moves : (n : ℕ) → Moves (IsInstant n)
instant_moves n = both_move blanks_move (digits_move max_instant n)

pub whole_number_moves : (z : _) → Moves (IsNumber z)
whole_number_moves z = both_move blanks_move (number_moves z)

pub capped_moves : (n : ℕ) → Moves (CappedDigits n)
capped_moves n bytes rest is = record {
  taken = is.digits;
  place = is.run.spelled;
  stays = λ other follows. record {
    digits = is.digits;
    some = is.some;
    run = run_stays is_ascii_digit refl refl is.digits bytes rest other is.run follows;
    value = is.value;
  };
}
