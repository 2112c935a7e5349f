-- ALTER TABLE as a production.
use Rattle.std.proofs.Common.{ℕ, List, inl, inr, refl, sym, subst}
use Rattle.std.specs.Prelude.{codes}
use Rattle.values.specs.Tables.{Schema}
use Rattle.values.specs.declared.table.ColumnType.{ColumnType}
use Rattle.values.specs.declared.table.ColumnType.TheVariants.{Int, Text, Varchar, Boolean}
use Rattle.statement.specs.declared.line.Written.{Written}
use Rattle.statement.specs.declared.line.Written.TheVariants.{AddColumn}
use Rattle.tokens.specs.TypeName.{size_at, varchar_at, type_at as type_after}
use Rattle.statement.specs.Token.{next}
use Rattle.statement.specs.Alteration.{type_at, alter_at}
use Rattle.statement.specs.Grammar.{Piece, ◌⋯◌, Word, Name, IsTable, IsSize, IsType}
use Rattle.tokens.proofs.TokenGoing.{Next, By, Last}
use Rattle.tokens.proofs.TokenProduction.{Production, Any, Or, alike, by, last}
use Rattle.tokens.proofs.TokenProductionParts.{skip, part, finish, alone, made}
use Rattle.statement.proofs.TokenProduction.{gaps, word, symbol, name, capped, table, AtEnd, End, end}
use Rattle.statement.proofs.TokenFirstWords.{last_word, or_value}

size : Production gaps IsSize Any (size_at next)
unfolding size_at
size = alone (skip (symbol 40 refl) (part (λ n. n) capped (λ n. finish n (tt, refl) (λ z k. k.1) (last n (symbol 41 refl)))))

varchar : Production gaps (By Varchar IsSize) Any (varchar_at next)
unfolding varchar_at
varchar = by Varchar size

-- a type by its first word
abbrev Types : ColumnType → Piece
Types =
    Or (Last Int (Word (codes "INT"))) (Or (Last Int (Word (codes "INTEGER"))) (Or (Last Int (Word (codes "BIGINT"))) (Or (Last Text (Word (codes "TEXT")))
    (Or (Last Boolean (Word (codes "BOOLEAN"))) (Next (Word (codes "VARCHAR")) (By Varchar IsSize))))))

type : Production gaps IsType Any type_at
unfolding type_after
type =
    alike to from (or_value (codes "INT") Int refl
    (or_value (codes "INTEGER") Int refl
    (or_value (codes "BIGINT") Int refl
    (or_value (codes "TEXT") Text refl
    (or_value (codes "BOOLEAN") Boolean refl
    (last_word (codes "VARCHAR") refl varchar)))))).production
  where
    to : (t : ColumnType) (bytes rest : List ℕ) → Types t bytes rest → IsType t bytes rest
    to t bytes rest (inl is) = subst (λ (u : ColumnType). IsType u bytes rest) (sym is.0) (inl is.1)
    to t bytes rest (inr (inl is)) = subst (λ (u : ColumnType). IsType u bytes rest) (sym is.0) (inr (inl is.1))
    to t bytes rest (inr (inr (inl is))) = subst (λ (u : ColumnType). IsType u bytes rest) (sym is.0) (inr (inr is.1))
    to t bytes rest (inr (inr (inr (inl is)))) = subst (λ (u : ColumnType). IsType u bytes rest) (sym is.0) is.1
    to t bytes rest (inr (inr (inr (inr (inl is))))) = subst (λ (u : ColumnType). IsType u bytes rest) (sym is.0) is.1
    to t bytes rest (inr (inr (inr (inr (inr n))))) = subst (λ (u : ColumnType). IsType u bytes rest) (sym (n.second).1.0) (n.between, (n.first, (n.second).1.1))

    from : (t : ColumnType) (bytes rest : List ℕ) → IsType t bytes rest → Types t bytes rest
    from Int bytes rest (inl is) = inl (refl, is)
    from Int bytes rest (inr (inl is)) = inr (inl (refl, is))
    from Int bytes rest (inr (inr is)) = inr (inr (inl (refl, is)))
    from Text bytes rest is = inr (inr (inr (inl (refl, is))))
    from Boolean bytes rest is = inr (inr (inr (inr (inl (refl, is)))))
    from (Varchar n) bytes rest is = inr (inr (inr (inr (inr (record { between = is.0; first = is.1.0; second = (n, (refl, is.1.1)) })))))

-- ---- after ALTER

module _ (schema : Schema) where
  abbrev pub added : ℕ → ℕ × (List ℕ × ColumnType) → Written
  added session c = AddColumn session c.0 c.1.0 c.1.1

  abbrev pub Altered : ℕ × (List ℕ × ColumnType) → Piece
  Altered c = Word (codes "TABLE") ⋯ IsTable schema c.0 ⋯ Word (codes "ADD") ⋯ Word (codes "COLUMN") ⋯ Name c.1.0 ⋯ IsType c.1.1 ⋯ End

  pub alter : (session : ℕ) → Production gaps (By (added session) Altered) AtEnd (alter_at schema session)
  unfolding alter_at
  alter session =
      made (skip (word (codes "TABLE") refl)
      (part (λ c. c.0) (table schema) (λ of_table.
      skip (word (codes "ADD") refl)
      (skip (word (codes "COLUMN") refl)
      (part (λ c. c.1.0) name (λ name.
      part (λ c. c.1.1) type (λ of.
      finish (of_table, (name, of)) (((tt, refl), refl), refl) (λ c k. λ i. (k.0.0.1 i, (k.0.1 i, k.1 i))) (end (AddColumn session of_table name of)))))))))
