-- The names of a key's columns, with the start of a period of application time in place of its name.
use Rattle.std.proofs.Common.{◌≡◌, ℕ, ◌&&◌, Bool, true, false, List, [], ◌∷◌, ◌++◌, Option, Some, None, refl, sym, ap, ◌∙◌, if◌then◌else◌}
use Rattle.std.proofs.lemmas.Bool.{and_parts, and_from}
use Rattle.values.specs.Names.{same_name}
use Rattle.values.specs.Tables.{but_last}
use Rattle.values.proofs.TablesButLast.{but_last-push}
use Rattle.rows.specs.declared.declaration.ApplicationPeriod.{ApplicationPeriod}
use Rattle.rows.specs.declared.declaration.KeyClause.{KeyClause}
use Rattle.rows.specs.SchemaTable.{ends_with_name, key_names}
use Rattle.rows.specs.GoodTable.{IsKeyOf}
use Rattle.rows.proofs.SchemaEntries.{same_to, same_from}

pub ends_with-push : (name : List ℕ) (xs : List (List ℕ)) (x : List ℕ) → ends_with_name name (xs ++ x ∷ []) ≡ same_name name x
ends_with-push name [] x = refl
ends_with-push name (y ∷ []) x = refl
ends_with-push name (y ∷ z ∷ xs) x = ends_with-push name (z ∷ xs) x

-- names of which the last is the name
record EndsWith (name : List ℕ) (names : List (List ℕ)) : Type 0 where
  front : List (List ℕ)
  end : List ℕ
  place : names ≡ front ++ end ∷ []
  same : same_name name end ≡ true

ends_with : (name : List ℕ) (names : List (List ℕ)) → ends_with_name name names ≡ true → EndsWith name names
ends_with name [] e = cc
ends_with name (x ∷ []) e = record { front = []; end = x; place = refl; same = e }
ends_with name (x ∷ y ∷ names) e =
    let w = ends_with name (y ∷ names) e in
    record { front = x ∷ w.front; end = w.end; place = ap (λ l. x ∷ l) w.place; same = w.same }

some_if : (t : Bool) (x y : List (List ℕ)) → (if t then Some x else None) ≡ Some y → (t ≡ true) × (x ≡ y)
some_if true x y e = (refl, ap (λ o. elim o [ Some z ↦ z | None ↦ x ]) e)
some_if false x y e = cc

none_if : (t : Bool) (x y : List (List ℕ)) → (if t then None else Some x) ≡ Some y → (t ≡ false) × (x ≡ y)
none_if true x y e = cc
none_if false x y e = (refl, ap (λ o. elim o [ Some z ↦ z | None ↦ x ]) e)

pub key_is : (o : Option ApplicationPeriod) (clause : KeyClause) (key : List (List ℕ)) → key_names o clause ≡ Some key → IsKeyOf o clause key
key_is None clause key e = none_if clause.without_overlaps clause.names key e
key_is (Some p) clause key e =
    let a = some_if (clause.without_overlaps && ends_with_name p.name clause.names) (but_last clause.names ++ p.columns.start ∷ []) key e in
    let b = and_parts clause.without_overlaps (ends_with_name p.name clause.names) a.0 in
    let w = ends_with p.name clause.names b.1 in
    record {
      entity = w.front;
      name = w.end;
      without_overlaps = b.0;
      given = w.place;
      of_period = same_to p.name w.end w.same;
      ends = sym a.1 ∙ ap (λ l. l ++ p.columns.start ∷ []) (ap but_last w.place ∙ but_last-push w.front w.end);
    }

pub is_key : (o : Option ApplicationPeriod) (clause : KeyClause) (key : List (List ℕ)) → IsKeyOf o clause key → key_names o clause ≡ Some key
is_key None clause key (none, e) = ap (λ t. if t then None else Some clause.names) none ∙ ap (λ l. Some l) e
is_key (Some p) clause key is =
    let ends : ends_with_name p.name clause.names ≡ true =
    ap (ends_with_name p.name) is.given ∙ ends_with-push p.name is.entity is.name ∙ same_from p.name is.name is.of_period in
    ap (λ t. if t then Some (but_last clause.names ++ p.columns.start ∷ []) else None) (and_from clause.without_overlaps (ends_with_name p.name clause.names) is.without_overlaps ends)
    ∙ ap (λ l. Some (l ++ p.columns.start ∷ [])) (ap but_last is.given ∙ but_last-push is.entity is.name) ∙ ap (λ l. Some l) (sym is.ends)
