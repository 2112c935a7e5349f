-- A search condition with a value for each key column takes the key of these values alone.
use Rattle.std.proofs.Common.{◌≡◌, ℕ, ◌+◌, List, [], ◌∷◌, ◌==◌, ◌&&◌, Bool, true, false, Option, Some, None, length, drop, refl, sym, subst, ap, ◌∙◌, arith, if◌then◌else◌, suc, ◌++◌, append_assoc, ◌<◌, All}
use Rattle.std.specs.Prelude.{position, option_and_then}
use Rattle.std.proofs.lemmas.Bool.{and_parts}
use Rattle.std.proofs.lemmas.Cmp.{tied_itself}
use Rattle.std.proofs.lemmas.List.{drop_more}
use Rattle.std.specs.List.{slice_get, list_all}
use Rattle.std.specs.Option.{option_map}
use Rattle.std.specs.Ordering.{is_eq}
use Rattle.values.specs.declared.value.Value.{Value}
use Rattle.values.specs.declared.table.Table.{Table}
use Rattle.values.specs.declared.key.Key.{Key}
use Rattle.values.specs.declared.query.Comparison.{Comparison}
use Rattle.values.specs.declared.query.Keys.{Keys}
use Rattle.values.specs.Order.{value_cmp, is_key}
use Rattle.values.specs.Fit.{key_fault}
use Rattle.values.specs.RowEncoding.{IsHeld}
use Rattle.values.specs.KeyReading.{IsKeyOf}
use Rattle.values.specs.Versions.{compares, part_of, holds, matches}
use Rattle.values.proofs.KeyLengths.{key_fits}
use Rattle.values.proofs.OrderTotal.{value_cmp-IsAntisymmetric, key_cmp_total, key_cmp-IsAntisymmetric}
use Rattle.searchrange.specs.SearchRange.{is_equality, is_at, equal_at}
use Rattle.searchrange.specs.OnlyKey.{equal_parts, with_parts, IsOnly}
use Rattle.searchrange.proofs.NarrowingKeeps.{placed, is_equal, equality}

-- ---- a key that meets comparisons has the values that its columns are to be equal to

module _ (table : Table) (k : Key) where
  own_value : (cs : List Comparison) (place : ℕ) (v w : Value) → list_all (holds table k) cs ≡ true → slice_get k.parts place ≡ Some v → equal_at table place cs ≡ Some w → v ≡ w
  own_value [] place v w h at e = cc
  own_value (c ∷ cs) place v w h at e = by (is_at table place c && is_equality c.operator) refl e (own_value cs place v w both.1 at)
    where
      both : (holds table k c ≡ true) × (list_all (holds table k) cs ≡ true)
      both = and_parts (holds table k c) (list_all (holds table k) cs) h

      by : (t : Bool) → (is_at table place c && is_equality c.operator) ≡ t → (if t then Some c.value else equal_at table place cs) ≡ Some w → (equal_at table place cs ≡ Some w → v ≡ w) → v ≡ w
      by false is e rest = rest e
      by true is e rest =
          let two = and_parts (is_at table place c) (is_equality c.operator) is in
          let it : c.value ≡ w = cc in
          let part : part_of table k c.column ≡ Some v = ap (option_and_then (slice_get k.parts)) (placed place (position (λ k. k == c.column) table.key) two.0) ∙ at in
          let so : compares c.operator (value_cmp v c.value) ≡ true =
          sym (ap (λ (o : Option Value). elim o [ None ↦ false | Some value ↦ compares c.operator (value_cmp value c.value) ]) part) ∙ both.0 in
          value_cmp-IsAntisymmetric v c.value (is_equal (value_cmp v c.value) (subst (λ op. compares op (value_cmp v c.value) ≡ true) (equality c.operator two.1) so)) ∙ it

  module _ (cs : List Comparison) (met : list_all (holds table k) cs ≡ true) where
    own_parts : (columns : List ℕ) (vs ws : List Value) (place : ℕ) → length columns ≡ length vs → ((i : ℕ) → slice_get vs i ≡ slice_get k.parts (place + i)) → equal_parts table cs place columns ≡ Some ws → vs ≡ ws
    own_parts [] [] ws place l at e = cc
    own_parts [] (v ∷ vs) ws place l at e = absurd (omega (arith, l))
    own_parts (n ∷ ns) [] ws place l at e = absurd (omega (arith, l))
    own_parts (n ∷ ns) (v ∷ vs) ws place l at e =
        by (equal_at table place cs) refl e
        (λ xs. own_parts ns vs xs (place + 1) (omega (arith, l)) (λ i. at (suc i) ∙ ap (slice_get k.parts) (omega arith)))
      where
        Rest : Type 0
        Rest = (xs : List Value) → equal_parts table cs (place + 1) ns ≡ Some xs → vs ≡ xs

        here : slice_get k.parts place ≡ Some v
        here = let e : place ≡ place + 0 = omega arith in ap (slice_get k.parts) e ∙ sym (at 0)

        by : (o : Option Value) → equal_at table place cs ≡ o → (elim o [ None ↦ None | Some value ↦ option_map (λ xs. value ∷ xs) (equal_parts table cs (place + 1) ns) ]) ≡ Some ws → Rest → v ∷ vs ≡ ws
        by None is e rest = cc
        by (Some w) is e rest = joined (equal_parts table cs (place + 1) ns) refl e
          where
            joined : (o : Option (List Value)) → equal_parts table cs (place + 1) ns ≡ o → option_map (λ xs. w ∷ xs) o ≡ Some ws → v ∷ vs ≡ ws
            joined None r e = cc
            joined (Some xs) r e =
                let it : w ∷ xs ≡ ws = cc in
                (λ i. own_value cs place v w met here is i ∷ rest xs r i) ∙ it

-- ---- so it is the key of these values

clash : ◌≡◌ {A = Bool} true false → ⊥
clash h = cc

module _ (table : Table) (keys : Keys) (parts : List Value) where
  abbrev only : Key
  only = with_parts table parts

  same : equal_parts table keys.comparisons 0 table.key ≡ Some parts → (k : Key) → IsKeyOf table k → matches table keys k ≡ true → only ≡ k
  same are k own m =
      let held : list_all (holds table k) keys.comparisons ≡ true = (and_parts (k.table == keys.table) (list_all (holds table k) keys.comparisons) m).1 in
      let equals : k.parts ≡ parts = own_parts table k keys.comparisons held table.key k.parts parts 0 (key_fits table k.parts own.fits).same_width (λ i. ap (slice_get k.parts) (omega arith)) are in
      λ i. record { table = sym own.own i; parts = sym equals i }

  pub is_only : equal_parts table keys.comparisons 0 table.key ≡ Some parts → key_fault table parts ≡ None → matches table keys only ≡ true → All IsHeld parts → IsOnly table keys only
  is_only are fits met held = record {
    own = record { own = refl; fits = fits; held = held };
    takes = λ k own. by k own (matches table keys k) refl;
  }
    where
      by : (k : Key) → IsKeyOf table k → (b : Bool) → matches table keys k ≡ b → matches table keys k ≡ is_key only k
      by k own true m = m ∙ sym (ap (is_key only) (sym (same are k own m)) ∙ ap is_eq (tied_itself key_cmp_total only))
      by k own false m = m ∙ other (is_key only k) refl
        where
          is_equal_key : is_eq (Rattle.values.specs.Order.key_cmp only k) ≡ true → only ≡ k
          is_equal_key e = key_cmp-IsAntisymmetric only k (tied (Rattle.values.specs.Order.key_cmp only k) e)
            where
              tied : (o : Rattle.std.specs.declared.cmp.Ordering.Ordering) → is_eq o ≡ true → o ≡ Rattle.std.specs.declared.cmp.Ordering.TheVariants.Equal
              tied o e = is_equal o e

          other : (b : Bool) → is_key only k ≡ b → false ≡ b
          other false e = refl
          other true e = absurd (clash (sym met ∙ ap (matches table keys) (is_equal_key e) ∙ m))

-- ---- one column more

module _ (table : Table) (cs : List Comparison) (place : ℕ) (columns : List ℕ) (within : place < length columns) where
  abbrev joined : Option Value → Option (List Value)
  joined o = elim o [ None ↦ None | Some value ↦ option_map (λ vs. value ∷ vs) (equal_parts table cs (place + 1) (drop (place + 1) columns)) ]

  one_more : equal_parts table cs place (drop place columns) ≡ joined (equal_at table place cs)
  one_more = ap (equal_parts table cs place) (drop_more columns place 0 within)

  pub none_here : None ≡ equal_at table place cs → (parts : List Value) → option_map (λ vs. parts ++ vs) (equal_parts table cs place (drop place columns)) ≡ None
  none_here e parts = ap (option_map (λ vs. parts ++ vs)) (one_more ∙ ap joined (sym e))

  pub one_here : (value : Value) (parts new : List Value) → Some value ≡ equal_at table place cs → new ≡ parts ++ value ∷ []
      → option_map (λ vs. new ++ vs) (equal_parts table cs (place + 1) (drop (place + 1) columns)) ≡ option_map (λ vs. parts ++ vs) (equal_parts table cs place (drop place columns))
  one_here value parts new e is =
      ap (λ l. option_map (λ vs. l ++ vs) rest) is ∙ by rest ∙ sym (ap (option_map (λ vs. parts ++ vs)) (one_more ∙ ap joined (sym e)))
    where
      rest : Option (List Value)
      rest = equal_parts table cs (place + 1) (drop (place + 1) columns)

      by : (o : Option (List Value)) → option_map (λ vs. (parts ++ value ∷ []) ++ vs) o ≡ option_map (λ vs. parts ++ vs) (option_map (λ vs. value ∷ vs) o)
      by None = refl
      by (Some vs) = ap Some (append_assoc parts (value ∷ []) vs)
