-- Events out of a search range begin no row that the search condition takes.
use Rattle.std.proofs.Common.{◌≡◌, ℕ, Bool, true, false, cond, ◌&&◌, List, [], ◌∷◌, Option, Some, None, refl, sym, ap, ◌∙◌, arith, filter, filter_map, ◌==◌}
use Rattle.std.proofs.lemmas.Bool.Decides.{nat_tests}
use Rattle.std.proofs.lemmas.List.Elements.{All-head, All-tail}
use Rattle.std.specs.Option.{option_map}
use Rattle.std.specs.List.{cons_option, flat_map, AllByRecursion}
use Rattle.std.specs.Map.{keys_of}
use Rattle.values.specs.Event.{Event}
use Rattle.values.specs.declared.key.Key.{Key}
use Rattle.values.specs.declared.key.Point.{Point}
use Rattle.values.specs.declared.table.Table.{Table}
use Rattle.values.specs.declared.query.Keys.{Keys}
use Rattle.values.specs.Log.{Changes, Row}
use Rattle.values.specs.Tables.{Schema, table_at}
use Rattle.values.specs.Versions.{matches}
use Rattle.values.specs.KeyEncoding.{bytes_of_key, part_bytes}
use Rattle.values.specs.KeyReading.{IsKeyOf, key_from, whole_key, parts_from}
use Rattle.values.specs.Events.{event_of, events_of, IsKeyIn, AreChangesIn}
use Rattle.values.proofs.KeyReads.{key_back}
use Rattle.keyrange.specs.declared.range.KeyRange.{KeyRange}
use Rattle.keyrange.specs.Range.{is_key_in}
use Rattle.eventlist.specs.Listing.{stands_at}
use Rattle.searchrange.specs.SearchRange.{range_of_table, Covers, IsWithin}
use Rattle.searchrange.specs.Search.{IsInSearch}
use Rattle.searchrange.proofs.SearchOwn.{own_number}
use Rattle.staging.proofs.ViewKeyTable.{is_of_table}
use Rattle.staging.proofs.ViewBridge.{own_key}
use Rattle.searchrange.specs.Search.{entry_taken}

clash : ◌≡◌ {A = Bool} true false → ⊥
clash h = cc

same : {A : Type 0} (x y : A) → Some x ≡ Some y → x ≡ y
same x y h = cc

no_key : {A : Type 0} (k : A) → None ≡ Some k → ⊥
no_key k h = cc

-- no key of the bytes is taken
abbrev pub IsOut : Table → Keys → List ℕ → Type 0
IsOut table keys bytes = (k : Key) → key_from table bytes ≡ Some k → matches table keys k ≡ false

equal : (a b : ℕ) → (a == b) ≡ true → a ≡ b
equal a b e = grind (arith, nat_tests)

module _ (schema : Schema) (table : Table) (keys : Keys) (range : KeyRange) (covers : Covers table keys range) (is_table : table_at schema table.number ≡ Some table) where
  one_out : (key : Key) → IsKeyIn schema key → is_key_in range (bytes_of_key key) ≡ false → IsOut table keys (bytes_of_key key)
  one_out key own out k from = by (key.table == table.number) refl
    where
      by : (b : Bool) → (key.table == table.number) ≡ b → matches table keys k ≡ false
      by true is = taken (matches table keys key) refl
        where
          is_key : IsKeyOf table key
          is_key = own_key schema table key is_table (equal key.table table.number is) own

          it : key ≡ k
          it = same key k (sym (key_back table key is_key) ∙ from)

          taken : (b : Bool) → matches table keys key ≡ b → matches table keys k ≡ false
          taken true m = absurd (clash (sym (covers key is_key m) ∙ out))
          taken false m = sym (ap (matches table keys) it) ∙ m
      by false is = absurd (no_key k (sym (ap (λ b. cond b (whole_key table (parts_from table table.key (flat_map part_bytes key.parts))) None) is) ∙ from))

  -- of the events that stand for changes
  pub out_of_range : (m : Changes) → AreChangesIn schema m → AllByRecursion (λ e. is_key_in range e.key ≡ false → IsOut table keys e.key) (events_of m)
  out_of_range [] h = tt
  out_of_range (c ∷ cs) h =
      (one_out c.0.key (All-head (λ (p : Point). IsKeyIn schema p.key) c.0 (keys_of cs) h), out_of_range cs (All-tail (λ (p : Point). IsKeyIn schema p.key) c.0 (keys_of cs) h))

-- ---- rows

module _ (table : Table) (keys : Keys) where
  pub no_row : (e : Event) → IsOut table keys e.key → entry_taken table keys e ≡ None
  no_row e out = by (key_from table e.key) refl
    where
      by : (o : Option Key) → key_from table e.key ≡ o → ◌≡◌ {A = Option (Key × Row)} (elim o [ None ↦ None | Some k ↦ cond (matches table keys k) (option_map (λ row. (k, row)) e.row) None ]) None
      by None is = refl
      by (Some k) is = ap (λ b. cond b (option_map (λ row. (k, row)) e.row) None) (out k is)

  -- events of another table
  pub other_table : (e : Event) → is_of_table table.number e.key ≡ false → IsOut table keys e.key
  other_table e h = by e.key h
    where
      by : (bytes : List ℕ) → is_of_table table.number bytes ≡ false → IsOut table keys bytes
      by [] h k from = absurd (no_key k from)
      by (b ∷ bytes) h k from = absurd (no_key k (sym (ap (λ c. cond c (whole_key table (parts_from table table.key bytes)) None) h) ∙ from))

  pub others : (ds : List Event) → AllByRecursion (λ e. is_of_table table.number e.key ≡ false → IsOut table keys e.key) ds
  others [] = tt
  others (e ∷ ds) = (other_table e, others ds)

  -- a test that leaves out such events alone leaves out no row
  pub narrowed : (p : List ℕ → Bool) (t : ℕ) (es ds : List Event) → AllByRecursion (λ e. p e.key ≡ false → IsOut table keys e.key) ds
      → filter_map (entry_taken table keys) (filter (λ e. p e.key && stands_at es t e) ds) ≡ filter_map (entry_taken table keys) (filter (stands_at es t) ds)
  narrowed p t es [] h = refl
  narrowed p t es (e ∷ ds) h = by (p e.key) refl (narrowed p t es ds h.1)
    where
      before : List Event
      before = filter (λ e. p e.key && stands_at es t e) ds

      after : List Event
      after = filter (stands_at es t) ds

      by : (b : Bool) → p e.key ≡ b → filter_map (entry_taken table keys) before ≡ filter_map (entry_taken table keys) after
          → filter_map (entry_taken table keys) (cond (p e.key && stands_at es t e) (e ∷ before) before) ≡ filter_map (entry_taken table keys) (cond (stands_at es t e) (e ∷ after) after)
      by true is rest = ap (λ b. filter_map (entry_taken table keys) (cond (b && stands_at es t e) (e ∷ before) before)) is ∙ kept (stands_at es t e)
        where
          kept : (s : Bool) → filter_map (entry_taken table keys) (cond s (e ∷ before) before) ≡ filter_map (entry_taken table keys) (cond s (e ∷ after) after)
          kept true = ap (cons_option (entry_taken table keys e)) rest
          kept false = rest
      by false is rest = ap (λ b. filter_map (entry_taken table keys) (cond (b && stands_at es t e) (e ∷ before) before)) is ∙ rest ∙ sym (dropped (stands_at es t e))
        where
          dropped : (s : Bool) → filter_map (entry_taken table keys) (cond s (e ∷ after) after) ≡ filter_map (entry_taken table keys) after
          dropped true = ap (λ o. cons_option o (filter_map (entry_taken table keys) after)) (no_row e (h.0 is))
          dropped false = refl

-- ---- events in a search range are of the table

module _ (schema : Schema) (table : Table) (range : KeyRange) (within : IsWithin range (range_of_table table.number)) (is_table : table_at schema table.number ≡ Some table) where
  own_in : (key : Key) → IsKeyIn schema key → is_key_in range (bytes_of_key key) ≡ true → IsInSearch table range (bytes_of_key key)
  own_in key own inside small = record {
    key = key;
    own = record { is_key = own_key schema table key is_table (own_number table.number key.table (flat_map part_bytes key.parts) small (within (bytes_of_key key) inside)) own; bytes_are = refl };
    inside = inside;
  }

  -- what a test lets pass of the events that stand for changes, if it lets none pass out of the range
  pub in_search : (test : Event → Bool) → ((e : Event) → test e ≡ true → is_key_in range e.key ≡ true) → (m : Changes) → AreChangesIn schema m → AllByRecursion (λ e. IsInSearch table range e.key) (filter test (events_of m))
  in_search test inside [] h = tt
  in_search test inside (c ∷ cs) h = by (test (event_of c)) refl (in_search test inside cs (All-tail (λ (p : Point). IsKeyIn schema p.key) c.0 (keys_of cs) h))
    where
      rest : List Event
      rest = filter test (events_of cs)

      by : (b : Bool) → test (event_of c) ≡ b → AllByRecursion (λ e. IsInSearch table range e.key) rest → AllByRecursion (λ e. IsInSearch table range e.key) (cond b (event_of c ∷ rest) rest)
      by true is more = (own_in c.0.key (All-head (λ (p : Point). IsKeyIn schema p.key) c.0 (keys_of cs) h) (inside (event_of c) is), more)
      by false is more = more
