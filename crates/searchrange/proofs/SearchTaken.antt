-- What a search takes: where each key of its range meets the condition, each is taken.
use Rattle.std.proofs.Common.{◌≡◌, ℕ, ◌<◌, List, Bool, true, false, Option, Some, None, sym, ap, ◌∙◌, arith, nat_lt, if◌then◌else◌}
use Rattle.std.proofs.lemmas.Bool.{and_parts}
use Rattle.std.proofs.lemmas.Bool.Decides.{nat_tests}
use Rattle.std.specs.Option.{option_map}
use Rattle.values.specs.Event.{Event}
use Rattle.values.specs.Log.{Row}
use Rattle.values.specs.declared.key.Key.{Key}
use Rattle.values.specs.declared.table.Table.{Table}
use Rattle.values.specs.declared.query.Keys.{Keys}
use Rattle.values.specs.Versions.{matches}
use Rattle.values.specs.KeyReading.{key_from}
use Rattle.values.proofs.KeyReads.{key_back}
use Rattle.keyrange.specs.declared.range.KeyRange.{KeyRange}
use Rattle.keyrange.specs.Range.{is_key_in}
use Rattle.searchrange.specs.SearchRange.{all_narrow, TakesAll}
use Rattle.searchrange.specs.Search.{IsOwnKey, range_says_all, entry_taken, is_taken, key_taken}

-- no range of table 255 says all
pub before_255 : (table : Table) (keys : Keys) (b : Bool) → b ≡ range_says_all table keys → b ≡ true → table.number < 255
before_255 table keys b known is = below table.number (and_parts (nat_lt table.number 255) (all_narrow table keys.comparisons) (sym known ∙ is)).0
  where
    below : (n : ℕ) → nat_lt n 255 ≡ true → n < 255
    below n e = grind (arith, nat_tests)

module _ (table : Table) (keys : Keys) (range : KeyRange) (bytes : List ℕ) (all : TakesAll table keys range) (h : IsOwnKey table range bytes) where
  read : key_from table bytes ≡ Some h.key
  read = ap (key_from table) (sym h.own.bytes_are) ∙ key_back table h.key h.own.is_key

  met : matches table keys h.key ≡ true
  met = all h.key h.own.is_key (ap (is_key_in range) h.own.bytes_are ∙ h.inside)

  pub all_taken : true ≡ is_taken table keys bytes
  all_taken = sym ((λ i. elim (read i) [ None ↦ false | Some key ↦ matches table keys key ]) ∙ met)

  pub key_is_taken : (key : Key) → Some key ≡ key_from table bytes → Some key ≡ key_taken table keys bytes
  key_is_taken key is =
      is ∙ read
      ∙ sym ((λ i. elim (read i) [ None ↦ None | Some key ↦ if matches table keys key then Some key else None ]) ∙ ap (λ (b : Bool). if b then Some h.key else None) met)

same : {A : Type 0} (x y : A) → Some x ≡ Some y → x ≡ y
same x y h = cc

-- a key before a row, if there is one
abbrev pub before_row : Key → Option Row → Option (Key × Row)
before_row key o = option_map (λ row. (key, row)) o

-- a key that is taken, before the event's row
pub entry_is : (table : Table) (keys : Keys) (e : Event) (key : Key) → Some key ≡ key_taken table keys e.key → before_row key e.row ≡ entry_taken table keys e
entry_is table keys e key h = by (key_from table e.key) h
  where
    by : (o : Option Key) → Some key ≡ elim o [ None ↦ None | Some k ↦ if matches table keys k then Some k else None ]
        → before_row key e.row ≡ elim o [ None ↦ None | Some k ↦ if matches table keys k then option_map (λ row. (k, row)) e.row else None ]
    by None h = cc
    by (Some k) h = inner (matches table keys k) h
      where
        inner : (b : Bool) → Some key ≡ (if b then Some k else None) → before_row key e.row ≡ (if b then before_row k e.row else None)
        inner true h = ap (λ k. before_row k e.row) (same key k h)
        inner false h = cc
