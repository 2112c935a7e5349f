-- Keys and their bytes are in one order: what events say of a key by its bytes is what changes say of the key.
use Rattle.std.proofs.Common.{◌≡◌, ℕ, List, [], ◌∷◌, Option, Some, None, refl, sym, ap, ◌∙◌, subst, cond, nat_lt, ◌&&◌, All}
use Rattle.std.proofs.lemmas.List.Elements.{All-head, All-tail, All-cons, All-nil}
use Rattle.std.proofs.lemmas.Map.Views.{All-keys-insert_entry}
use Rattle.std.specs.Map.{keys_of}
use Rattle.std.specs.BTreeMap.{insert_entry}
use Rattle.std.specs.Ordering.{nat_cmp, ordering_then, is_eq, match_ordering}
use Rattle.std.specs.declared.cmp.Ordering.{Ordering}
use Rattle.std.specs.declared.cmp.Ordering.TheVariants.{Less, Equal, Greater}
use Rattle.values.specs.Event.{Event}
use Rattle.values.specs.declared.key.Key.{Key}
use Rattle.values.specs.declared.key.Point.{Point}
use Rattle.values.specs.declared.table.Table.{Table}
use Rattle.values.specs.declared.value.Value.{Value}
use Rattle.values.specs.declared.value.Value.TheVariants.{Int, Text, Bool as Truth, Null}
use Rattle.values.specs.Tables.{Schema, table_at}
use Rattle.values.specs.Order.{key_cmp, is_key}
use Rattle.values.specs.Log.{Changes, Net, Row, point_cmp, add_net}
use Rattle.values.specs.ChangedSince.{changed_since, or_else}
use Rattle.values.specs.KeyEncoding.{bytes_of_key}
use Rattle.values.specs.KeyEncodingLaw.{AreKeyParts, IsStorable}
use Rattle.values.specs.KeyReading.{IsKeyOf}
use Rattle.values.specs.RowEncoding.{IsHeld}
use Rattle.values.specs.Events.{bytes_cmp, is_bytes, event_of, events_of, IsKeyOfAny, IsKeyIn, AreChangesIn, AreKeysIn, event_since, put_event, put_net, later}
use Rattle.values.proofs.KeyOrder.{byte_order_is_key_order}
use Rattle.values.proofs.OrderTotal.{point_cmp-IsAntisymmetric}

-- ---- one order

storable : (v : Value) → IsHeld v → IsStorable v
storable (Int n) h = h
storable (Text t) h = tt
storable (Truth t) h = tt
storable Null h = tt

all_storable : (vs : List Value) → All IsHeld vs → All IsStorable vs
all_storable [] h = All-nil IsStorable
all_storable (v ∷ vs) h = All-cons IsStorable v vs (storable v (All-head IsHeld v vs h)) (all_storable vs (All-tail IsHeld v vs h))

parts_of : (table : Table) (k : Key) → IsKeyOf table k → AreKeyParts table k.parts
parts_of table k h = record { fit = h.fits; storable = all_storable k.parts h.held }

one_order : (o p : Option Table) (k l : Key) → (k.table ≡ l.table → o ≡ p) → IsKeyOfAny o k → IsKeyOfAny p l → bytes_cmp (bytes_of_key k) (bytes_of_key l) ≡ key_cmp k l
one_order None p k l same h g = absurd h
one_order (Some t) p k l same h g = byte_order_is_key_order t k l (λ e. (parts_of t k h, parts_of t l (subst (λ x. IsKeyOfAny x l) (sym (same e)) g)))

module _ (schema : Schema) where
  -- the order of their bytes is the order of keys of a schema
  pub same_order : (k l : Key) → IsKeyIn schema k → IsKeyIn schema l → bytes_cmp (bytes_of_key k) (bytes_of_key l) ≡ key_cmp k l
  same_order k l h g = one_order (table_at schema k.table) (table_at schema l.table) k l (λ e. ap (table_at schema) e) h g

  pub same_key : (k l : Key) → IsKeyIn schema k → IsKeyIn schema l → is_bytes (bytes_of_key k) (bytes_of_key l) ≡ is_key k l
  same_key k l h g = ap is_eq (same_order k l h g)

  abbrev In : Point → Type 0
  In p = IsKeyIn schema p.key

  -- ---- the last change since an instant

  chosen : (x : Option ℕ) (y : Option ℕ) → later x y ≡ or_else x y
  chosen None y = refl
  chosen (Some i) y = refl

  pub since_is : (m : Changes) (start : ℕ) (k : Key) → IsKeyIn schema k → AreChangesIn schema m → event_since (events_of m) start (bytes_of_key k) ≡ changed_since m start k
  since_is [] start k h ins = refl
  since_is (c ∷ cs) start k h ins =
      ap (λ x. later x (cond (is_bytes (bytes_of_key k) (bytes_of_key c.0.key) && nat_lt start c.0.instant) (Some c.0.instant) None)) (since_is cs start k h (All-tail In c.0 (keys_of cs) ins))
      ∙ ap (λ b. later (changed_since cs start k) (cond (b && nat_lt start c.0.instant) (Some c.0.instant) None)) (same_key k c.0.key h (All-head In c.0 (keys_of cs) ins))
      ∙ chosen (changed_since cs start k) _

  -- ---- changes that are added

  put_by : (o : Ordering) (p : Point) (row : Option Row) (c : Point × Option Row) (cs : Changes) (rest : Changes) → point_cmp p c.0 ≡ o
      → match_ordering o (event_of (p, row) ∷ event_of c ∷ events_of cs) (event_of (p, row) ∷ events_of cs) (event_of c ∷ events_of rest)
      ≡ events_of (match_ordering o ((p, row) ∷ c ∷ cs) ((c.0, row) ∷ cs) (c ∷ rest))
  put_by Less p row c cs rest e = refl
  put_by Equal p row c cs rest e = ap (λ q. event_of (q, row) ∷ events_of cs) (point_cmp-IsAntisymmetric p c.0 e)
  put_by Greater p row c cs rest e = refl

  pub put_is : (m : Changes) (k : Key) (i : ℕ) (row : Option Row) → IsKeyIn schema k → AreChangesIn schema m
      → put_event (event_of (record { key = k; instant = i }, row)) (events_of m) ≡ events_of (insert_entry point_cmp m (record { key = k; instant = i }) row)
  put_is [] k i row h ins = refl
  put_is (c ∷ cs) k i row h ins =
      (λ j. match_ordering (ordering_then (same_order k c.0.key h (All-head In c.0 (keys_of cs) ins) j) (nat_cmp i c.0.instant)) (e ∷ event_of c ∷ events_of cs) (e ∷ events_of cs) (event_of c ∷ put_is cs k i row h (All-tail In c.0 (keys_of cs) ins) j))
      ∙ put_by (point_cmp p c.0) p row c cs (insert_entry point_cmp cs p row) refl
    where
      p : Point
      p = record { key = k; instant = i }

      e : Event
      e = event_of (p, row)

  pub insert_in : (m : Changes) (k : Key) (i : ℕ) (row : Option Row) → IsKeyIn schema k → AreChangesIn schema m → AreChangesIn schema (insert_entry point_cmp m (record { key = k; instant = i }) row)
  insert_in m k i row h ins = All-keys-insert_entry point_cmp (record { key = k; instant = i }) row In m ins h

  -- what a transaction changes, by keys and by their bytes
  pub put_net_is : (net : Net) (i : ℕ) (m : Changes) → AreKeysIn schema net → AreChangesIn schema m → put_net i net (events_of m) ≡ events_of (add_net i m net)
  put_net_is [] i m h ins = refl
  put_net_is (c ∷ net) i m h ins =
      ap (put_net i net) (put_is m c.0 i c.1 (All-head (IsKeyIn schema) c.0 (keys_of net) h) ins)
      ∙ put_net_is net i _ (All-tail (IsKeyIn schema) c.0 (keys_of net) h) (insert_in m c.0 i c.1 (All-head (IsKeyIn schema) c.0 (keys_of net) h) ins)

  pub add_net_in : (net : Net) (i : ℕ) (m : Changes) → AreKeysIn schema net → AreChangesIn schema m → AreChangesIn schema (add_net i m net)
  add_net_in [] i m h ins = ins
  add_net_in (c ∷ net) i m h ins = add_net_in net i _ (All-tail (IsKeyIn schema) c.0 (keys_of net) h) (insert_in m c.0 i c.1 (All-head (IsKeyIn schema) c.0 (keys_of net) h) ins)
