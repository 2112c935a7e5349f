-- What holds of each row holds of each after net changes.
use Rattle.std.proofs.Common.{◌≡◌, Bool, true, false, cond, List, [], ◌∷◌, Option, Some, None, is_some, refl, sym, subst}
use Rattle.std.specs.Prelude.{◌||◌}
use Rattle.std.specs.BTreeMap.{is_at}
use Rattle.std.specs.Map.{remove_entry}
use Rattle.values.specs.declared.key.Key.{Key}
use Rattle.values.specs.Order.{key_cmp, is_key}
use Rattle.values.specs.Log.{State, Row, Net, row_at, set_row, apply_net}
use Rattle.values.specs.Each.{Each}
use Rattle.values.specs.Writes.{net_of}
use Rattle.periods.proofs.NoOverlapApart.{one_key}
use Rattle.periods.proofs.NoOverlapPieces.{each_inserted}

each_removed : (P : (Key × Row) → Type 0) (k : Key) (m : State) → Each P m → Each P (remove_entry (is_at (key_cmp k)) m)
each_removed P k [] e = tt
each_removed P k (x ∷ m) e = by (is_key k x.0) (each_removed P k m e.1)
  where
    by : (b : Bool) → Each P (remove_entry (is_at (key_cmp k)) m) → Each P (cond b m (x ∷ remove_entry (is_at (key_cmp k)) m))
    by true rest = e.1
    by false rest = (e.0, rest)

each_set : (P : (Key × Row) → Type 0) (k : Key) (v : Option Row) (m : State) → ((row : Row) → v ≡ Some row → P (k, row)) → Each P m → Each P (set_row k v m)
each_set P k (Some row) m new e = each_inserted P m k row (new row refl) e
each_set P k None m new e = each_removed P k m e

-- it holds of the rows that net changes leave
abbrev pub EachNew : ((Key × Row) → Type 0) → Net → Type 0
EachNew P net = Each (λ c. (row : Row) → c.1 ≡ Some row → P (c.0, row)) net

pub each_net : (P : (Key × Row) → Type 0) (net : Net) (m : State) → EachNew P net → Each P m → Each P (apply_net m net)
each_net P [] m new e = e
each_net P (c ∷ net) m new e = each_net P net (set_row c.0 c.1 m) new.1 (each_set P c.0 c.1 m new.0 e)

each_found : (P : (Key × Row) → Type 0) (m : State) (k : Key) (row : Row) → Each P m → row_at m k ≡ Some row → P (k, row)
each_found P [] k row e at = cc
each_found P (x ∷ m) k row e at = by (is_key k x.0) refl at (λ at. each_found P m k row e.1 at)
  where
    the_row : (r s : Row) → ◌≡◌ {A = Option Row} (Some r) (Some s) → r ≡ s
    the_row r s e = cc

    by : (b : Bool) → is_key k x.0 ≡ b → cond b (Some x.1) (row_at m k) ≡ Some row → (row_at m k ≡ Some row → P (k, row)) → P (k, row)
    by true is at rest = subst P (λ i. (sym (one_key k x.0 is) i, the_row x.1 row at i)) e.0
    by false is at rest = rest at

pub new_of_net : (P : (Key × Row) → Type 0) (seen mine : State) (keys : List Key) → Each P mine → EachNew P (net_of seen mine keys)
new_of_net P seen mine [] e = tt
new_of_net P seen mine (k ∷ ks) e = by (is_some (row_at mine k) || is_some (row_at seen k)) (new_of_net P seen mine ks e)
  where
    by : (b : Bool) → EachNew P (net_of seen mine ks) → EachNew P (cond b ((k, row_at mine k) ∷ net_of seen mine ks) (net_of seen mine ks))
    by true rest = ((λ row at. each_found P mine k row e at), rest)
    by false rest = rest
