use Rattle.std.proofs.Common.{ℕ, List, [], All, ap, ◌∙◌, not, subst, sym, map}
use Rattle.std.specs.List.{list_any}
use Rattle.std.specs.List.Sorted.{IsStrictlySortedBy}
use Rattle.std.specs.BTreeSet.{insert_key}
use Rattle.values.specs.declared.key.Key.{Key}
use Rattle.values.specs.declared.table.Table.{Table}
use Rattle.values.specs.Events.{bytes_cmp, is_bytes}
use Rattle.values.specs.KeyEncoding.{bytes_of_key}
use Rattle.values.specs.KeyReading.{IsKeyOf}
use Rattle.values.specs.Writes.{add_keys, key_of}
use Rattle.interchange.specs.declared.key_set.KeySet.{KeySet}
use Rattle.interchange.specs.Insertion.{HasKeys, bytes_in}
use Rattle.interchange.proofs.InsertionCome.{on_value}
use Rattle.interchange.proofs.InsertionKeys.{added_sorted, any_of, any_bytes, added_last, own_inserted, inserted_bytes}
use Rattle.interchange.proofs.key_set.KeySet.add.Goals as goal

in_order : (table : Table) (keys : List Key) (set : KeySet) → HasKeys table keys set → IsStrictlySortedBy bytes_cmp (bytes_in set)
in_order table keys set has = subst (IsStrictlySortedBy bytes_cmp) (sym has.bytes_are) (added_sorted table keys has.of_table)

pub returns-clause-new : goal.returns-clause-new
returns-clause-new c = on_value c.insert.result c.insert.ensures.new (λ is_new told keys has.
    told (in_order c.args.table.now keys c.args.self.now has)
    ∙ ap not (
    ap (λ (b : List ℕ). list_any (is_bytes b) (bytes_in c.args.self.now)) c.in_ok-bytes.ensures.bytes
    ∙ ap (list_any (is_bytes (bytes_of_key (key_of c.args.table.now c.args.row.now)))) has.bytes_are
    ∙ any_bytes c.args.table.now (add_keys keys []) (key_of c.args.table.now c.args.row.now) has.of_table c.in_ok-bytes.ensures.own
    ∙ any_of (key_of c.args.table.now c.args.row.now) keys))

pub returns-clause-added : goal.returns-clause-added
returns-clause-added c = on_value c.insert.result c.insert.ensures.added (λ is_new told keys has. record {
  of_table = subst (All (IsKeyOf c.args.table.now)) (sym (added_last keys [] (key_of c.args.table.now c.args.row.now))) (own_inserted (IsKeyOf c.args.table.now) (add_keys keys []) (key_of c.args.table.now c.args.row.now) has.of_table c.in_ok-bytes.ensures.own);
  bytes_are =
      told (in_order c.args.table.now keys c.args.self.now has)
      ∙ ap (insert_key bytes_cmp (bytes_in c.args.self.now)) c.in_ok-bytes.ensures.bytes
      ∙ ap (λ (l : List (List ℕ)). insert_key bytes_cmp l (bytes_of_key (key_of c.args.table.now c.args.row.now))) has.bytes_are
      ∙ inserted_bytes c.args.table.now (add_keys keys []) (key_of c.args.table.now c.args.row.now) has.of_table c.in_ok-bytes.ensures.own
      ∙ ap (map bytes_of_key) (sym (added_last keys [] (key_of c.args.table.now c.args.row.now)));
})
