use Rattle.std.proofs.Common.{◌≡◌, Some, None, All, sym, ap, subst, ◌∙◌}
use Rattle.std.proofs.lemmas.List.Elements.{All-weaker}
use Rattle.values.specs.KeyEncoding.{IsShortKey}
use Rattle.values.specs.KeyReading.{IsKeyOf}
use Rattle.values.specs.Writes.{duplicate, overlapping}
use Rattle.values.specs.Events.{IsKeyIn}
use Rattle.staging.specs.Own.{rows_seen, own}
use Rattle.staging.specs.Staged.{insertions}
use Rattle.staging.proofs.ViewBridge.{key_in}
use Rattle.staging.proofs.StagedEntries.{sorted_from}
use Rattle.staging.proofs.StagedAnswered.{short_keys, inserted_entries, duplicate_is, insert_duplicate, insert_overlap, insert_done, keys_after}
use Rattle.staging.proofs.staged.Staged.insert.Goals as goal

pub first_seen-requires : goal.first_seen-requires
first_seen-requires c = subst (All IsShortKey) (sym c.deref.ensures.value) (short_keys c.args.table.now c.in_ok-keys.keys.items c.requires.good c.in_ok-keys.ensures.own)

pub returns-in-Some-clause-answers : goal.returns-in-Some-clause-answers
returns-in-Some-clause-answers c = λ schema m reads ok.
    let found : duplicate c.args.table.now c.args.rows.now (rows_seen m c.args.self.now) ≡ Some c.in-Some.key =
    sym (
    duplicate_is schema c.args.table.now c.args.view.now c.last.result m c.args.self.now c.args.rows.now c.deref.result.now reads c.last.ensures.ordered c.last.ensures.upto c.in_ok-key.ensures.ordered (c.deref.ensures.value ∙ c.in_ok-keys.ensures.ok)
    (subst (All (IsKeyOf c.args.table.now)) (sym c.deref.ensures.value) c.in_ok-keys.ensures.own)
    )
    ∙ sym c.in_ok-key.ensures.ok
    ∙ c.in-Some.is in
    insert_duplicate c.args.table.now c.args.rows.now (own m c.args.self.now) c.in-Some.key found

pub first_overlap-requires-clause-own : goal.first_overlap-requires-clause-own
first_overlap-requires-clause-own c = subst (All (IsKeyOf c.args.table.now)) (sym c.deref-2.ensures.value) c.in_ok-keys.ensures.own

pub first_overlap-requires-clause-keys : goal.first_overlap-requires-clause-keys
first_overlap-requires-clause-keys c = c.deref-2.ensures.value ∙ c.in_ok-keys.ensures.ok

pub returns-in-Some-2-clause-answers : goal.returns-in-Some-2-clause-answers
returns-in-Some-2-clause-answers c = λ schema m reads ok.
    let none : duplicate c.args.table.now c.args.rows.now (rows_seen m c.args.self.now) ≡ None =
    sym (
    duplicate_is schema c.args.table.now c.args.view.now c.last.result m c.args.self.now c.args.rows.now c.deref.result.now reads c.last.ensures.ordered c.last.ensures.upto c.in_ok-key.ensures.ordered (c.deref.ensures.value ∙ c.in_ok-keys.ensures.ok)
    (subst (All (IsKeyOf c.args.table.now)) (sym c.deref.ensures.value) c.in_ok-keys.ensures.own)
    )
    ∙ sym c.in_ok-key.ensures.ok
    ∙ c.in_default.is in
    insert_overlap c.args.table.now c.args.rows.now (own m c.args.self.now) c.in-Some-2.key none (sym (c.in_ok-key-2.ensures.ok schema m reads) ∙ c.in-Some-2.is)

pub put-requires : goal.put-requires
put-requires c =
    subst (All (λ w. IsShortKey w.0)) (sym c.in_ok-changes.ensures)
    (inserted_entries IsShortKey c.in_ok-keys.keys.items c.args.rows.now (short_keys c.args.table.now c.in_ok-keys.keys.items c.requires.good c.in_ok-keys.ensures.own))

pub returns-clause-answers : goal.returns-clause-answers
returns-clause-answers c = λ schema m reads ok.
    let none : duplicate c.args.table.now c.args.rows.now (rows_seen m c.args.self.now) ≡ None =
    sym (
    duplicate_is schema c.args.table.now c.args.view.now c.last.result m c.args.self.now c.args.rows.now c.deref.result.now reads c.last.ensures.ordered c.last.ensures.upto c.in_ok-key.ensures.ordered (c.deref.ensures.value ∙ c.in_ok-keys.ensures.ok)
    (subst (All (IsKeyOf c.args.table.now)) (sym c.deref.ensures.value) c.in_ok-keys.ensures.own)
    )
    ∙ sym c.in_ok-key.ensures.ok
    ∙ c.in_default.is in
    let free : overlapping c.args.table.now c.args.rows.now (rows_seen m c.args.self.now) ≡ None = sym (c.in_ok-key-2.ensures.ok schema m reads) ∙ c.in_default-2.is in
    insert_done c.args.table.now c.args.rows.now m c.args.self.now c.put.new.self c.put.result c.in_ok-changes.changes.items none free (c.in_ok-changes.ensures ∙ ap (λ ks. insertions ks c.args.rows.now) c.in_ok-keys.ensures.ok)
    (sorted_from c.args.self.now c.put.ensures.ordered) (c.put.ensures.answer ok) c.put.ensures.ok c.put.ensures.err

pub returns-clause-keys : goal.returns-clause-keys
returns-clause-keys c = λ schema m reads.
    keys_after schema c.in_ok-changes.changes.items c.args.self.now c.put.new.self c.put.result c.put.ensures.ok c.put.ensures.err reads.keys
    (subst (All (λ w. IsKeyIn schema w.0)) (sym c.in_ok-changes.ensures)
    (inserted_entries (IsKeyIn schema) c.in_ok-keys.keys.items c.args.rows.now
    (All-weaker (IsKeyOf c.args.table.now) (IsKeyIn schema) (λ k h. key_in schema c.args.table.now k reads.is_table h) c.in_ok-keys.keys.items c.in_ok-keys.ensures.own)))
