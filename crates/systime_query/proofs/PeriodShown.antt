-- The version that an event begins, where its row is taken and its time selected.
use Rattle.std.proofs.Common.{◌≡◌, ℕ, Bool, true, false, ◌&&◌, Option, Some, None, sym, ap, ◌∙◌, if◌then◌else◌}
use Rattle.std.specs.Option.{option_map}
use Rattle.values.specs.Event.{Event}
use Rattle.values.specs.Log.{Row}
use Rattle.values.specs.Tables.{full_row}
use Rattle.values.specs.Versions.{selects}
use Rattle.values.specs.declared.table.Table.{Table}
use Rattle.values.specs.declared.query.Form.{Form}
use Rattle.values.specs.declared.query.Keys.{Keys}
use Rattle.values.specs.declared.query.Shown.{Shown}
use Rattle.searchrange.specs.Search.{is_taken, row_taken}
use Rattle.systime_query.specs.Selection.{shown_of}

same : {A : Type 0} (x y : A) → Some x ≡ Some y → x ≡ y
same x y h = cc

pub shown_is : (table : Table) (form : Form) (keys : Keys) (e : Event) (end : Option ℕ) (own : Row) (start : ℕ) → selects form start end ≡ true → start ≡ e.at → Some own ≡ row_taken table keys e
    → ◌≡◌ {A = Option Shown} (Some (record { row = own; from = start; to = end })) (shown_of table form keys e end)
shown_is table form keys e end own start selected at taken = by e.row (is_taken table keys e.key) taken (ap (λ t. selects form t end) (sym at) ∙ selected)
  where
    by : (o : Option Row) (b : Bool) → Some own ≡ (if b then option_map (full_row table) o else None) → selects form e.at end ≡ true
        → ◌≡◌ {A = Option Shown} (Some (record { row = own; from = start; to = end })) (elim o [ None ↦ None | Some r ↦ if selects form e.at end && b then Some (record { row = full_row table r; from = e.at; to = end }) else None ])
    by None true h s = cc
    by None false h s = cc
    by (Some r) false h s = cc
    by (Some r) true h s =
        (λ i. Some (record { row = same own (full_row table r) h i; from = at i; to = end }))
        ∙ ap (λ (b : Bool). if b && true then Some (record { row = full_row table r; from = e.at; to = end }) else None) (sym s)
