use Rattle.std.proofs.Common.{◌≡◌, ◌<◌, length, IfSome, refl, sym, subst, arith, ap, ◌∙◌}
use Rattle.values.specs.Tables.{table_at, widest}
use Rattle.values.specs.TableRules.{AreTables}
use Rattle.values.specs.Columns.{add_column}
use Rattle.values.proofs.ColumnsTables.{added_are_tables, added_in_place, added_nowhere}
use Rattle.values.proofs.schema.Schema.add_column.Goals as goal
use Rattle.values.proofs.schema.Schema.add_column.Goals.{Joined-get_mut, in-Some+in_ok-push, in_default+in-Long-1, in_default+in-Short-1}

-- the tables afterwards
tables_are : (c : Joined-get_mut) → c.match-get_mut.self-inside.tables.items ≡ (add_column c.args.number c.args.column (record { tables = c.self.inside.tables.items })).tables
tables_are c =
    elim c.match-get_mut.branch [
      | in-Some+in_ok-push w ↦
          ap (λ s. s.tables.items) w.self-inside-is
          ∙ added_in_place c.self.inside.tables.items c.args.number c.args.column w.in-Some.table.now w.push.new.self c.if-number-eq0.false (omega (arith, c.self.inside.tables.ok.0, w.in-Some.ensures.variant.0 refl)) w.in-Some.ensures.value w.in_ok-push.ensures.ok
      | in_default+in-Long-1 w ↦
          ap (λ s. s.tables.items) w.self-inside-is
          ∙ added_nowhere c.self.inside.tables.items c.args.number c.args.column (λ lt. let never = w.in_default.ensures.variant.1 (omega (arith, c.self.inside.tables.ok.0, lt)) in cc)
      | in_default+in-Short-1 w ↦
          ap (λ s. s.tables.items) w.self-inside-is
          ∙ added_nowhere c.self.inside.tables.items c.args.number c.args.column (λ lt. let never = w.in_default.ensures.variant.1 (omega (arith, c.self.inside.tables.ok.0, lt)) in cc)
    ]

pub invariant_of-self-2 : goal.invariant_of-self-2
invariant_of-self-2 c =
    subst (AreTables 1) (sym (tables_are c))
    (added_are_tables (record { tables = c.self.inside.tables.items }) c.args.number c.args.column
    (subst (λ s. IfSome (table_at s c.args.number) (λ t. length t.columns < widest)) (sym c.self.view_is) c.requires) c.self.invariant)

pub returns-clause-ok : goal.returns-clause-ok
returns-clause-ok c =
    ap (λ ts. record { tables = ts }) (tables_are c)
    ∙ ap (add_column c.args.number c.args.column) c.self.view_is
