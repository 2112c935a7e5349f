use Rattle.std.proofs.Common.{rules, ◌≡◌, [], ap, subst, ◌∙◌}
use Rattle.std.proofs.lemmas.Result.{IfOk-weaker}
use Rattle.std.specs.List.{cons_option}
use Rattle.std.specs.Option.{option_map}
use Rattle.values.specs.declared.table.Table.{Table}
use Rattle.values.specs.declared.query.Form.TheVariants.{AsOf}
use Rattle.values.specs.Events.{row_until}
use Rattle.values.specs.KeyEncoding.{bytes_of_key}
use Rattle.values.specs.Law.{shown_rows}
use Rattle.values.specs.Tables.{full_row}
use Rattle.keyrange.specs.Range.{is_key_in}
use Rattle.eventlist.specs.Listing.{standing}
use Rattle.searchrange.specs.SearchRange.{range_of_table, Covers, IsWithin}
use Rattle.staging.specs.tsbtree.View.{events}
use Rattle.systime_query.specs.Selection.{WhenShown}
use Rattle.systime_query.proofs.StandingOne.{one_at}
use Rattle.systime_query.proofs.StandingRows.{shown_at}
use Rattle.systime_query.proofs.standing.rows_at.Goals as goal

pub returns-in-Some-clause-ok : goal.returns-in-Some-clause-ok
returns-in-Some-clause-ok g c =
    let s = c.args.search.now in
    let row = row_until (events c.args.view.now) (bytes_of_key c.in-Some.key.now) c.args.instant in
    IfOk-weaker c.row_at.result (λ v. v.items ≡ cons_option (option_map (full_row c.table.result.now) row) [])
    (λ v. WhenShown c.args.view.now s.table s.keys (λ m. v.items ≡ shown_rows m s.table (AsOf c.args.instant) s.keys))
    (λ v is.
    one_at c.args.view.now s.table s.keys c.in-Some.key.now v.items (search rules) c.row_at.ensures.ordered c.args.instant
    (is ∙ ap (λ (t : Table). cons_option (option_map (full_row t) row) []) c.table.ensures.table)) c.row_at.ensures.ok

pub returns-clause-ok : goal.returns-clause-ok
returns-clause-ok g c =
    let s = c.args.search.now in
    shown_at c.args.view.now s.table s.keys c.in_ok-rows_shown.field-0.items c.deref.result.now s.range c.args.instant (record {
      sorted = c.in_ok-standing.ensures.ordered;
      rows_are = c.in_ok-rows_shown.ensures.ok;
      stand = c.deref.ensures.value ∙ c.in_ok-standing.ensures.ok ∙ ap (λ r. standing (events c.args.view.now) (is_key_in r) c.args.instant) c.in_ok-range.ensures.range;
      covers = subst (Covers s.table s.keys) c.in_ok-range.ensures.range c.in_ok-range.ensures.covers;
      within = subst (λ r. IsWithin r (range_of_table s.table.number)) c.in_ok-range.ensures.range c.in_ok-range.ensures.within;
    })
