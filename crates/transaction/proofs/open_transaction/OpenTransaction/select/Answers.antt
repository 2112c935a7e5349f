use Rattle.std.proofs.Common.{◌∙◌, ap, inl, inr}
use Rattle.systime_query.proofs.staging.StagedTaken.{wide_by}
use Rattle.transaction.proofs.ListingShown.{past_shown, is_plain, plain_shown}
use Rattle.transaction.proofs.open_transaction.OpenTransaction.select.Goals as goal

pub returns-in_ok-rows_of-in-Plain-clause-ok : goal.returns-in_ok-rows_of-in-Plain-clause-ok
returns-in_ok-rows_of-in-Plain-clause-ok g c =
    let search = c.in_ok-search-in-Plain.search in
    plain_shown _ c.args.self.now c.args.keys.table.now c.args.form c.args.keys.keys.now c.in_ok-found-in-Plain.found.items c.new-in-Plain.result c.self.view_is c.in-Plain.is (c.new-in-Plain.ensures ∙ c.in_ok-rows_of-in-Plain.ensures.ok)
    (wide_by _ _ c.in_ok-found-in-Plain.found.items search.table c.args.keys.table.now search.keys c.args.keys.keys.now c.in_ok-search-in-Plain.ensures.table c.in_ok-search-in-Plain.ensures.keys c.in_ok-found-in-Plain.ensures.ok)

pub returns-in-AsOf : goal.returns-in-AsOf
returns-in-AsOf g c = record {
  ok = past_shown c.listing_of.result _ c.args.self.now c.args.keys.table.now c.args.form c.args.keys.keys.now c.self.view_is c.args.keys.own
      (elim c.in-AsOf.is [ inl h ↦ ap is_plain h.1 | inr (inl h) ↦ ap is_plain h.2 | inr (inr h) ↦ ap is_plain h.2 ]) c.listing_of.ensures.ok;
  memory = c.listing_of.ensures.memory;
}
