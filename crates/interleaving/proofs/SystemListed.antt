-- What a query shows is what the turn lists.
use Rattle.std.proofs.Common.{◌≡◌, ℕ, ◌≤◌, List, Option, Some, None, refl, sym, ap, ◌∙◌, subst, get_or}
use Rattle.std.specs.Option.{option_map}
use Rattle.values.specs.declared.table.Table.{Table}
use Rattle.values.specs.declared.query.Form.{Form}
use Rattle.values.specs.declared.query.Form.TheVariants.{Plain, AsOf, FromTo, Between}
use Rattle.values.specs.declared.query.Keys.{Keys}
use Rattle.values.specs.declared.refusal.Refusal.TheVariants.{NoTable}
use Rattle.values.specs.Tables.{Schema, table_at}
use Rattle.values.specs.TableRules.{IsTable}
use Rattle.values.specs.Log.{Changes}
use Rattle.values.specs.Law.{changes_upto}
use Rattle.values.specs.Versions.{answer}
use Rattle.tsbtree.specs.View.{TreeState, events, last}
use Rattle.staging.specs.View.{Holds}
use Rattle.staging.specs.Own.{WhenRead}
use Rattle.steps.specs.declared.step.Reply.{Reply}
use Rattle.steps.specs.declared.step.Reply.TheVariants.{Refused, Shown}
use Rattle.steps.specs.declared.step.Listing.{Listing}
use Rattle.histories.specs.World.{OpenTransaction, World}
use Rattle.histories.specs.Turn.{listing, select_reply}
use Rattle.interleaving.specs.SystemState.{changes_in, open_of, world_of, IsOpenIn, IsSystem}
use Rattle.transaction.specs.OpenTransactionState.{OpenTransactionState}
use Rattle.transaction.specs.Listing.{as_listing, listing_in}
use Rattle.systime_query.specs.Selection.{WhenShown}
use Rattle.interleaving.proofs.SystemKeeps.{session_is, place_is, upto_now}
use Rattle.interleaving.proofs.SystemWritten.{reads, begun_in}

-- ---- the turn's listing

in_turn : (w : World) (schema : Schema) (b : OpenTransactionState) (table : Table) (form : Form) (keys : Keys) → changes_in schema (events b.view) ≡ changes_upto w.changes (last b.view)
    → listing_in (changes_in schema (events b.view)) b.writes table form keys ≡ listing w (Some (open_of schema b)) form table keys
in_turn w schema b table Plain keys part = refl
in_turn w schema b table (AsOf t) keys part = λ i. as_listing (AsOf t) (answer (part i) table (AsOf t) keys)
in_turn w schema b table (FromTo x y) keys part = λ i. as_listing (FromTo x y) (answer (part i) table (FromTo x y) keys)
in_turn w schema b table (Between x y) keys part = λ i. as_listing (Between x y) (answer (part i) table (Between x y) keys)

of_turn : (w : World) (m : Changes) (table : Table) (form : Form) (keys : Keys) → m ≡ changes_upto w.changes w.latest → as_listing form (answer m table form keys) ≡ listing w None form table keys
of_turn w m table Plain keys part = λ i. as_listing Plain (answer (part i) table Plain keys)
of_turn w m table (AsOf t) keys part = λ i. as_listing (AsOf t) (answer (part i) table (AsOf t) keys)
of_turn w m table (FromTo x y) keys part = λ i. as_listing (FromTo x y) (answer (part i) table (FromTo x y) keys)
of_turn w m table (Between x y) keys part = λ i. as_listing (Between x y) (answer (part i) table (Between x y) keys)

abbrev by_select : World → Form → Keys → Option OpenTransaction → Option Table → Reply
by_select w form keys s t = elim t [ None ↦ Refused NoTable | Some table ↦ Shown (listing w s form table keys) ]

module _ (schema : Schema) (engine : TreeState) (sessions : List (Option OpenTransactionState)) (w : World) (i : ℕ) (table : Table) (form : Form) (keys : Keys) (is : world_of schema engine sessions ≡ w) (there : Some table ≡ table_at schema keys.table) (good : IsTable keys.table table) where
  -- what a session shows with a transaction open
  pub shows_in : (o : Option OpenTransactionState) (b : OpenTransactionState) (l : Listing) → IsSystem schema engine sessions → i ≤ 64 → o ≡ get_or sessions i o → o ≡ Some b
      → WhenRead table b.view b.writes (λ schema m. l ≡ listing_in m b.writes table form keys) → Shown l ≡ select_reply w i form keys
  shows_in o b l s small at some did =
      let here : Some b ≡ get_or sessions i None = sym some ∙ place_is schema engine sessions i o s small at in
      let begun : IsOpenIn schema engine b = begun_in schema engine sessions i b small s here in
      ap Shown (did schema (changes_in schema (events b.view)) (reads schema engine b table keys.table begun there good) ∙ in_turn (world_of schema engine sessions) schema b table form keys begun.part)
      ∙ (λ j. by_select (world_of schema engine sessions) form keys (option_map (open_of schema) (here j)) (there j))
      ∙ (λ j. by_select (world_of schema engine sessions) form keys (sym (session_is schema engine sessions i) j) (table_at schema keys.table))
      ∙ ap (λ w. select_reply w i form keys) is

  -- and with none
  pub shows_now : (o : Option OpenTransactionState) (view : TreeState) (l : Listing) → IsSystem schema engine sessions → i ≤ 64 → o ≡ get_or sessions i o → o ≡ None → view ≡ engine
      → WhenShown view table keys (λ m. l ≡ as_listing form (answer m table form keys)) → Shown l ≡ select_reply w i form keys
  shows_now o view l s small at none sees did =
      let here : None ≡ get_or sessions i None = sym none ∙ place_is schema engine sessions i o s small at in
      ap Shown (did schema (changes_in schema (events engine)) (subst (λ v. Holds schema v (changes_in schema (events engine))) (sym sees) s.held) (ap (table_at schema) good.numbered ∙ sym there) (sym good.numbered)
      ∙ of_turn (world_of schema engine sessions) (changes_in schema (events engine)) table form keys (sym (upto_now schema engine sessions s)))
      ∙ (λ j. by_select (world_of schema engine sessions) form keys (option_map (open_of schema) (here j)) (there j))
      ∙ (λ j. by_select (world_of schema engine sessions) form keys (sym (session_is schema engine sessions i) j) (table_at schema keys.table))
      ∙ ap (λ w. select_reply w i form keys) is
