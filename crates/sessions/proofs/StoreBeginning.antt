-- A store that begins with nothing.
use Rattle.std.proofs.Common.{◌≡◌, ℕ, [], sym, ap, ◌∙◌, subst}
use Rattle.std.specs.List.Sorted.{IsStrictlySortedBy}
use Rattle.std.proofs.lemmas.List.Elements.{All-nil}
use Rattle.values.specs.declared.key.Point.{Point}
use Rattle.values.specs.Tables.{Schema}
use Rattle.values.specs.Log.{changes, last as last_of, point_cmp}
use Rattle.values.specs.Events.{IsKeyIn}
use Rattle.growlog.specs.Origin.{Origin}
use Rattle.book.specs.staging.View.{Holds}
use Rattle.book.specs.tsbtree.View.{TreeState, last, IsEmpty}

sorted_nil : IsStrictlySortedBy point_cmp []
unfolding IsStrictlySortedBy
sorted_nil = tt

module _ (o : Origin) (schema : Schema) (most : ℕ) (engine : TreeState) (is : o ≡ record { schema = schema; log = []; most_entries = most }) (empty : IsEmpty engine) where
  pub tables : schema ≡ o.schema
  tables = sym (ap (λ (o : Origin). o.schema) is)

  pub most_is : most ≡ o.most_entries
  most_is = sym (ap (λ (o : Origin). o.most_entries) is)

  pub holds : Holds o.schema engine (changes o.log)
  holds = subst (λ (o : Origin). Holds o.schema engine (changes o.log)) (sym is) (record { events_are = empty.no_event; keys = All-nil (λ (p : Point). IsKeyIn schema p.key); in_order = sorted_nil })

  pub clock : last engine ≡ last_of o.log
  clock = empty.no_commit ∙ sym (ap (λ (o : Origin). last_of o.log) is)
