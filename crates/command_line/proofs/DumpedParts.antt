-- What is left of a system that stands for a history, and what its dump is.
use Rattle.std.proofs.Common.{◌≡◌, ap, subst, sym, ◌∙◌}
use Rattle.values.specs.Events.{AreChangesIn, events_of}
use Rattle.values.specs.Log.{changes}
use Rattle.values.specs.Tables.{Schema}
use Rattle.sessions.specs.staging.View.{Holds}
use Rattle.sessions.specs.tsbtree.View.{TreeState, events}
use Rattle.histories.specs.History.{History, log}
use Rattle.interleaving.specs.SystemState.{Stands, SystemState, changes_in}
use Rattle.command_line.specs.declared.dumped.Left.{Left}
use Rattle.command_line.specs.Dumped.{IsLeftBy, tree_of}

-- a system with these tables and this tree is left as it stands
pub left_as_it_stands : (s : SystemState) (schema : Schema) (engine : TreeState) (left : Left) → schema ≡ s.schema → engine ≡ s.engine → left.tables ≡ schema → tree_of left.store ≡ engine
    → Holds schema engine (changes_in schema (events engine)) → (first : Schema) (h : History) → Stands first s h → IsLeftBy first h left
left_as_it_stands s schema engine left of_schema of_engine tables tree holds first h stands = record {
  tables_are = tables ∙ (of_schema ∙ stands.schema_is);
  holds = record {
    events_are = ap events tree ∙ (holds.events_are ∙ ap events_of same);
    keys = subst (λ t. AreChangesIn t (changes (log first h))) (sym tables) (subst (AreChangesIn schema) same holds.keys);
  };
}
  where
    same : changes_in schema (events engine) ≡ changes (log first h)
    same = ap (λ t. changes_in t (events engine)) of_schema ∙ (ap (λ e. changes_in s.schema (events e)) of_engine ∙ stands.changes_are)
