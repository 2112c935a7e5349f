-- What a step's clauses say, where it took its turn or changed nothing.
use Rattle.std.proofs.Common.{◌≡◌, List, ◌≢◌, true, false, None, ◌∷◌, refl, sym, ap, subst}
use Rattle.values.specs.declared.refusal.Refusal.{Refusal}
use Rattle.values.specs.declared.refusal.Refusal.TheVariants.{Memory}
use Rattle.values.specs.Tables.{Schema}
use Rattle.steps.specs.declared.step.Step.{Step}
use Rattle.steps.specs.declared.step.Step.TheVariants.{Begin, Insert, Update, Delete, UpdatePortion, DeletePortion, Select, Commit, Rollback, AddColumn, SplitKey, SplitTime, Migrate}
use Rattle.steps.specs.declared.step.Reply.{Reply}
use Rattle.steps.specs.declared.step.Reply.TheVariants.{Altered, Refused}
use Rattle.steps.specs.Misfit.{misfit}
use Rattle.histories.specs.History.{History, reply}
use Rattle.histories.specs.World.{World}
use Rattle.histories.specs.Turn.{Turn, turn_in}
use Rattle.histories.specs.Stands.{Stands}
use Rattle.steps.specs.Reply.{is_out_of_memory}
use Rattle.histories.proofs.TurnReplies.{Stepped, stepped, fitting_turn}
use Rattle.treenodes.specs.Node.{TreeNode}
use Rattle.treenodes.specs.History.{KeepsHistory, KeepsPast}
use Rattle.treenodes.proofs.HistoryKept.{keeps_same}
use Rattle.tsbtree.specs.View.{TreeState}
use Rattle.interleaving.specs.StepLeaves.{leaves_all, LeavesHistory}

only_want : (refusal : Refusal) → is_out_of_memory (Refused refusal) ≡ true → refusal ≡ Memory
only_want Memory h = refl
only_want refusal h = cc

out_is : (r : Reply) → is_out_of_memory r ≡ true → r ≡ Refused Memory
out_is (Refused refusal) h = ap Refused (only_want refusal h)
out_is r h = cc

-- where memory ran out all is left
pub out_leaves : (r : Reply) → is_out_of_memory r ≡ true → leaves_all r ≡ true
out_leaves r h = ap leaves_all (out_is r h)

pub out_stands : (w now : World) (r : Reply) → (leaves_all r ≡ true → now ≡ w) → (first : Schema) (h : History) → Stands first w h → r ≡ Refused Memory → Stands first now h
out_stands w now r same first h stands is = subst (λ (w : World). Stands first w h) (sym (same (ap leaves_all is))) stands

-- a tree that is the same keeps its history
pub same_keeps : (old new : TreeState) → new ≡ old → KeepsHistory old.nodes new.nodes
same_keeps old new is = subst (λ (n : TreeState). KeepsHistory old.nodes n.nodes) (sym is) (keeps_same old.nodes)

past_same : (nodes : List TreeNode) → KeepsPast nodes nodes
past_same nodes i n at ended = record { node = n; there = at; level = refl; rect = refl; content = refl; block = λ h. refl }

pub same_leaves : (step : Step) (e : TreeState) → LeavesHistory step e e
same_leaves Migrate e = past_same e.nodes
same_leaves (Begin i) e = keeps_same e.nodes
same_leaves (Insert i table rows) e = keeps_same e.nodes
same_leaves (Update i keys sets) e = keeps_same e.nodes
same_leaves (Delete i keys) e = keeps_same e.nodes
same_leaves (UpdatePortion i keys cut sets) e = keeps_same e.nodes
same_leaves (DeletePortion i keys cut) e = keeps_same e.nodes
same_leaves (Select i form keys) e = keeps_same e.nodes
same_leaves (Commit i reading) e = keeps_same e.nodes
same_leaves (Rollback i) e = keeps_same e.nodes
same_leaves (AddColumn i number name of) e = keeps_same e.nodes
same_leaves (SplitKey key) e = keeps_same e.nodes
same_leaves (SplitTime key instant) e = keeps_same e.nodes

-- the turn was taken, or memory ran out and nothing changed
module _ (w now : World) (step : Step) (answer : Reply) (fits : None ≡ misfit w.schema step) (did : is_out_of_memory answer ≡ false → ◌≡◌ {A = Turn} (answer, now) (turn_in w step)) (undone : is_out_of_memory answer ≡ true → now ≡ w) where
  turned : is_out_of_memory answer ≡ false → Stepped w now step answer
  turned h = stepped w now step answer (fitting_turn w now step answer fits (did h))

  by_out : {P : Type 0} → (is_out_of_memory answer ≡ true → P) → (is_out_of_memory answer ≡ false → P) → P
  by_out {P} f g = elim (is_out_of_memory answer) as (λ b. is_out_of_memory answer ≡ b → P) [ true ↦ f | false ↦ g ] refl

  pub answers : (first : Schema) (h : History) → Stands first w h → answer ≢ Refused Memory → (answer ≡ reply first h step) × Stands first now (step ∷ h)
  answers first h stands other = by_out (λ out. absurd (other (out_is answer out))) (λ told. (turned told).answers first h stands)

  pub same_schema : answer ≢ Altered → now.schema ≡ w.schema
  same_schema other = by_out (λ out. ap (λ (w : World). w.schema) (undone out)) (λ told. (turned told).same_schema other)
