-- MIGRATE where nothing waits to be packed.
use Rattle.std.proofs.Common.{◌≡◌, ℕ, Option, Some, None, Ok, sym, subst}
use Rattle.std.specs.Prelude.{MatchOption}
use Rattle.sessions.specs.treenodes.Node.{TreeNode}
use Rattle.sessions.specs.treenodes.Backlog.{IsWaiting}
use Rattle.sessions.specs.tsbtree.View.{TreeState}
use Rattle.sessions.specs.journal.declared.entry.Entry.{Entry}
use Rattle.sessions.specs.journal.declared.entry.Entry.TheVariants.{Begin}
use Rattle.serving.specs.Progress.{Given}
use Rattle.serving.specs.Serving.{IsPackedOf}

-- there is none
pub of_none : {A : Type 0} (o : Option A) (B : A → Type 0) (C : Type 0) → o ≡ None → MatchOption o C B → C
of_none None B C e c = c
of_none (Some a) B C e c = cc

pub none_packed : {A : Type 0} (f : A → Given) (e : Entry) (i earlier : ℕ) (view : TreeState) → e ≡ Begin i earlier view → ((n : TreeNode) → IsWaiting view.nodes None n → ⊥) → IsPackedOf f e (Ok None)
none_packed f e i earlier view is none = subst (λ x. IsPackedOf f x (Ok None)) (sym is) none
