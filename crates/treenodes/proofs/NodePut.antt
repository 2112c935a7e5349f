-- A slot's node once an event was put into it.
use Rattle.std.proofs.Common.{◌≡◌, ℕ, OnOk, Result, Ok, Err, sym, ap, ◌∙◌}
use Rattle.values.specs.Event.{Event}
use Rattle.datanode.specs.Node.{Node}
use Rattle.treenodes.specs.declared.node.Child.{Child}
use Rattle.treenodes.specs.declared.node.Child.TheVariants.{Data}
use Rattle.treenodes.specs.Node.{TreeNode, seen}
use Rattle.treenodes.specs.Event.{with_put}

-- in place
pub put_shown : {A E : Type 0} → (res : Result A E) (level : ℕ) (old new kept : Child) (self : TreeNode) (e : Event) → OnOk res ((l : ℕ) → seen l new ≡ with_put (seen l old) e) → old ≡ kept → seen level kept ≡ self → OnOk res (seen level new ≡ with_put self e)
put_shown (Ok a) level old new kept self e put is shown = put level ∙ ap (λ n. with_put n e) (ap (seen level) is ∙ shown)
put_shown (Err a) level old new kept self e put is shown = put

-- or in a copy
pub put_copied : (level : ℕ) (n : Node) (new kept put : Child) (self : TreeNode) (e : Event) → seen level kept ≡ self → seen level kept ≡ seen level (Data n) → ((l : ℕ) → seen l put ≡ with_put (seen l (Data n)) e) → new ≡ put → seen level new ≡ with_put self e
put_copied level n new kept put self e shown is done made =
    ap (seen level) made ∙ done level ∙ ap (λ q. with_put q e) (sym is ∙ shown)
