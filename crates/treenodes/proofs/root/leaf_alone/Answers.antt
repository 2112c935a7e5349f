use Rattle.std.proofs.Common.{◌≡◌, [], ◌∷◌, ◌++◌, ap, ◌∙◌}
use Rattle.std.specs.Prelude.{IfOk}
use Rattle.keyrange.specs.Rect.{Area}
use Rattle.treenodes.specs.Node.{data_node}
use Rattle.treenodes.specs.Map.{changes}
use Rattle.treenodes.specs.Sound.{IsSound}
use Rattle.treenodes.proofs.ReplacementParents.{weaker}
use Rattle.treenodes.specs.Root.{empty_leaf}
use Rattle.treenodes.proofs.RootAlone.{one_sound, none_yet}
use Rattle.treenodes.proofs.root.leaf_alone.Goals as goal

alone : (c : goal.After-with_last) → IfOk c.with_last.result (λ s. s ≡ empty_leaf ∷ [])
alone c =
    let one : c.in_ok-root.root ≡ empty_leaf = c.in_ok-root.ensures.ok ∙ ap data_node (c.in_ok-node.ensures.ok ∙ ap (λ (a : Area). record { rect = a; events = [] }) c.whole.ensures) in
    weaker c.with_last.result (λ s. s ≡ c.in_ok-new.field-0 ++ c.in_ok-root.root ∷ []) (λ s. s ≡ empty_leaf ∷ []) (λ s made. made ∙ (λ t. c.in_ok-new.ensures.ok t ++ one t ∷ [])) c.with_last.ensures.ok

pub returns-clause-sound : goal.returns-clause-sound
returns-clause-sound c = weaker c.with_last.result (λ s. s ≡ empty_leaf ∷ []) (λ s. IsSound s 0) one_sound (alone c)

pub returns-clause-empty : goal.returns-clause-empty
returns-clause-empty c = weaker c.with_last.result (λ s. s ≡ empty_leaf ∷ []) (λ s. changes s ≡ []) none_yet (alone c)

pub returns-clause-alone : goal.returns-clause-alone
returns-clause-alone c = alone c
