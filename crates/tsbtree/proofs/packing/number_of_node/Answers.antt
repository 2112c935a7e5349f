use Rattle.std.proofs.Common.{◌≡◌, ℕ, Option, sym, subst, ◌∙◌}
use Rattle.std.specs.Prelude.{MatchOption}
use Rattle.std.proofs.lemmas.Bool.{false≢true}
use Rattle.std.proofs.lemmas.Option.{slice_get_within}
use Rattle.datanode.specs.Node.{Node}
use Rattle.treenodes.specs.declared.node.Child.TheVariants.{Data}
use Rattle.treenodes.specs.Node.{data_node, seen, events_of}
use Rattle.treenodes.proofs.NodeNumbers.{one_at}
use Rattle.tsbtree.specs.Packing.{IsHistorical, IsHistoricalAt}
use Rattle.tsbtree.proofs.PackingFound.{past_unpacked, is_found}
use Rattle.tsbtree.proofs.packing.number_of_node.Goals as goal

pub returns-in-None : goal.returns-in-None
returns-in-None c = λ j at.
    subst (λ (o : Option ℕ). MatchOption o ((n : Node) → IsHistorical c.args.nodes.now c.rect-2.result.now n → ⊥) (λ i. IsHistoricalAt c.args.nodes.now c.rect-2.result.now i)) c.in-None.is c.number_of.ensures c.args.node.now
    (record { number = j; there = at; unpacked = past_unpacked c.args.node.now c.requires.past; same = sym c.rect-2.ensures.rect })

pub at-requires : goal.at-requires
at-requires c =
    let h = subst (λ (o : Option ℕ). MatchOption o ((n : Node) → IsHistorical c.args.nodes.now c.rect-2.result.now n → ⊥) (λ i. IsHistoricalAt c.args.nodes.now c.rect-2.result.now i)) c.in-Some.is c.number_of.ensures in
    slice_get_within c.args.nodes.now c.in-Some.number (data_node h.node) h.there

pub returns-else-is_same : goal.returns-else-is_same
returns-else-is_same c = λ j at.
    let h = subst (λ (o : Option ℕ). MatchOption o ((n : Node) → IsHistorical c.args.nodes.now c.rect-2.result.now n → ⊥) (λ i. IsHistoricalAt c.args.nodes.now c.rect-2.result.now i)) c.in-Some.is c.number_of.ensures in
    let one : h.node ≡ c.args.node.now = is_found c.args.nodes.now c.requires.tree c.rect-2.result.now c.rect-2.ensures.area c.in-Some.number h j c.args.node.now at (sym c.rect-2.ensures.rect) in
    let e : seen c.at.result.now.level (Data c.data_node.result.now) ≡ data_node h.node = sym c.data_node.ensures ∙ one_at c.args.nodes.now c.in-Some.number c.at.result.now (data_node h.node) c.at.ensures h.there in
    let is : c.data_node.result.now ≡ h.node = λ t. record { rect = (e t).rect; events = events_of (e t).content } in
    false≢true (sym c.if-is_same.false ∙ c.is_same.ensures.1 (is ∙ one))
