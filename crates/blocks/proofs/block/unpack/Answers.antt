use Rattle.std.proofs.Common.{◌≡◌, Bool, true, false, Option, Some, None, IfSome, IfNone, rules, sym, ap, subst, ◌∙◌}
use Rattle.values.proofs.RowReads.{are_bytes}
use Rattle.datanode.specs.Node.{Node}
use Rattle.keyrange.specs.Rect.{Area}
use Rattle.keyrange.specs.Cut.{rect_of}
use Rattle.blocks.specs.Head.{head_from, area_of}
use Rattle.blocks.specs.Start.{is_right}
use Rattle.blocks.specs.Gather.{IsCountedNode, NoCountedNode}
use Rattle.blocks.proofs.BlockReads.{found_is, same_node, right_of, no_node, no_head, no_rect, of_area}
use Rattle.blocks.proofs.block.unpack.Goals as goal

pub returns-in_default-clause-of_block : goal.returns-in_default-clause-of_block
returns-in_default-clause-of_block c n b =
    let none : head_from c.args.bytes.now ≡ None = search rules in
    absurd (no_head c.args.bytes.now none n b)

pub returns-in_default-2-clause-of_block : goal.returns-in_default-2-clause-of_block
returns-in_default-2-clause-of_block c n b =
    let body = c.in-Some.head.body in
    let area : Area = area_of body in
    let head : head_from c.args.bytes.now ≡ Some ((c.in-Some.head.stated, (area, body.count)), c.in-Some.events.now) = search rules in
    let none : rect_of area.keys area.time ≡ None = search rules in
    absurd (no_rect c.args.bytes.now c.in-Some.head.stated area body.count c.in-Some.events.now head none n b)

pub returns-in_default-3-clause-of_block : goal.returns-in_default-3-clause-of_block
returns-in_default-3-clause-of_block c n b =
    let body = c.in-Some.head.body in
    let area : Area = area_of body in
    let rect = c.in-Some-2.rect in
    let left = c.in-Some.events.now in
    let head : head_from c.args.bytes.now ≡ Some ((c.in-Some.head.stated, (area, body.count)), left) = search rules in
    let is : rect_of area.keys area.time ≡ Some rect = search rules in
    let none : c.in_ok-node.field-0 ≡ None = search rules in
    let missing = subst (λ (o : Option Node). IfNone o (NoCountedNode rect body.count left)) none c.in_ok-node.ensures.none in
    absurd (no_node c.args.bytes.now c.in-Some.head.stated rect body.count left (of_area c.args.bytes.now c.in-Some.head.stated area rect body.count left head is) missing n b)

pub returns-then-is_right-clause-found : goal.returns-then-is_right-clause-found
returns-then-is_right-clause-found c =
    let body = c.in-Some.head.body in
    let area : Area = area_of body in
    let rect = c.in-Some-2.rect in
    let left = c.in-Some.events.now in
    let node = c.in-Some-3.node in
    let head : head_from c.args.bytes.now ≡ Some ((c.in-Some.head.stated, (area, body.count)), left) = search rules in
    let is : rect_of area.keys area.time ≡ Some rect = search rules in
    let some : c.in_ok-node.field-0 ≡ Some node = search rules in
    let counted = subst (λ (o : Option Node). IfSome o (IsCountedNode rect body.count left)) some c.in_ok-node.ensures.some in
    let right : is_right c.in-Some.head.stated node.events ≡ true = search rules in
    found_is c.args.bytes.now c.in-Some.head.stated rect body.count left (of_area c.args.bytes.now c.in-Some.head.stated area rect body.count left head is)
    (are_bytes c.args.bytes.now c.type_inv.bytes) node counted right

pub returns-then-is_right-clause-of_block : goal.returns-then-is_right-clause-of_block
returns-then-is_right-clause-of_block c n b =
    let body = c.in-Some.head.body in
    let area : Area = area_of body in
    let rect = c.in-Some-2.rect in
    let left = c.in-Some.events.now in
    let node = c.in-Some-3.node in
    let head : head_from c.args.bytes.now ≡ Some ((c.in-Some.head.stated, (area, body.count)), left) = search rules in
    let is : rect_of area.keys area.time ≡ Some rect = search rules in
    let some : c.in_ok-node.field-0 ≡ Some node = search rules in
    let counted = subst (λ (o : Option Node). IfSome o (IsCountedNode rect body.count left)) some c.in_ok-node.ensures.some in
    ap (λ (x : Node). Some x) (same_node c.args.bytes.now c.in-Some.head.stated rect body.count left (of_area c.args.bytes.now c.in-Some.head.stated area rect body.count left head is) node counted n b)

-- what is stated is right of the node that the bytes are the block of
pub returns-else-is_right-clause-of_block : goal.returns-else-is_right-clause-of_block
returns-else-is_right-clause-of_block c n b =
    let body = c.in-Some.head.body in
    let area : Area = area_of body in
    let rect = c.in-Some-2.rect in
    let left = c.in-Some.events.now in
    let node = c.in-Some-3.node in
    let head : head_from c.args.bytes.now ≡ Some ((c.in-Some.head.stated, (area, body.count)), left) = search rules in
    let is : rect_of area.keys area.time ≡ Some rect = search rules in
    let some : c.in_ok-node.field-0 ≡ Some node = search rules in
    let counted = subst (λ (o : Option Node). IfSome o (IsCountedNode rect body.count left)) some c.in_ok-node.ensures.some in
    let wrong : is_right c.in-Some.head.stated node.events ≡ false = search rules in
    let there = of_area c.args.bytes.now c.in-Some.head.stated area rect body.count left head is in
    let same = same_node c.args.bytes.now c.in-Some.head.stated rect body.count left there node counted n b in
    let right = right_of c.args.bytes.now c.in-Some.head.stated rect body.count left there n b in
    let never : ◌≡◌ {A = Bool} true false = sym right ∙ ap (λ (x : Node). is_right c.in-Some.head.stated x.events) (sym same) ∙ wrong in
    cc
