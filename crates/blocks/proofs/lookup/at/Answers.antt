use Rattle.std.proofs.Common.{◌≡◌, List, true, Option, Some, None, ◌∙◌, rules}
use Rattle.values.specs.Log.{Row}
use Rattle.values.specs.Events.{row_until}
use Rattle.datanode.specs.Node.{Node, IsCutOf}
use Rattle.keyrange.specs.Rect.{has_point}
use Rattle.values.specs.Event.{Event}
use Rattle.blocks.specs.Event.{row_field_from}
use Rattle.blocks.specs.Block.{IsBlockOf}
use Rattle.blocks.specs.Lookup.{place_in, row_of_field}
use Rattle.blocks.proofs.BlockReads.{weaker}
use Rattle.blocks.proofs.LookupFinds.{no_row_until, row_until_found, row_of_map}
use Rattle.blocks.proofs.lookup.at.Goals as goal

pub returns-in-None-clause-ok : goal.returns-in-None-clause-ok
returns-in-None-clause-ok c n b =
    let none : place_in c.args.bytes.now c.args.key.now 0 c.args.instant ≡ None = search rules in
    no_row_until c.args.bytes.now c.args.key.now c.args.instant none n b

pub returns-in-None-clause-of_map : goal.returns-in-None-clause-of_map
returns-in-None-clause-of_map c n m b is point =
    let none : place_in c.args.bytes.now c.args.key.now 0 c.args.instant ≡ None = search rules in
    no_row_until c.args.bytes.now c.args.key.now c.args.instant none n b ∙ row_of_map n m c.args.key.now c.args.instant is point

pub returns-in-Some-clause-ok : goal.returns-in-Some-clause-ok
returns-in-Some-clause-ok c =
    let bytes = c.args.bytes.now in
    let found : place_in bytes c.args.key.now 0 c.args.instant ≡ Some (c.in-Some._at, c.in-Some.row.now) = search rules in
    weaker c.row_at.result (λ (row : Option Row). row ≡ row_of_field (row_field_from c.in-Some.row.now))
    (λ (row : Option Row). (n : Node) → IsBlockOf bytes n → row ≡ row_until n.events c.args.key.now c.args.instant)
    (λ row is n b. is ∙ row_until_found bytes c.args.key.now c.args.instant c.in-Some._at c.in-Some.row.now found n b) c.row_at.ensures.ok

pub returns-in-Some-clause-of_map : goal.returns-in-Some-clause-of_map
returns-in-Some-clause-of_map c =
    let bytes = c.args.bytes.now in
    let found : place_in bytes c.args.key.now 0 c.args.instant ≡ Some (c.in-Some._at, c.in-Some.row.now) = search rules in
    weaker c.row_at.result (λ (row : Option Row). row ≡ row_of_field (row_field_from c.in-Some.row.now))
    (λ (row : Option Row). (n : Node) (m : List Event) → IsBlockOf bytes n → IsCutOf n m → has_point n.rect c.args.key.now c.args.instant ≡ true → row ≡ row_until m c.args.key.now c.args.instant)
    (λ row same n m b is point. same ∙ row_until_found bytes c.args.key.now c.args.instant c.in-Some._at c.in-Some.row.now found n b ∙ row_of_map n m c.args.key.now c.args.instant is point) c.row_at.ensures.ok
