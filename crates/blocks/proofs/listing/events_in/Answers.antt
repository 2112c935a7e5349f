use Rattle.std.proofs.Common.{◌≡◌, [], Some, None, ◌∙◌, rules}
use Rattle.eventlist.specs.Listing.{events_in}
use Rattle.datanode.specs.Node.{Node}
use Rattle.blocks.specs.Block.{IsBlockOf}
use Rattle.blocks.specs.Lookup.{events_place}
use Rattle.blocks.specs.Listing.{events_asked}
use Rattle.blocks.proofs.BlockReads.{weaker}
use Rattle.blocks.proofs.ListingFinds.{listed, nothing_listed}
use Rattle.blocks.proofs.listing.events_in.Goals as goal

pub returns-in-None-clause-ok : goal.returns-in-None-clause-ok
returns-in-None-clause-ok c n b =
    let none : events_place c.args.bytes.now ≡ None = search rules in
    let empty : c.new.result.items ≡ [] = search rules in
    empty ∙ nothing_listed c.args.range.now c.args.from c.args.to c.args.bytes.now none n b

pub returns-in-Some-clause-ok : goal.returns-in-Some-clause-ok
returns-in-Some-clause-ok c =
    let bytes = c.args.bytes.now in
    let range = c.args.range.now in
    let place : events_place bytes ≡ Some (c.in-Some.n, c.in-Some.events.now) = search rules in
    weaker c.events_asked.result (λ v. v.items ≡ events_asked c.in-Some.n c.in-Some.events.now range c.args.from c.args.to)
    (λ v. (n : Node) → IsBlockOf bytes n → v.items ≡ events_in n.events range c.args.from c.args.to)
    (λ v is n b. is ∙ listed range c.args.from c.args.to bytes c.in-Some.n c.in-Some.events.now place n b) c.events_asked.ensures.ok
