use Rattle.std.proofs.Common.{◌≡◌, ◌+◌, ◌-◌, ◌<◌, ◌++◌, Some, None, ap, ◌∙◌, arith, rules}
use Rattle.blocks.specs.Listing.{next_asked, asked_of, events_asked}
use Rattle.blocks.proofs.ListingSteps.{listing_ends, listing_goes_on}
use Rattle.blocks.proofs.listing.events_asked.Goals as goal

pub returns-in-None-clause-ok : goal.returns-in-None-clause-ok
returns-in-None-clause-ok c =
    let below : c.loop.counter < c.args.n = omega arith in
    let none : next_asked c.args.range.now c.args.from c.args.to c.loop.rest.now ≡ None = search rules in
    listing_ends c.args.range.now c.args.from c.args.to c.args.n c.loop.counter c.loop.rest.now c.loop.found.items below none
    ∙ c.loop.invariant

pub loop-preserved : goal.loop-preserved
loop-preserved c =
    let range = c.args.range.now in
    let rest = c.in-Some.left.now in
    let below : c.loop.counter < c.args.n = omega arith in
    let next : next_asked range c.args.from c.args.to c.loop.rest.now ≡ Some (c.in-Some.event, rest) = search rules in
    let added : c.push_asked.new.found.items ≡ c.loop.found.items ++ asked_of c.in-Some.event = search rules in
    ap (λ es. es ++ events_asked (c.args.n - (c.loop.counter + 1)) rest range c.args.from c.args.to) added
    ∙ listing_goes_on range c.args.from c.args.to c.args.n c.loop.counter c.loop.rest.now rest c.loop.found.items c.in-Some.event below next
    ∙ c.loop.invariant
