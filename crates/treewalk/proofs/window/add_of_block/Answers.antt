use Rattle.std.proofs.Common.{◌≡◌, ◌++◌, ◌∙◌, ap, filter, subst}
use Rattle.std.specs.Prelude.{OnOk}
use Rattle.values.specs.Event.{Event}
use Rattle.values.specs.Events.{is_bytes}
use Rattle.treewalk.proofs.WindowJoined.{of_range_of_key}
use Rattle.treewalk.proofs.window.add_of_block.Goals as goal

pub returns-clause-ok : goal.returns-clause-ok
returns-clause-ok g c =
    subst (λ l. OnOk c.add_of_key.result (c.add_of_key.new.found.items ≡ c.args.found.now.items ++ l))
    (ap (filter (λ (e : Event). is_bytes c.args.key.now e.key)) (c.deref.ensures.value ∙ c.in_ok-events.ensures.ok)
    ∙ of_range_of_key c.args.block.now.node.events c.args.key.now c.args.range.now c.requires.inside c.args.after c.args.last)
    c.add_of_key.ensures.ok
