use Rattle.std.proofs.Common.{◌≡◌, ◌+◌, drop, ap, sym, ◌∙◌, Ok}
use Rattle.std.proofs.lemmas.Result.{err_from_is_err_and}
use Rattle.statement.specs.List.{more_at, list_at}
use Rattle.tokens.proofs.TokenAlike.{stops_alike}
use Rattle.statement.proofs.ListTurns.{more_next, more_stops, more_ends, more_none}
use Rattle.statement.proofs.list.list_at.Goals as goal
use Rattle.statement.proofs.list.list_at.Goals.{else-loop-turn-test, then-loop-turn-test+in_default}

pub returns-in_err-item : goal.returns-in_err-item
returns-in_err-item g c =
    let s = g.I.Item.separator c.args.items.now in
    let r = g.I.Item.item c.args.items.now in
    let p = err_from_is_err_and c.from_residual-in_err-item.result c.from_residual-in_err-item.ensures.1 in
    rw (p.1, p.2)
    (stops_alike c.in_err-item.field-0.0 (r c.in-Ok.next.now) (list_at s r c.args.bytes.now)
    (λ at is. sym c.loop-turn.invariant ∙ more_stops s r c.in_ok-first.after.now c.loop-turn._turn-index c.loop-turn.list.items c.loop-turn.rest.now _ at c.loop-turn-test.true c.in-Ok.ensures is)
    c.in_err-item.ensures)

pub loop-turn-preserved : goal.loop-turn-preserved
loop-turn-preserved g c =
    let s = g.I.Item.separator c.args.items.now in
    let r = g.I.Item.item c.args.items.now in
    let turns = c.in_ok-first.after.now in
    let i = c.loop-turn._turn-index in
    ap (λ front. more_at s r (drop (i + 1) turns) front c.in_ok-item.after_item.now) c.in_ok-push-2.ensures.items
    ∙ sym (more_next s r turns i c.loop-turn.list.items c.loop-turn.rest.now _ _ _ c.loop-turn-test.true c.in-Ok.ensures c.in_ok-item.ensures)
    ∙ c.loop-turn.invariant

pub returns : goal.returns
returns g c =
    let s = g.I.Item.separator c.args.items.now in
    let r = g.I.Item.item c.args.items.now in
    let turns = c.in_ok-first.after.now in
    let i = c.loop-turn._turn-index in
    let front = c.loop-turn.list.items in
    let rest = c.loop-turn.rest.now in
    let ended : more_at s r (drop i turns) front rest ≡ Ok (front, rest) =
    elim c.loop-turn-test.branch [
      | else-loop-turn-test w ↦ more_none s r turns i front rest w.loop-turn-test.false
      | then-loop-turn-test+in_default w ↦ more_ends s r turns i front rest _ w.loop-turn-test.true w.in_default.ensures
    ] in
    sym c.loop-turn.invariant ∙ ended
