use Rattle.std.proofs.Common.{◌≡◌, length, ap, arith}
use Rattle.std.proofs.lemmas.Bool.Decides.{nat_tests}
use Rattle.listening.proofs.LoadingCalls.{if_ok, loaded_at}
use Rattle.listening.proofs.loading.load_into.Goals as goal

pub returns-in-Ok-begin-clause-ok : goal.returns-in-Ok-begin-clause-ok
returns-in-Ok-begin-clause-ok g c =
    if_ok c.load_begun.result _ _
    (λ l. loaded_at g.J.StoreName.origin.schema c.args.table c.args.rows.now _ l.instant
    (λ none. let empty : length c.args.rows.now ≡ 0 = ap length none in grind (arith, nat_tests, empty, c.is_empty.ensures, c.if-is_empty.false)))
    c.load_begun.ensures.ok
