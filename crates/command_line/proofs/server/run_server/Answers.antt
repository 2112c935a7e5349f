use Rattle.std.proofs.Common.{option_map, subst}
use Rattle.command_line.specs.Server.{IsFirst, IsNoFirst}
use Rattle.command_line.proofs.ServerParts.{exports_on, no_first, served_all, stops_serving}
use Rattle.command_line.proofs.server.run_server.Goals as goal

pub returns-in-Err-clause-halts : goal.returns-in-Err-clause-halts
returns-in-Err-clause-halts g c =
    let load = option_map (λ text. text.now) c.args.text in
    no_first c.args.system load c.args.plan (g.I.Read.remaining c.args.reader.now) (g.O.Write.contents c.args.out.now) c.in-Err.fault (subst (λ schema. IsNoFirst c.in-Err.fault load schema) c.schema.ensures c.in-Err.ensures.err)

pub serve-requires-clause-export : goal.serve-requires-clause-export
serve-requires-clause-export g c = λ κs h.
    let known = c.requires.known in
    exports_on c.args.system known.0 known.1 known.2 c.args.plan.export known.3

pub returns-clause-done : goal.returns-clause-done
returns-clause-done g c =
    let load = option_map (λ text. text.now) c.args.text in
    served_all c.args.system load c.args.plan (g.I.Read.remaining c.args.reader.now) (g.O.Write.contents c.args.out.now) c.in-Ok.first (subst (λ schema. IsFirst schema load c.in-Ok.first) c.schema.ensures c.in-Ok.ensures.ok)
    (g.I.Read.remaining c.serve.new.reader) (g.O.Write.contents c.serve.new.out) c.serve.ensures.read c.serve.result c.ended.result c.ended.ensures c.histories_can_be_read.ensures.kept c.serve.ensures.ok

pub returns-clause-halts : goal.returns-clause-halts
returns-clause-halts g c =
    let load = option_map (λ text. text.now) c.args.text in
    stops_serving c.args.system load c.args.plan (g.I.Read.remaining c.args.reader.now) (g.O.Write.contents c.args.out.now) c.in-Ok.first (subst (λ schema. IsFirst schema load c.in-Ok.first) c.schema.ensures c.in-Ok.ensures.ok)
    (g.I.Read.remaining c.serve.new.reader) (g.O.Write.contents c.serve.new.out) c.serve.ensures.read c.serve.result c.ended.result c.ended.ensures c.serve.ensures.err
