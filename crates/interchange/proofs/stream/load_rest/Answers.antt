use Rattle.std.proofs.Common.{◌++◌, [], List, ℕ, append_assoc, arith, subst, take}
use Rattle.std.specs.Io.KnownBytes.{Consumes}
use Rattle.std.proofs.KnownBytes.{Consumes-trans}
use Rattle.interchange.specs.Loading.{IsReadTo, IsWhyOf}
use Rattle.interchange.proofs.InsertionCome.{on_err}
use Rattle.interchange.proofs.StreamReads.{given_done, rest_ended, rest_refused}
use Rattle.interchange.proofs.stream.load_rest.Goals as goal

pub returns-then-n-eq0-clause-err : goal.returns-then-n-eq0-clause-err
returns-then-n-eq0-clause-err g c =
    let going = c.loop-turn.invariant in
    let none : Consumes (g.R.Read.remaining c.loop-turn.reader) (g.R.Read.remaining c.read.new.self) [] = subst (λ k. Consumes (g.R.Read.remaining c.loop-turn.reader) (g.R.Read.remaining c.read.new.self) (take k c.read.new.buf)) c.if-n-eq0.true c.in-Ok.ensures.bytes.0 in
    let given = given_done _ _ _ going.0 going.1 none (c.in-Ok.ensures.bytes.1 c.if-n-eq0.true (omega (arith, c.read.auto.buf))) in
    on_err c.finish.result c.finish.ensures.err (λ fault ended text read. rest_ended fault c.args.table.now text _ going.0 given (ended (text ++ going.0) (going.2 text read)))

pub returns-in-Err-feed-clause-err : goal.returns-in-Err-feed-clause-err
returns-in-Err-feed-clause-err g c = λ text read.
    let going = c.loop-turn.invariant in
    rest_refused c.in-Err-feed.why c.args.table.now text _ _ _ going.0 (take c.in-Ok.n c.read.new.buf) going.1 c.in-Ok.ensures.bytes.0
    (λ rest. subst (λ (chunk : List ℕ). IsWhyOf c.in-Err-feed.why c.args.table.now ((text ++ going.0) ++ (chunk ++ rest))) c.split_at.ensures.front (c.in-Err-feed.ensures.err (text ++ going.0) rest (going.2 text read)))

pub loop-turn-preserved : goal.loop-turn-preserved
loop-turn-preserved g c =
    let going = c.loop-turn.invariant in (
      going.0 ++ take c.in-Ok.n c.read.new.buf,
      Consumes-trans _ _ _ going.0 (take c.in-Ok.n c.read.new.buf) going.1 c.in-Ok.ensures.bytes.0,
      λ text read.
          subst (λ t. IsReadTo c.args.table.now t c.feed.new.self) (append_assoc text going.0 (take c.in-Ok.n c.read.new.buf))
          (subst (λ (chunk : List ℕ). IsReadTo c.args.table.now ((text ++ going.0) ++ chunk) c.feed.new.self) c.split_at.ensures.front (c.in-Ok-feed.ensures.ok (text ++ going.0) (going.2 text read))),
    )
