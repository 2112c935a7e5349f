use Rattle.std.proofs.Common.{◌≡◌, arith, subst, sym}
use Rattle.std.specs.Prelude.{IfSome}
use Rattle.std.proofs.KnownBytes.{Consumes-trans}
use Rattle.std.proofs.lemmas.Bool.Decides.{nat_tests}
use Rattle.std.specs.Io.KnownBytes.{Consumes}
use Rattle.listening.specs.Request.{is_foreign}
use Rattle.listening.proofs.HeadShown.{shown, shown_at_end}
use Rattle.listening.proofs.head.read_head.Goals as goal
use Rattle.listening.proofs.head.read_head.Goals.{else-loop-reader-test, then-loop-reader-test+in_ok-read_more+then-branch-eq0}

-- nothing behind them changes it, or there is nothing behind them
pub returns-clause-shown : goal.returns-clause-shown
returns-clause-shown g c = elim c.loop-reader-test.branch [
  | else-loop-reader-test w ↦
      subst (λ head. IfSome (g.I.Read.remaining c.args.reader.now) (λ bytes. is_foreign bytes ≡ is_foreign head.items)) (sym w.head-is)
      (shown (g.I.Read.remaining c.args.reader.now) (g.I.Read.remaining c.loop-reader.reader) c.loop-reader.head.items c.loop-reader.invariant (c.is_unshown.ensures.shown w.loop-reader-test.false))
  | then-loop-reader-test+in_ok-read_more+then-branch-eq0 w ↦
      let took = w.in_ok-read_more.ensures.took in
      let all : Consumes (g.I.Read.remaining c.args.reader.now) (g.I.Read.remaining w.read_more.new.reader) w.read_more.new.head.items =
      subst (Consumes (g.I.Read.remaining c.args.reader.now) (g.I.Read.remaining w.read_more.new.reader)) (sym took.1)
      (Consumes-trans (g.I.Read.remaining c.args.reader.now) (g.I.Read.remaining c.loop-reader.reader) (g.I.Read.remaining w.read_more.new.reader) c.loop-reader.head.items took.0 c.loop-reader.invariant took.3) in
      subst (λ head. IfSome (g.I.Read.remaining c.args.reader.now) (λ bytes. is_foreign bytes ≡ is_foreign head.items)) (sym w.head-is)
      (shown_at_end (g.I.Read.remaining c.args.reader.now) (g.I.Read.remaining w.read_more.new.reader) w.read_more.new.head.items all (w.in_ok-read_more.ensures.end (grind (arith, nat_tests, w.if-branch-eq0.true))))
]
