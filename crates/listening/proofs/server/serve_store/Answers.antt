use Rattle.std.proofs.Common.{inl, map, refl, sym, ◌∙◌}
use Rattle.std.proofs.KnownBytes.{Keeps-refl}
use Rattle.serving.specs.Progress.{Given}
use Rattle.listening.proofs.ServerHistory.{served, stopped, tables_are, unloaded}
use Rattle.listening.proofs.server.serve_store.Goals as goal

pub returns-in_default-clause-err : goal.returns-in_default-clause-err
returns-in_default-clause-err g c = λ start before carries. inl (refl, Keeps-refl (g.O.Write.contents c.args.out.now))

pub returns-in-Err-clause-err : goal.returns-in-Err-clause-err
returns-in-Err-clause-err g c = λ start before carries.
    unloaded g.J.StoreName.origin start before carries c.args.first c.args.plan c.requires.most _ (g.O.Write.contents c.args.out.now) (g.O.Write.contents c.load_first.new.out) c.in-Err.ensures.err

pub returns-in-Ok-close_with-clause-ok : goal.returns-in-Ok-close_with-clause-ok
returns-in-Ok-close_with-clause-ok g c = λ start before carries. (
  (c.in-Ok.ensures.ok ∙ c.requires.tables) ∙ tables_are g.J.StoreName.origin start before carries c.args.first c.args.plan c.requires.most,
  served g.J.StoreName.origin start before carries c.args.first c.args.plan c.requires.most (map {B = Given} (λ r. record { number = r.number; entry = r.entry }) c.in-Ok-load_first.receipts.items)
      (g.O.Write.contents c.args.out.now) (g.O.Write.contents c.load_first.new.out) c.in-Ok-load_first.ensures.ok
      c.in-Ok.tables (sym (c.in-Ok.ensures.ok ∙ c.requires.tables)) (g.O.Write.contents c.serve_to_close.new.out) (g.O.Write.contents c.close_with.new.out) c.in-Ok-serve_to_close.closed
      c.in-Ok-serve_to_close.ensures.ok.0 c.in-Ok-serve_to_close.ensures.ok.1 c.in-Ok-serve_to_close.ensures.history c.in-Ok-serve_to_close.ensures.run c.in-Ok-close_with.ensures.ok,
)

pub returns-in-Err-close_with-clause-err : goal.returns-in-Err-close_with-clause-err
returns-in-Err-close_with-clause-err g c = λ start before carries.
    stopped g.J.StoreName.origin start before carries c.args.first c.args.plan c.requires.most (map {B = Given} (λ r. record { number = r.number; entry = r.entry }) c.in-Ok-load_first.receipts.items)
    (g.O.Write.contents c.args.out.now) (g.O.Write.contents c.load_first.new.out) c.in-Ok-load_first.ensures.ok
    c.in-Ok.tables (sym (c.in-Ok.ensures.ok ∙ c.requires.tables)) (g.O.Write.contents c.serve_to_close.new.out) (g.O.Write.contents c.close_with.new.out) c.in-Ok-serve_to_close.closed
    c.in-Ok-serve_to_close.ensures.ok.0 c.in-Ok-serve_to_close.ensures.ok.1 c.in-Ok-serve_to_close.ensures.history c.in-Ok-serve_to_close.ensures.run c.in-Err-close_with.fault c.in-Err-close_with.ensures.err
