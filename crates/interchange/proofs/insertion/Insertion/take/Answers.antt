use Rattle.std.proofs.Common.{refl, sym, ◌∙◌}
use Rattle.interchange.proofs.InsertionCome.{bad_after, bad_now, good_now, on_ok}
use Rattle.interchange.proofs.insertion.Insertion.take.Goals as goal

pub returns-then-self-clause-ok : goal.returns-then-self-clause-ok
returns-then-self-clause-ok c = λ rows come. bad_after c.args.table.now rows c.args.row c.args.self.now c.requires.fits c.if-self.true come

pub returns-then-is_bad_span-clause-ok : goal.returns-then-is_bad_span-clause-ok
returns-then-is_bad_span-clause-ok c = λ rows come. bad_now c.args.table.now rows c.args.row c.args.self.now _ c.requires.fits (sym c.if-is_bad_span.true ∙ c.is_bad_span.ensures) c.if-self.false refl come

pub returns-clause-ok : goal.returns-clause-ok
returns-clause-ok c = on_ok c.take_key.result c.take_key.ensures.ok (λ taken rows come.
    good_now c.args.table.now rows c.args.row c.args.self.now c.take_key.new.self c.requires.fits (sym c.if-is_bad_span.false ∙ c.is_bad_span.ensures) c.if-self.false c.take_key.ensures.spans taken come)
