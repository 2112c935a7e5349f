use Rattle.std.proofs.Common.{Some, [], ◌∷◌, ◌++◌, ap, ◌∙◌, refl, subst, sym}
use Rattle.values.specs.declared.key.Key.{Key}
use Rattle.values.specs.Writes.{key_of, keyed}
use Rattle.interchange.specs.Insertion.{HasKeys}
use Rattle.interchange.specs.Overlaps.{HasSpans}
use Rattle.interchange.proofs.InsertionCome.{come_after, come_again, come_new, on_ok}
use Rattle.interchange.proofs.insertion.Insertion.take_key.Goals as goal

pub returns-then-is_some-clause-ok : goal.returns-then-is_some-clause-ok
returns-then-is_some-clause-ok c = λ rows come. come_after c.args.table.now rows c.args.row c.args.self.now (sym c.is_some.ensures ∙ c.if-is_some.true) come

pub returns-in_ok-take-clause-ok : goal.returns-in_ok-take-clause-ok
returns-in_ok-take-clause-ok c = on_ok c.keep.result c.keep.ensures.kept (λ kept rows come.
    let key : Key = key_of c.args.table.now c.args.row in
    come_new c.args.table.now rows c.args.row key c.args.self.now c.keep.new.self (sym c.is_some.ensures ∙ c.if-is_some.false) c.keep.ensures.repeated refl
    (λ keys has. sym c.if-branch.true ∙ c.in_ok-add.ensures.new keys has)
    (λ keys has. subst (HasKeys c.args.table.now (keys ++ key ∷ [])) (sym c.keep.ensures.keys) (c.in_ok-add.ensures.added keys has))
    (λ state has. subst (HasSpans c.args.table.now.period (state ++ keyed c.args.table.now c.args.row ∷ [])) (sym c.keep.ensures.overlaps) (c.in_ok-take.ensures.ok state has))
    (λ keys has. kept c.args.table.now keys (subst (HasKeys c.args.table.now keys) c.keep.ensures.keys has))
    come)

pub returns-in_ok-key-clause-ok : goal.returns-in_ok-key-clause-ok
returns-in_ok-key-clause-ok c = λ rows come.
    come_again c.args.table.now rows c.args.row (key_of c.args.table.now c.args.row) c.args.self.now (sym c.is_some.ensures ∙ c.if-is_some.false) refl
    (λ keys has. sym c.if-branch.false ∙ c.in_ok-add.ensures.new keys has)
    come
    ∙ ap (λ (k : Key). Some k) (sym c.in_ok-key.ensures.ok)
