use Rattle.std.proofs.Common.{◌≡◌, [], ◌∷◌, ◌++◌, sym, ap, ◌∙◌, rules}
use Rattle.staging.specs.Staged.{put_back}
use Rattle.staging.proofs.StagedPutBack.{back_last}
use Rattle.staging.proofs.staged.put_back.Goals as goal

pub loop-key-preserved : goal.loop-key-preserved
loop-key-preserved c =
    let taken : c.loop-key.earlier.items ≡ c.pop.new.self.items ++ (c.in-Some.key, c.in-Some.before) ∷ [] = search rules in
    ap (put_back c.pop.new.self.items) c.put_back_one.ensures
    ∙ sym (back_last c.pop.new.self.items c.in-Some.key c.in-Some.before c.loop-key.writes.entries)
    ∙ ap (λ l. put_back l c.loop-key.writes.entries) (sym taken)
    ∙ c.loop-key.invariant
