use Rattle.listening.proofs.loading.load_instant.Goals as goal

pub returns-clause-none : goal.returns-clause-none
returns-clause-none c = λ none instant first. c.commit_instant.ensures.none none instant first.1.1
