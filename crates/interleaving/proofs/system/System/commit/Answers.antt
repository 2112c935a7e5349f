use Rattle.std.proofs.Common.{◌≡◌, subst, sym, ap, ◌∙◌, None, set}
use Rattle.steps.specs.declared.step.Reply.{Reply}
use Rattle.steps.specs.Reply.{is_out_of_memory}
use Rattle.steps.specs.declared.step.Step.TheVariants.{Commit}
use Rattle.values.specs.Period.{periods_of}
use Rattle.values.specs.Commits.{unit_changed_since, by_unit}
use Rattle.tsbtree.specs.View.{events, last}
use Rattle.interleaving.specs.StepLeaves.{SplitsAsReplied, leaves_all, may_change_tree}
use Rattle.interleaving.proofs.StepEnded.{by_need, not_ended, same_tree}
use Rattle.interleaving.specs.SystemState.{SystemState, changes_in, world, world_of}
use Rattle.interleaving.proofs.SystemKeeps.{with_session}
use Rattle.interleaving.proofs.SystemWritten.{found}
use Rattle.interleaving.proofs.SystemEnded.{committed, ended_is, end_reply, not_want}
use Rattle.interleaving.proofs.system.System.commit.Goals as goal
use Rattle.interleaving.proofs.system.System.commit.Goals.{in-Ok-commit, in-Err-commit}

pub returns-clause-answered : goal.returns-clause-answered
returns-clause-answered c = λ answered.
    let opened = found c.self.inside.schema c.self.inside.engine c.self.inside.sessions.items c.args.session c.index.result.now c.in-Some.transaction c.self.invariant c.requires c.index.ensures c.in-Some.is in
    let says = elim c.match-commit.branch as (λ b. c.match-commit.reply ≡ end_reply c.commit.result) [ in-Ok-commit w ↦ w.reply-is ∙ sym (ap end_reply w.in-Ok-commit.is) | in-Err-commit w ↦ w.reply-is ∙ sym (ap end_reply w.in-Err-commit.is) ] in
    ap (λ (r : Reply). (r, world_of c.self.inside.schema c.commit.new.self (set c.self.inside.sessions.items c.args.session None))) says
    ∙ committed c.self.inside.schema c.self.inside.engine c.commit.new.self c.self.inside.sessions.items (world c.args.self.now) c.args.session c.start.result c.args.reading c.in-Some.transaction c.in-Ok.net c.commit.result
    (ap world c.self.view_is) c.self.invariant opened c.start.ensures c.in-Ok.ensures.ok (c.in-Ok.ensures.keys c.self.inside.schema opened.begun.keys) c.commit.ensures.outcome
    (record { committed = c.commit.ensures.committed; holds = c.commit.ensures.holds; late = c.commit.ensures.later; nothing = c.commit.ensures.nothing; refused = c.commit.ensures.refused })
    (not_want c.commit.result (ap is_out_of_memory (sym says) ∙ answered))

pub invariant_of-self-2 : goal.invariant_of-self-2
invariant_of-self-2 c =
    let opened = found c.self.inside.schema c.self.inside.engine c.self.inside.sessions.items c.args.session c.index.result.now c.in-Some.transaction c.self.invariant c.requires c.index.ensures c.in-Some.is in
    with_session c.self.inside.schema c.commit.new.self c.self.inside.sessions.items c.args.session None tt
    (ended_is c.self.inside.schema c.self.inside.engine c.commit.new.self c.self.inside.sessions.items c.in-Ok.net (c.in-Ok.ensures.keys c.self.inside.schema opened.begun.keys) c.self.invariant c.commit.result
    (record { committed = c.commit.ensures.committed; holds = c.commit.ensures.holds; late = c.commit.ensures.later; nothing = c.commit.ensures.nothing; refused = c.commit.ensures.refused }))

pub returns-clause-splits : goal.returns-clause-splits
returns-clause-splits c =
    let says = elim c.match-commit.branch as (λ b. c.match-commit.reply ≡ end_reply c.commit.result) [ in-Ok-commit w ↦ w.reply-is ∙ sym (ap end_reply w.in-Ok-commit.is) | in-Err-commit w ↦ w.reply-is ∙ sym (ap end_reply w.in-Err-commit.is) ] in
    subst (λ (s : SystemState). SplitsAsReplied (Commit c.args.session c.args.reading) c.match-commit.reply s.engine c.commit.new.self) c.self.view_is
    (subst (λ (r : Reply). SplitsAsReplied (Commit c.args.session c.args.reading) r c.self.inside.engine c.commit.new.self) (sym says)
    (by_need c.args.session c.args.reading c.in-Ok.net c.self.inside.engine c.commit.new.self c.commit.result c.commit.ensures.committed c.commit.ensures.splits))

pub returns-clause-engine : goal.returns-clause-engine
returns-clause-engine c = λ h.
    let says = elim c.match-commit.branch as (λ b. c.match-commit.reply ≡ end_reply c.commit.result) [ in-Ok-commit w ↦ w.reply-is ∙ sym (ap end_reply w.in-Ok-commit.is) | in-Err-commit w ↦ w.reply-is ∙ sym (ap end_reply w.in-Err-commit.is) ] in
    same_tree c.args.session c.args.reading c.self.inside.engine c.commit.new.self c.commit.result c.commit.ensures.nothing c.commit.ensures.refused
    (ap (may_change_tree (Commit c.args.session c.args.reading)) (sym says) ∙ h)
    ∙ ap (λ (s : SystemState). s.engine) c.self.view_is

pub returns-clause-refused : goal.returns-clause-refused
returns-clause-refused c = λ h.
    let says = elim c.match-commit.branch as (λ b. c.match-commit.reply ≡ end_reply c.commit.result) [ in-Ok-commit w ↦ w.reply-is ∙ sym (ap end_reply w.in-Ok-commit.is) | in-Err-commit w ↦ w.reply-is ∙ sym (ap end_reply w.in-Err-commit.is) ] in
    let opened = found c.self.inside.schema c.self.inside.engine c.self.inside.sessions.items c.args.session c.index.result.now c.in-Some.transaction c.self.invariant c.requires c.index.ensures c.in-Some.is in
    let keys = c.in-Ok.ensures.keys c.self.inside.schema opened.begun.keys in
    absurd (not_ended (unit_changed_since (periods_of c.self.inside.schema) (changes_in c.self.inside.schema (events c.self.inside.engine)) c.start.result) (last c.self.inside.engine) (by_unit (periods_of c.self.inside.schema) c.in-Ok.net) c.args.reading c.commit.result
    (c.commit.ensures.outcome (changes_in c.self.inside.schema (events c.self.inside.engine)) c.self.invariant.held keys
    (not_want c.commit.result (ap is_out_of_memory (sym says) ∙ sym c.ran_out.ensures ∙ c.if-ran_out.false)))
    (ap leaves_all (sym says) ∙ h))
