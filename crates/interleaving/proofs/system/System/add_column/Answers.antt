use Rattle.std.proofs.Common.{ap, sym, subst, ◌∙◌, is_none}
use Rattle.std.specs.List.{list_all}
use Rattle.values.specs.Columns.{new_column}
use Rattle.steps.specs.declared.step.Reply.{Reply}
use Rattle.steps.specs.declared.step.Reply.TheVariants.{Refused}
use Rattle.interleaving.specs.SystemState.{world, world_of, IsSystem}
use Rattle.interleaving.proofs.AlterKeeps.{altered_turn, busy_turn, never_busy, never_out, system_stays}
use Rattle.interleaving.proofs.system.System.add_column.Goals as goal
use Rattle.interleaving.proofs.system.System.add_column.Goals.{in-Ok, in-Err}

pub returns-then-not-is_idle-clause-answered : goal.returns-then-not-is_idle-clause-answered
returns-then-not-is_idle-clause-answered c = λ _.
    busy_turn c.self.inside.schema c.self.inside.engine c.self.inside.sessions.items (world c.args.self.now) c.args.table c.args.name.now c.args.of (ap world c.self.view_is) c.self.invariant
    (ap (list_all is_none) (sym c.deref.ensures.value) ∙ sym c.is_idle.ensures ∙ c.if-not-is_idle.true)

pub invariant_of-self : goal.invariant_of-self
invariant_of-self c =
    let idle = ap (list_all is_none) (sym c.deref.ensures.value) ∙ sym c.is_idle.ensures ∙ c.if-not-is_idle.false in
    elim c.match-add_nullable.branch [
      | in-Ok w ↦ subst (λ s. IsSystem s c.self.inside.engine c.self.inside.sessions.items) (sym w.in-Ok.ensures.ok)
          (system_stays c.self.inside.schema c.self.inside.engine c.self.inside.sessions.items c.args.table (new_column c.args.name.now c.args.of) c.self.invariant idle)
      | in-Err w ↦ subst (λ s. IsSystem s c.self.inside.engine c.self.inside.sessions.items) (sym w.in-Err.ensures.err) c.self.invariant
    ]

pub returns-clause-answered : goal.returns-clause-answered
returns-clause-answered c = λ told.
    let idle = ap (list_all is_none) (sym c.deref.ensures.value) ∙ sym c.is_idle.ensures ∙ c.if-not-is_idle.false in
    elim c.match-add_nullable.branch [
      | in-Ok w ↦ ap (λ (r : Reply). (r, world_of c.add_nullable.new.schema c.self.inside.engine c.self.inside.sessions.items)) w.result-is
          ∙ altered_turn c.self.inside.schema c.self.inside.engine c.self.inside.sessions.items (world c.args.self.now) c.args.table c.args.name.now c.args.of (ap world c.self.view_is) c.self.invariant
          c.add_nullable.new.schema w.in-Ok.ensures.ok idle
      | in-Err w ↦ absurd (never_out c.match-add_nullable.result (w.result-is ∙ ap Refused w.in-Err.ensures.memory) told)
    ]

pub returns-clause-no_memory : goal.returns-clause-no_memory
returns-clause-no_memory c = λ busy.
    absurd (never_busy c.self.inside.schema c.self.inside.engine c.self.inside.sessions.items (world c.args.self.now) (ap world c.self.view_is) c.self.invariant
    (ap (list_all is_none) (sym c.deref.ensures.value) ∙ sym c.is_idle.ensures ∙ c.if-not-is_idle.false) busy)
