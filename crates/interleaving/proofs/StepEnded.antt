-- What a commit leaves of the tree, by how it ended; and which refusals it ends with.
use Rattle.std.proofs.Common.{◌≡◌, ℕ, ◌+◌, List, [], ◌∷◌, Option, Some, None, Bool, true, false, Result, Ok, Err, IfOk, OnErr, refl, sym, ap, ◌∙◌, if◌then◌else◌, nat_lt, max}
use Rattle.std.specs.Prelude.{IfSome, IfNone}
use Rattle.values.specs.declared.key.Key.{Key}
use Rattle.values.specs.declared.refusal.Refusal.{Refusal}
use Rattle.values.specs.declared.refusal.Refusal.TheVariants.{Conflict, ClockEnd}
use Rattle.values.specs.Commits.{LookUp, conflicts_by, max_instant, outcome_by}
use Rattle.values.specs.Log.{Net}
use Rattle.tsbtree.specs.View.{TreeState}
use Rattle.staging.specs.View.{Adds}
use Rattle.validation.specs.Split.{SplitsByNeed}
use Rattle.steps.specs.declared.step.Step.TheVariants.{Commit}
use Rattle.interleaving.specs.StepLeaves.{SplitsAsReplied, leaves_all, may_change_tree}
use Rattle.interleaving.proofs.SystemEnded.{end_reply}

-- how a transaction ends is no refusal that leaves all
pub ends : (changed : LookUp) (latest : ℕ) (net : Net) (reading : ℕ) → leaves_all (end_reply (outcome_by changed latest net reading)) ≡ false
ends changed latest [] reading = refl
ends changed latest (c ∷ net) reading = by (conflicts_by changed (c ∷ net))
  where
    clock : (b : Bool) (instant : ℕ) → leaves_all (end_reply (if b then Err ClockEnd else Ok (Some instant))) ≡ false
    clock true instant = refl
    clock false instant = refl

    by : (l : List (Key × ℕ)) → leaves_all (end_reply (elim l [
      | first ∷ others ↦ Err (Conflict first.0 first.1)
      | [] ↦ if nat_lt max_instant (max reading (latest + 1)) then Err ClockEnd else Ok (Some (max reading (latest + 1)))
    ])) ≡ false
    by (first ∷ others) = refl
    by [] = clock (nat_lt max_instant (max reading (latest + 1))) (max reading (latest + 1))

-- the tree changes with an instant alone
pub same_tree : (session reading : ℕ) (old new : TreeState) (r : Result (Option ℕ) Refusal) → IfOk r (λ end. IfNone end (new ≡ old)) → OnErr r (new ≡ old) → may_change_tree (Commit session reading) (end_reply r) ≡ false → new ≡ old
same_tree session reading old new (Ok (Some instant)) nothing refused h = cc
same_tree session reading old new (Ok None) nothing refused h = nothing
same_tree session reading old new (Err refusal) nothing refused h = refused

-- and then by need
pub by_need : (session reading : ℕ) (net : Net) (old new : TreeState) (r : Result (Option ℕ) Refusal) → IfOk r (λ end. IfSome end (λ instant. Adds instant net old new)) → IfOk r (λ end. IfSome end (λ instant. SplitsByNeed instant net old new)) → SplitsAsReplied (Commit session reading) (end_reply r) old new
by_need session reading net old new (Ok (Some instant)) adds splits = record { net = net; adds = adds; splits = splits }
by_need session reading net old new (Ok None) adds splits = tt
by_need session reading net old new (Err refusal) adds splits = tt

-- so it was no refusal that leaves all
pub not_ended : (changed : LookUp) (latest : ℕ) (net : Net) (reading : ℕ) (r : Result (Option ℕ) Refusal) → r ≡ outcome_by changed latest net reading → leaves_all (end_reply r) ≡ true → ⊥
not_ended changed latest net reading r is h = cc (sym h ∙ ap (λ r. leaves_all (end_reply r)) is ∙ ends changed latest net reading)
