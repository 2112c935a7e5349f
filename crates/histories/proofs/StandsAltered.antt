-- A column is added by the system where it is by the history.
use Rattle.std.proofs.Common.{◌≡◌, ℕ, zero, suc, ◌+◌, ◌≤◌, ◌<◌, Bool, true, false, List, [], ◌∷◌, Option, Some, None, refl, sym, ap, subst, ◌∙◌, arith}
use Rattle.std.specs.Prelude.{if◌then◌else◌, ◌&&◌, ◌||◌, ◌==◌, is_some, is_none, not}
use Rattle.std.proofs.lemmas.Bool.Decides.{nat_tests}
use Rattle.std.specs.List.{list_all, range_with_len}
use Rattle.std.proofs.lemmas.Bool.{and_parts}
use Rattle.values.specs.declared.table.ColumnType.{ColumnType}
use Rattle.values.specs.Tables.{Schema}
use Rattle.values.specs.Log.{Log}
use Rattle.values.specs.declared.refusal.Refusal.TheVariants.{TransactionsOpen}
use Rattle.steps.specs.declared.step.Step.TheVariants.{AddColumn}
use Rattle.steps.specs.declared.step.Reply.TheVariants.{Altered, Refused}
use Rattle.values.specs.Columns.{new_column, add_column}
use Rattle.steps.specs.Misfit.{max_session, misfit}
use Rattle.steps.specs.Idle.{is_idle}
use Rattle.histories.specs.History.{History, ends, begins, has_open, schema_after, log, log_at_begin, own, reply_in}
use Rattle.histories.specs.World.{World}
use Rattle.histories.specs.Stands.{Stands, open_from, is_open_at}
use Rattle.histories.specs.Turn.{Turn, with_schema, alter_turn}
use Rattle.histories.proofs.HistoryIdle.{idle_stands}
use Rattle.histories.proofs.Memory.{idle_alike, is_open}

-- ---- none is open by the one and by the other

opened : (e b o : Bool) (now : Log) (begun : Option Log) → is_some begun ≡ o → is_some (if e then None else if b && is_none begun then Some now else begun) ≡ (not e && (b || o))
opened true b o now begun is = refl
opened false true o now None is = refl
opened false true o now (Some before) is = refl
opened false false o now begun is = is

pub begun_alike : (first : Schema) (h : History) (i : ℕ) → is_some (log_at_begin first h i) ≡ has_open h i
begun_alike first [] i = refl
begun_alike first (step ∷ h) i = opened (ends i step) (begins i step) (has_open h i) (log first h) (log_at_begin first h i) (begun_alike first h i)

idle_is : (first : Schema) (w : World) (h : History) → Stands first w h → is_idle (is_open_at w) ≡ is_idle (has_open h)
idle_is first w h stands = idle_alike max_session (is_open_at w) (has_open h) (λ j small. is_open first w h j small stands ∙ begun_alike first h j)

negated : (b : Bool) → not b ≡ true → b ≡ false
negated true e = cc
negated false e = refl

all_closed : (a n : ℕ) (f : ℕ → Bool) → list_all (λ i. not (f i)) (range_with_len a n) ≡ true → (j : ℕ) → a ≤ j → j < a + n → f j ≡ false
all_closed a zero f e j low high = absurd (omega (arith, low, high))
all_closed a (suc n) f e j low high =
    let parts = and_parts (not (f a)) (list_all (λ i. not (f i)) (range_with_len (a + 1) n)) e in
    by (j == a) refl (negated (f a) parts.0) (all_closed (a + 1) n f parts.1 j)
  where
    by : (b : Bool) → (j == a) ≡ b → f a ≡ false → (a + 1 ≤ j → j < a + 1 + n → f j ≡ false) → f j ≡ false
    by true e at beyond = let is : j ≡ a = grind (arith, nat_tests) in ap f is ∙ at
    by false e at beyond = beyond (grind (arith, nat_tests)) (omega (arith, high))

pub each_closed : (n : ℕ) (f : ℕ → Bool) → list_all (λ i. not (f i)) (range_with_len 0 (n + 1)) ≡ true → (j : ℕ) → j ≤ n → f j ≡ false
each_closed n f e j small = all_closed 0 (n + 1) f e j (omega arith) (omega (arith, small))

pub none_of : (o : Option Log) → is_some o ≡ false → o ≡ None
none_of None e = refl
none_of (Some l) e = cc

-- ---- the step

module _ (first : Schema) (w : World) (h : History) (i number : ℕ) (name : List ℕ) (of : ColumnType) (stands : Stands first w h) where
  abbrev later : Bool → Bool → Schema
  later fits idle = if fits && idle then add_column number (new_column name of) (schema_after first h) else schema_after first h

  added : (fits : misfit (schema_after first h) (AddColumn i number name of) ≡ None) → is_idle (has_open h) ≡ true → Stands first (with_schema (add_column number (new_column name of) w.schema) w) (AddColumn i number name of ∷ h)
  added fits idle = record {
    schema_is = ap (add_column number (new_column name of)) stands.schema_is ∙ (λ k. later (is_none (sym fits k)) (sym idle k));
    wide = stands.wide;
    changes_are = stands.changes_are;
    latest_is = stands.latest_is;
    sessions_are = λ j small.
        let none = none_of (log_at_begin first h j) (begun_alike first h j ∙ each_closed max_session (has_open h) idle j small) in
        stands.sessions_are j small
        ∙ (λ k. open_from (schema_after first h) (log first h) (none k) (own first h j))
        ∙ sym (λ k. open_from (schema_after first (AddColumn i number name of ∷ h)) (log first h) (none k) (own first h j));
  }

  kept : is_idle (has_open h) ≡ false → Stands first w (AddColumn i number name of ∷ h)
  kept busy =
      let same : schema_after first (AddColumn i number name of ∷ h) ≡ schema_after first h = (λ k. later (is_none (misfit (schema_after first h) (AddColumn i number name of))) (busy k)) ∙ unmoved (is_none (misfit (schema_after first h) (AddColumn i number name of))) in
      idle_stands first w h (AddColumn i number name of) stands same refl (λ j small. λ k. open_from (same k) (log first h) (log_at_begin first h j) (own first h j))
    where
      unmoved : (b : Bool) → later b false ≡ schema_after first h
      unmoved true = refl
      unmoved false = refl

  abbrev turn_by : Bool → Turn
  turn_by idle = if idle then (Altered, with_schema (add_column number (new_column name of) w.schema) w) else (Refused TransactionsOpen, w)

  abbrev Good : Turn → Type 0
  Good t = (t.0 ≡ reply_in first h (AddColumn i number name of)) × Stands first t.1 (AddColumn i number name of ∷ h)

  by_idle : (b : Bool) → is_idle (has_open h) ≡ b → misfit (schema_after first h) (AddColumn i number name of) ≡ None → Good (turn_by b)
  by_idle true idle fits = (sym (ap (λ b. if b then Altered else Refused TransactionsOpen) idle), added fits idle)
  by_idle false busy fits = (sym (ap (λ b. if b then Altered else Refused TransactionsOpen) busy), kept busy)

  pub alter_answers : misfit (schema_after first h) (AddColumn i number name of) ≡ None → Good (alter_turn w number name of)
  alter_answers fits = subst (λ b. Good (turn_by b)) (sym (idle_is first w h stands)) (by_idle (is_idle (has_open h)) refl fits)
