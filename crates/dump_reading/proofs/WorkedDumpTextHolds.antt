-- The text of the worked dump is replayed, as the law says.
use Rattle.std.proofs.Common.{◌≡◌, ℕ, ◌≤◌, true, List, [], ◌∷◌, refl, sym, ap, subst, ◌∙◌, arith, lit<, lit≤}
use Rattle.std.specs.Prelude.{codes, nat_lt}
use Rattle.std.specs.Fmt.{digits}
use Rattle.std.specs.List.{list_all}
use Rattle.std.specs.Str.{IsAscii}
use Rattle.std.proofs.lemmas.Bool.{and_parts, ltb-true}
use Rattle.std.proofs.lemmas.Str.{IsUtf8-from_ascii}
use Rattle.std.proofs.lemmas.Str.Ascii.{IsAscii-nil, IsAscii-cons}
use Rattle.values.specs.declared.table.ColumnType.TheVariants.{Int as IsInt}
use Rattle.values.specs.Commits.{max_instant}
use Rattle.values.specs.Log.{last}
use Rattle.values.specs.Sample.{sample}
use Rattle.steps.specs.declared.step.Step.{Step}
use Rattle.steps.specs.declared.step.Step.TheVariants.{AddColumn}
use Rattle.histories.specs.History.{log, schema_after}
use Rattle.statement.specs.Line.{line_says}
use Rattle.scripts.specs.Replay.{Replays}
use Rattle.tokens.specs.Name.{is_name, is_reserved, reserved_words}
use Rattle.dumping.specs.DumpText.{dump_text}
use Rattle.dump_reading.specs.Readable.{AreReadableTables, IsReadableLog}
use Rattle.dump_reading.specs.Replayed.{NoneIsRefused}
use Rattle.dump_reading.specs.WorkedDumpText.{ChangedTextLeavesAnother, WorkedTextIsReplayed, WorkedTextIsTheDump, history_until, log_until, text_with, with_ages, worked_log}
use Rattle.dump_reading.proofs.ReadableHistoriesSample.{readable_name, sample_is_readable}
use Rattle.dump_reading.proofs.ReadableHistoriesTables.{grown_tables_are_readable}
use Rattle.dump_reading.proofs.ReplayedDump.{dumps_are_replayed}

-- ---- the tables

age : is_name (codes "age") ≡ true
unfolding is_name is_reserved reserved_words
age = refl

-- its ages are added by a step
ages : Step
ages = AddColumn 1 1 (codes "age") IsInt

tables : AreReadableTables sample with_ages
unfolding ages
tables = grown_tables_are_readable sample (ages ∷ []) sample_is_readable (readable_name (codes "age") refl age, tt)

-- ---- the log

ascii : (text : List ℕ) → list_all (λ b. nat_lt b 128) text ≡ true → IsAscii text
ascii [] all = IsAscii-nil
ascii (b ∷ text) all =
    let parts = and_parts (nat_lt b 128) (list_all (λ b. nat_lt b 128) text) all in IsAscii-cons b text (ltb-true b 128 parts.0) (ascii text parts.1)

written : (instant : ℕ) → instant ≤ max_instant → IsReadableLog (log_until instant)
written instant within = (
  record { within = lit≤ tt; changes = (record { of_table = lit≤ tt; plain_key = (lit< tt, tt); plain_row = (lit< tt, (IsUtf8-from_ascii (codes "Ann") (ascii (codes "Ann") refl), tt)) }, tt) },
  (
    record { within = lit≤ tt; changes = (record { of_table = lit≤ tt; plain_key = (lit< tt, tt); plain_row = (lit< tt, (IsUtf8-from_ascii (codes "O'Hara") (ascii (codes "O'Hara") refl), (lit< tt, tt))) }, tt) },
    (record { within = within; changes = (record { of_table = lit≤ tt; plain_key = (lit< tt, tt); plain_row = tt }, tt) }, tt),
  ),
)

taken : NoneIsRefused sample with_ages worked_log
unfolding digits
taken = (refl, (refl, (refl, (refl, (refl, (refl, (refl, (refl, (refl, (refl, (refl, tt)))))))))))

changed_taken : NoneIsRefused sample with_ages (log_until 301)
unfolding digits
changed_taken = (refl, (refl, (refl, (refl, (refl, (refl, (refl, (refl, (refl, (refl, (refl, tt)))))))))))

-- ---- the texts

pub text_is : WorkedTextIsTheDump
unfolding digits
text_is = refl

changed_text_is : dump_text sample with_ages (log_until 301) ≡ text_with (codes "1: BEGIN") (codes "clock: 301")
unfolding digits
changed_text_is = refl

worked_left : log sample (history_until 201) ≡ worked_log
unfolding digits
worked_left = refl

worked_tables : schema_after sample (history_until 201) ≡ with_ages
unfolding digits
worked_tables = refl

changed_left : log sample (history_until 301) ≡ log_until 301
unfolding digits
changed_left = refl

pub text_is_replayed : WorkedTextIsReplayed
text_is_replayed = record {
  replays = subst (λ (l : List ℕ). Replays sample line_says [] l (history_until 201)) text_is
      (dumps_are_replayed sample with_ages worked_log tables (written 201 (lit≤ tt)) taken);
  log_is = worked_left;
  tables_are = worked_tables;
}

other_log : log_until 301 ≡ worked_log → ⊥
other_log e = let never : ◌≡◌ {A = ℕ} 301 201 = ap last e in absurd (omega (arith, never))

pub changed_text_leaves_another : ChangedTextLeavesAnother
changed_text_leaves_another = record {
  replays = subst (λ (l : List ℕ). Replays sample line_says [] l (history_until 301)) changed_text_is
      (dumps_are_replayed sample with_ages (log_until 301) tables (written 301 (lit≤ tt)) changed_taken);
  differs = λ e. other_log (sym changed_left ∙ e);
}
