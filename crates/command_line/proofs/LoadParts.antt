-- What a load leaves, from what its parts do.
use Rattle.std.proofs.Common.{◌≡◌, ◌≢◌, ℕ, List, [], ◌∷◌, Option, Some, refl, ◌∙◌, ap, subst, sym, inl, inr, length, arith}
use Rattle.std.specs.Prelude.{◌⊎◌, Result, Ok, Err, OnOk, IfErr}
use Rattle.std.proofs.KnownBytes.{Keeps-refl}
use Rattle.std.specs.Io.KnownBytes.{Appends}
use Rattle.clap.specs.Words.{Text}
use Rattle.values.specs.declared.table.Table.{Table}
use Rattle.values.specs.Log.{Row, last}
use Rattle.values.specs.Tables.{Schema}
use Rattle.histories.specs.History.{History, log, schema_after}
use Rattle.histories.specs.Led.{led}
use Rattle.statement.specs.Writer.{AppendsPrefix}
use Rattle.interleaving.specs.SystemState.{SystemState, Stands}
use Rattle.scripts.specs.First.{IsRefusedAfter, LeadsTo}
use Rattle.command_line.specs.declared.fault.Fault.{Fault}
use Rattle.command_line.specs.declared.fault.Fault.TheVariants.{Words, SchemaSyntax, BadTable, SchemaMemory, NoExport, After, AfterOpen, Load, Read, Write, Socket, NotClosed, Memory}
use Rattle.command_line.specs.Options.{name_in}
use Rattle.interchange.specs.Report.{loaded_text}
use Rattle.command_line.proofs.LoadRefused.{first_refused}
use Rattle.command_line.specs.Load.{IsNamed, FileSays, HasNoRows, IsLed, IsLoad, IsNoLoad, IsRefusedLoad, IsUnread, IsUntaken, Unloaded, instant_of, steps_of}

-- the instant of a load, by the number of its rows
instant_is : (schema : Schema) (rows : List Row) (later : History) (count instant : ℕ) → count ≡ length rows → (count ≢ 0 → instant ≡ last (log schema later)) → (count ≡ 0 → instant ≡ 0)
    → instant ≡ instant_of schema rows later
instant_is schema [] later count instant is some none = none is
instant_is schema (row ∷ rows) later count instant is some none = some (λ nought. omega (arith, is, nought))

-- how rows are loaded into a store: its history goes on with their steps
pub record IsLoadedInto (s s' : SystemState) (number : ℕ) (rows : List Row) (count instant : ℕ) : Type 0 where
  pub leads : LeadsTo s s' (steps_of number rows)
  pub count_is : count ≡ length rows
  pub some : count ≢ 0 → (first : Schema) (h : History) → Stands first s' h → instant ≡ last (log first h)
  pub none : count ≡ 0 → instant ≡ 0

module _ (s s' : SystemState) (number : ℕ) (rows : List Row) (count instant : ℕ) (so : IsLoadedInto s s' number rows count instant) (text : Text) (says : FileSays s.schema text number (Ok rows)) (first : Schema) (before : History) (at : Stands first s before) where
  abbrev later : History
  later = led before (steps_of number rows)

  load : IsLoad first text before later
  load = record {
    number = number;
    rows = rows;
    says = subst (λ schema. FileSays schema text number (Ok rows)) at.schema_is says;
    taken = (so.leads first before at).0;
    leaves = refl;
  }

  same_text : loaded_text count instant ≡ loaded_text (length rows) (instant_of first rows later)
  same_text =
      ap (λ n. loaded_text n instant) so.count_is
      ∙ ap (loaded_text (length rows)) (instant_is first rows later count instant so.count_is (λ some. so.some some first later (so.leads first before at).1) so.none)

  -- rows were taken, and reported
  pub led_with : (old new : Option (List ℕ)) → Appends old new (loaded_text count instant) → IsLed first (Some text) before s' old new
  unfolding load
  led_with old new wrote = record {
    later = later;
    loaded = record { load = load; wrote = subst (Appends old new) same_text wrote };
    stands = (so.leads first before at).1;
  }

  -- or the writer failed in their report
  pub unloaded_late : (fault : Fault) (old new : Option (List ℕ)) → (fault ≡ Write) × AppendsPrefix old new (loaded_text count instant) → Unloaded fault first (Some text) before old new
  unfolding load
  unloaded_late fault old new (is, wrote) = subst (λ f. Unloaded f first (Some text) before old new) (sym is) (record {
    later = later;
    load = load;
    wrote = subst (AppendsPrefix old new) same_text wrote;
  })

-- ---- the same of what calls returned

pub led_ok : (r : Result (Unit {0}) Fault) (s s' : SystemState) (number : ℕ) (rows : List Row) (count instant : ℕ) → IsLoadedInto s s' number rows count instant → (old new : Option (List ℕ)) → OnOk r (Appends old new (loaded_text count instant))
    → OnOk r ((text : Text) → FileSays s.schema text number (Ok rows) → (first : Schema) (before : History) → Stands first s before → IsLed first (Some text) before s' old new)
led_ok (Ok u) s s' number rows count instant so old new wrote = λ text says first before at. led_with s s' number rows count instant so text says first before at old new wrote
led_ok (Err fault) s s' number rows count instant so old new wrote = tt

pub late_err : (r : Result (Unit {0}) Fault) (s s' : SystemState) (number : ℕ) (rows : List Row) (count instant : ℕ) → IsLoadedInto s s' number rows count instant → (old new : Option (List ℕ)) → IfErr r (λ fault. (fault ≡ Write) × AppendsPrefix old new (loaded_text count instant))
    → IfErr r (λ fault. (text : Text) → FileSays s.schema text number (Ok rows) → (first : Schema) (before : History) → Stands first s before → Unloaded fault first (Some text) before old new)
late_err (Ok u) s s' number rows count instant so old new wrote = tt
late_err (Err fault) s s' number rows count instant so old new wrote = λ text says first before at. unloaded_late s s' number rows count instant so text says first before at fault old new wrote

-- what stands of each text whose file says these rows stands of this one
pub of_text_ok : (r : Result (Unit {0}) Fault) (schema now : Schema) (text : Text) (number : ℕ) (rows : List Row) (P : Text → Type 0) → schema ≡ now → FileSays schema text number (Ok rows)
    → OnOk r ((text : Text) → FileSays now text number (Ok rows) → P text) → OnOk r (P text)
of_text_ok (Ok u) schema now text number rows P is says f = f text (subst (λ schema. FileSays schema text number (Ok rows)) is says)
of_text_ok (Err fault) schema now text number rows P is says f = tt

pub of_text_err : (r : Result (Unit {0}) Fault) (schema now : Schema) (text : Text) (number : ℕ) (rows : List Row) (P : Fault → Text → Type 0) → schema ≡ now → FileSays schema text number (Ok rows)
    → IfErr r (λ fault. (text : Text) → FileSays now text number (Ok rows) → P fault text) → IfErr r (λ fault. P fault text)
of_text_err (Ok u) schema now text number rows P is says f = tt
of_text_err (Err fault) schema now text number rows P is says f = f text (subst (λ schema. FileSays schema text number (Ok rows)) is says)

-- rows are refused
pub unloaded_early : (fault : Fault) (s : SystemState) (number : ℕ) (rows : List Row) (old : Option (List ℕ)) → IsUntaken fault s number rows
    → (text : Text) → FileSays s.schema text number (Ok rows) → (first : Schema) (before : History) → Stands first s before → Unloaded fault first (Some text) before old old
unloaded_early fault s number rows old untaken text says first before at =
    subst (λ f. Unloaded f first (Some text) before old old) (sym untaken.fault_is) (by (untaken.refuses first before at), Keeps-refl old)
  where
    by : IsRefusedAfter first before (steps_of number rows) untaken.refusal → IsNoLoad (schema_after first before) text untaken.refusal ⊎ IsRefusedLoad first before text untaken.refusal
    by (inl out) = inl (inl out)
    by (inr refused) = inr (record {
      number = number;
      rows = rows;
      says = subst (λ schema. FileSays schema text number (Ok rows)) at.schema_is says;
      refused = refused;
    })

-- there are none
pub unloaded_none : (fault : Fault) (s : SystemState) (text : Text) (old : Option (List ℕ)) → HasNoRows fault s.schema text
    → (first : Schema) (before : History) → Stands first s before → Unloaded fault first (Some text) before old old
unloaded_none Read s text old none first before at = Keeps-refl old
unloaded_none (Load refusal) s text old none first before at = (inl (subst (λ schema. IsNoLoad schema text refusal) at.schema_is none), Keeps-refl old)
unloaded_none (Words f) s text old none first before at = absurd none
unloaded_none (SchemaSyntax n) s text old none first before at = absurd none
unloaded_none (BadTable n) s text old none first before at = absurd none
unloaded_none SchemaMemory s text old none first before at = absurd none
unloaded_none NoExport s text old none first before at = absurd none
unloaded_none (After n refusal) s text old none first before at = absurd none
unloaded_none AfterOpen s text old none first before at = absurd none
unloaded_none Write s text old none first before at = absurd none
unloaded_none Socket s text old none first before at = absurd none
unloaded_none NotClosed s text old none first before at = absurd none
unloaded_none Memory s text old none first before at = absurd none

-- a table's file has no rows
pub no_rows_of : (fault : Fault) (schema : Schema) (text : Text) (table : Table) → IsNamed schema (name_in text) table → IsUnread fault table → HasNoRows fault schema text
no_rows_of (Words f) schema text table named unread = absurd unread
no_rows_of (SchemaSyntax n) schema text table named unread = absurd unread
no_rows_of (BadTable n) schema text table named unread = absurd unread
no_rows_of SchemaMemory schema text table named unread = absurd unread
no_rows_of NoExport schema text table named unread = absurd unread
no_rows_of (After n refusal) schema text table named unread = absurd unread
no_rows_of AfterOpen schema text table named unread = absurd unread
no_rows_of Write schema text table named unread = absurd unread
no_rows_of Socket schema text table named unread = absurd unread
no_rows_of NotClosed schema text table named unread = absurd unread
no_rows_of Memory schema text table named unread = absurd unread
no_rows_of Read schema text table named unread = tt
no_rows_of (Load refusal) schema text table named (inl out) = inl out
no_rows_of (Load refusal) schema text table named (inr (inl (bytes, loads))) =
    inr (inr (inl (table.number, record { table = table; is_named = named; number_is = refl; bytes = bytes; loads = loads })))
no_rows_of (Load refusal) schema text table named (inr (inr file)) =
    inr (inr (inr record {
      number = table.number;
      rows = file.rows;
      says = record { table = table; is_named = named; number_is = refl; bytes = file.bytes; loads = file.loads };
      refused = first_refused schema table file.rows refusal named.table_is file.refused;
    }))
