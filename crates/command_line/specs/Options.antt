-- The words of the command line, as clap's exact matches and faults of a command give them.
use Rattle.std.specs.Prelude.{◌≡◌, ◌≢◌, ◌<◌, ◌⊎◌, ◌==◌, ℕ, List, [], Option, Some, None, IfSome, codes, option_map, Bool, true, false, ⊤, length, if◌then◌else◌}
use Rattle.std.specs.List.{before_first, position_or_len}
use Rattle.std.specs.Str.{bytes_eq}
use Rattle.clap.specs.Words.{App, IsAmong, Kinds, Rule, Text, fault_of, first_of, first_value, kind_of, matches_of, new_app, new_rule, with_rule}
use Rattle.clap.specs.declared.parser.matches.Found.{Found}
use Rattle.clap.specs.declared.error.kind.ErrorKind.{ErrorKind}
use Rattle.clap.specs.declared.error.kind.ErrorKind.TheVariants as kind
use Rattle.clap.specs.declared.builder.action.ArgAction.TheVariants.{SetTrue}
use Rattle.steps.specs.Misfit.{max_session}
use Rattle.statement.specs.Literal.{digits_here}
use Rattle.interchange.specs.Field.{whole}
use Rattle.listening.specs.declared.limit.Limit.{Limit}
use Rattle.listening.specs.declared.limit.Limit.TheVariants.{Sessions, Connections}
use Rattle.command_line.specs.declared.options.Options.{Options}
use Rattle.command_line.specs.declared.options.Mode.{Mode}
use Rattle.command_line.specs.declared.options.Mode.TheVariants.{Script, Listen}
use Rattle.command_line.specs.declared.options.Texts.{Texts}
use Rattle.command_line.specs.declared.options.WordsFault.{WordsFault}
use Rattle.command_line.specs.declared.options.WordsFault.TheVariants.{Clap, Words as Other, Memory}

-- the command with no option yet; the program's name is not among its words
abbrev pub bare : App
bare = record (new_app (codes "tsvd")) {
  top = record (new_app (codes "tsvd")).top { no_binary_name = true; has_version = true };
}

-- an option that takes the text that follows it
abbrev pub option : Text → Rule
option name = record (new_rule name) { long = Some name; value_names = 1 }

-- an option that no text follows
abbrev pub flag : Text → Rule
flag name = record (new_rule name) { long = Some name; action = Some SetTrue }

-- with the options of what is read
abbrev pub reading : App
reading =
    with_rule (with_rule (with_rule bare (option (codes "schema"))) (option (codes "after")))
    (option (codes "script"))

-- and with those of a server
abbrev pub serving : App
serving =
    with_rule (with_rule (with_rule (with_rule reading (option (codes "listen")))
    (option (codes "sessions"))) (option (codes "connections"))) (option (codes "entries"))

-- that stays
abbrev pub staying : App
staying = with_rule (with_rule serving (option (codes "idle"))) (flag (codes "log"))

abbrev pub command : App
command =
    with_rule (with_rule (with_rule staying (option (codes "load"))) (option (codes "export")))
    (option (codes "dump"))

-- the text of an option, where it has one
abbrev pub text_of : Text → List Text → Option Text
text_of name words = first_of name (matches_of command words)

-- the kinds of refusal that the words may meet: none where they are taken
abbrev pub faults : List Text → Kinds
faults words = fault_of command words

-- ---- the texts of the options

pub record AskedTexts : Type 0 where
  pub schema : Option Text
  pub after : Option Text
  pub script : Option Text
  pub listen : Option Text
  pub sessions : Option Text
  pub connections : Option Text
  pub entries : Option Text
  pub idle : Option Text
  pub log : Option Text
  pub load : Option Text
  pub exports : Option Text
  pub dump : Option Text

abbrev pub texts_in : List Text → AskedTexts
texts_in words = record {
  schema = text_of (codes "schema") words;
  after = text_of (codes "after") words;
  script = text_of (codes "script") words;
  listen = text_of (codes "listen") words;
  sessions = text_of (codes "sessions") words;
  connections = text_of (codes "connections") words;
  entries = text_of (codes "entries") words;
  idle = text_of (codes "idle") words;
  log = text_of (codes "log") words;
  load = text_of (codes "load") words;
  exports = text_of (codes "export") words;
  dump = text_of (codes "dump") words;
}

abbrev pub texts_of : Texts → AskedTexts
texts_of texts = record {
  schema = option_map (λ text. text.now) texts.schema;
  after = option_map (λ text. text.now) texts.after;
  script = option_map (λ text. text.now) texts.script;
  listen = option_map (λ text. text.now) texts.listen;
  sessions = option_map (λ text. text.now) texts.sessions;
  connections = option_map (λ text. text.now) texts.connections;
  entries = option_map (λ text. text.now) texts.entries;
  idle = option_map (λ text. text.now) texts.idle;
  log = option_map (λ text. text.now) texts.log;
  load = option_map (λ text. text.now) texts.load;
  exports = option_map (λ text. text.now) texts.export;
  dump = option_map (λ text. text.now) texts.dump;
}

abbrev pub found_texts : Found → AskedTexts
found_texts found = record {
  schema = first_value found (codes "schema");
  after = first_value found (codes "after");
  script = first_value found (codes "script");
  listen = first_value found (codes "listen");
  sessions = first_value found (codes "sessions");
  connections = first_value found (codes "connections");
  entries = first_value found (codes "entries");
  idle = first_value found (codes "idle");
  log = first_value found (codes "log");
  load = first_value found (codes "load");
  exports = first_value found (codes "export");
  dump = first_value found (codes "dump");
}

-- ---- what they ask for

-- a script, that of a file or standard input; or so many connections at a port, how many entries the journal may
-- have, and after how many seconds a connection makes room
pub data AskedMode : Type 0 where
  Scripts : Option Text → AskedMode
  Listens : (port : ℕ) (limit : Limit) (entries : ℕ) (idle : Option ℕ) (log : Bool) → AskedMode

-- decimal digits alone, up to 65535
abbrev pub port_in : Text → Option ℕ
port_in text = whole (digits_here 65535 text)

abbrev pub positive : Option ℕ → Option ℕ
positive None = None
positive (Some n) = if n == 0 then None else Some n

-- decimal digits alone, from 1 to the number of sessions
abbrev pub count_in : Text → Option ℕ
count_in text = positive (whole (digits_here max_session text))

-- decimal digits alone, from 0 and from 1 to a million
abbrev pub many_in : Text → Option ℕ
many_in text = whole (digits_here 1000000 text)

abbrev pub seconds_in : Text → Option ℕ
seconds_in text = positive (many_in text)

-- one of two numbers
abbrev pub limit_by : (sessions connections : Option Text) → Option Limit
limit_by (Some text) None = option_map (λ n. Sessions n) (count_in text)
limit_by None (Some text) = option_map (λ n. Connections n) (many_in text)
limit_by None None = None
limit_by (Some text) (Some other) = None

abbrev pub limit_in : AskedTexts → Option Limit
limit_in texts = limit_by texts.sessions texts.connections

-- a million entries, or decimal digits alone, from 1 to 1,000,000,000
abbrev pub entries_by : Option Text → Option ℕ
entries_by None = Some 1000000
entries_by (Some text) = positive (whole (digits_here 1000000000 text))

abbrev pub entries_in : AskedTexts → Option ℕ
entries_in texts = entries_by texts.entries

-- no seconds, or some where there is a number of clients
abbrev pub idle_by : (idle connections : Option Text) → Option (Option ℕ)
idle_by None connections = Some None
idle_by (Some text) (Some other) = option_map (λ n. Some n) (seconds_in text)
idle_by (Some text) None = None

abbrev pub idle_in : AskedTexts → Option (Option ℕ)
idle_in texts = idle_by texts.idle texts.connections

-- what is given for a flag
abbrev pub logs_by : Option Text → Bool
logs_by None = false
logs_by (Some text) = bytes_eq text (codes "true")

abbrev pub logs_in : AskedTexts → Bool
logs_in texts = logs_by texts.log

abbrev pub listening : (port : Option ℕ) → Option Limit → (entries : Option ℕ) → Option (Option ℕ) → Bool
    → Option AskedMode
listening (Some port) (Some limit) (Some entries) (Some idle) log = Some (Listens port limit entries idle log)
listening None limit entries idle log = None
listening (Some port) None entries idle log = None
listening (Some port) (Some limit) None idle log = None
listening (Some port) (Some limit) (Some entries) None log = None

abbrev pub script_by : (script sessions connections entries idle : Option Text) → Option AskedMode
script_by script None None None None = Some (Scripts script)
script_by script sessions connections entries idle = None

abbrev pub script_in : AskedTexts → Option AskedMode
script_in texts =
    if logs_in texts then None
    else script_by texts.script texts.sessions texts.connections texts.entries texts.idle

-- a port, and no script; or no word of a server
abbrev pub mode_by : AskedTexts → (script listen : Option Text) → Option AskedMode
mode_by texts script None = script_in texts
mode_by texts None (Some listen) = listening (port_in listen) (limit_in texts) (entries_in texts) (idle_in texts)
    (logs_in texts)
mode_by texts (Some script) (Some listen) = None

abbrev pub mode_in : AskedTexts → Option AskedMode
mode_in texts = mode_by texts texts.script texts.listen

abbrev pub mode_of : Mode → AskedMode
mode_of (Script file) = Scripts (option_map (λ text. text.now) file)
mode_of (Listen port limit entries idle log) = Listens port limit entries idle log

-- what is asked for: the schema's file, what is run, and the texts of the other four options
pub record Asked : Type 0 where
  pub schema : Option Text
  pub after : Option Text
  pub mode : AskedMode
  pub load : Option Text
  pub exports : Option Text
  pub dump : Option Text

abbrev pub asked_of : Options → Asked
asked_of options = record {
  schema = option_map (λ text. text.now) options.schema;
  after = option_map (λ text. text.now) options.after;
  mode = mode_of options.mode;
  load = option_map (λ text. text.now) options.load;
  exports = option_map (λ text. text.now) options.export;
  dump = option_map (λ text. text.now) options.dump;
}

-- the text of --load is a table's name, `=` and a file: there is an `=`
abbrev pub HasFile : Text → Type 0
HasFile text = position_or_len (λ b. b == 61) text < length text

-- the table's name: it ends before the first `=`
abbrev pub name_in : Text → Text
name_in text = before_first (λ b. b == 61) text

-- clap takes the words, and these are the texts
pub record Reads (words : List Text) (texts : AskedTexts) : Type 0 where
  pub taken : faults words ≡ []
  pub texts_are : texts ≡ texts_in words

-- the words are taken, and this is what they ask for
pub record AskFor (words : List Text) (asked : Asked) : Type 0 where
  pub taken : faults words ≡ []
  pub schema_is : asked.schema ≡ (texts_in words).schema
  pub after_is : asked.after ≡ (texts_in words).after
  pub mode_is : mode_in (texts_in words) ≡ Some asked.mode
  pub load_is : asked.load ≡ (texts_in words).load
  pub exports_is : asked.exports ≡ (texts_in words).exports
  pub dump_is : asked.dump ≡ (texts_in words).dump
  pub has_file : IfSome asked.load HasFile

abbrev pub Gives : List Text → Options → Type 0
Gives words options = AskFor words (asked_of options)

-- clap takes the words, but there is no `=` in the text of --load, or nothing can be run by them
pub record AreUnfit (words : List Text) : Type 0 where
  pub taken : faults words ≡ []
  pub unfit :
      (IfSome (texts_in words).load HasFile → ⊥) ⊎ (mode_in (texts_in words) ≡ None)

-- the words are refused for a fault of theirs, help and the version among them, or memory ran out
abbrev pub Refuses : List Text → WordsFault → Type 0
Refuses words (Clap error) = IsAmong (kind_of error) (faults words)
Refuses words (Other text) = AreUnfit words
Refuses words Memory = ⊤

-- the words ask for help or for the version
pub record AreRequest (words : List Text) : Type 0 where
  pub what : ErrorKind
  pub among : IsAmong what (faults words)
  pub request : (what ≡ kind.DisplayHelp) ⊎ (what ≡ kind.DisplayVersion)

-- clap refuses the words for something else
pub record AreRefused (words : List Text) : Type 0 where
  pub why : ErrorKind
  pub among : IsAmong why (faults words)
  pub no_help : why ≢ kind.DisplayHelp
  pub no_version : why ≢ kind.DisplayVersion

-- the words are no words of the program
abbrev pub AreMistaken : List Text → Type 0
AreMistaken words = AreRefused words ⊎ AreUnfit words
