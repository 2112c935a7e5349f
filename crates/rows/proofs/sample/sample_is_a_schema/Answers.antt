use Rattle.std.proofs.Common.{refl}
use Rattle.tokens.specs.Token.{symbol_at}
use Rattle.tokens.specs.Word.{is_word_at, after_word, word_at}
use Rattle.tokens.specs.Name.{reserved_words, is_reserved, is_name, name_at}
use Rattle.rows.specs.SchemaToken.{digits_at}
use Rattle.rows.specs.Declaration.{names_at, size_at, is_whole_number_at, varchar_at, type_at, not_null_at, primary_key_at, mark_at, is_mark_at, marks_at, user_at, precision_at, maybe_not_null_at, side_at, row_side_at, generated_at, two_names_at, system_period_at, application_period_at, period_at, without_overlaps_at, overlaps_at, key_at, column_at, entry_at, entries_at, body_at, versioning_at, create_at, is_end_at, more_at, creates_at}
use Rattle.rows.specs.SchemaTable.{keyed_table, table_of, next_table, read_schema}
use Rattle.rows.proofs.sample.sample_is_a_schema.Goals as goal

pub returns : goal.returns
unfolding symbol_at is_word_at after_word word_at reserved_words is_reserved is_name name_at digits_at names_at size_at is_whole_number_at varchar_at type_at not_null_at primary_key_at mark_at is_mark_at marks_at user_at precision_at maybe_not_null_at side_at row_side_at generated_at two_names_at system_period_at application_period_at period_at without_overlaps_at overlaps_at key_at column_at entry_at entries_at body_at versioning_at create_at is_end_at more_at creates_at keyed_table table_of next_table read_schema
returns c = refl
