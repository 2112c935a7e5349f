-- The schema where none is declared is readable.
use Rattle.std.proofs.Common.{◌≡◌, ℕ, true, List, [], ◌∷◌, refl, All, lit≤}
use Rattle.std.specs.Prelude.{codes}
use Rattle.std.specs.List.{list_all}
use Rattle.std.proofs.lemmas.List.Elements.{All-nil, All-cons}
use Rattle.values.specs.Sample.{sample_table}
use Rattle.values.specs.TableRules.{IsColumnOf}
use Rattle.tokens.specs.Name.{is_name, is_reserved, reserved_words}
use Rattle.tokens.specs.Word.{is_name_byte}
use Rattle.dump_reading.specs.Readable.{IsReadableName}
use Rattle.dump_reading.specs.ReadableHistories.{SampleIsReadable}
use Rattle.dump_reading.proofs.ReplayedPieces.{all_bytes}

pub readable_name : (name : List ℕ) → list_all is_name_byte name ≡ true → is_name name ≡ true → IsReadableName name
readable_name name bytes is = record { bytes = all_bytes is_name_byte name bytes; named = is }

pub emp : is_name (codes "emp") ≡ true
unfolding is_name is_reserved reserved_words
emp = refl

pub no : is_name (codes "no") ≡ true
unfolding is_name is_reserved reserved_words
no = refl

pub name : is_name (codes "name") ≡ true
unfolding is_name is_reserved reserved_words
name = refl

keys : All (IsColumnOf sample_table) (1 ∷ [])
keys = All-cons (IsColumnOf sample_table) 1 [] (record { from_1 = lit≤ tt; within = lit≤ tt }) (All-nil (IsColumnOf sample_table))

pub sample_is_readable : SampleIsReadable
sample_is_readable = record {
  good = (
    record {
      numbered = refl;
      small = lit≤ tt;
      some_columns = lit≤ tt;
      few_columns = lit≤ tt;
      few_key_columns = lit≤ tt;
      own_key_columns = keys;
      own_period = λ p is. absurd (cc);
    },
    tt,
  );
  names = record {
    own = ((readable_name (codes "emp") refl emp, tt), (refl, tt));
    columns = (((readable_name (codes "no") refl no, (readable_name (codes "name") refl name, tt)), (refl, (refl, tt))), tt);
  };
}
