use Rattle.std.proofs.Common.{[], ◌∷◌, ◌++◌, ◌∙◌, ap, arith}
use Rattle.csv.specs.Records.{fields_of}
use Rattle.interchange.specs.KeptField.{most_fields}
use Rattle.interchange.proofs.KeptFieldBytes.{no_room_left, room_left}
use Rattle.interchange.proofs.open_record.keep_field.Goals as goal

pub returns-in_ok-push_field-clause-first : goal.returns-in_ok-push_field-clause-first
returns-in_ok-push_field-clause-first c = λ whole.
    c.in_ok-push_field.ensures.fields
    ∙ ap (λ part. fields_of c.args.fields.now ++ (part ++ c.args.field.now) ∷ []) whole
    ∙ room_left most_fields (fields_of c.args.fields.now) c.args.field.now (omega (arith, c.len.ensures, c.if-len-lt-MOST_FIELDS.true))

pub returns-else-len-lt-MOST_FIELDS-clause-first : goal.returns-else-len-lt-MOST_FIELDS-clause-first
returns-else-len-lt-MOST_FIELDS-clause-first c = λ whole.
    no_room_left most_fields (fields_of c.args.fields.now) c.args.field.now (omega (arith, c.len.ensures, c.if-len-lt-MOST_FIELDS.false)) c.requires
