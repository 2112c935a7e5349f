use Rattle.std.proofs.Common.{◌≡◌, ◌+◌, true, drop, slice_index_or, sym, ◌∙◌, arith}
use Rattle.std.proofs.lemmas.Grind.{common_steps}
use Rattle.tokens.specs.Word.{is_name_byte}
use Rattle.tokens.proofs.WordLetters.{same_kind, not_of_names}
use Rattle.tokens.proofs.word.word_here.Goals as goal
use Rattle.tokens.proofs.word.word_here.Goals.{in_default-via-then-rest-lt1, in_default-via-in-len1-up+then-is_name_byte+else-eq_ignore_ascii_case, in_default-via-in-len1-up+else-is_name_byte}

pub loop-letter-preserved : goal.loop-letter-preserved
loop-letter-preserved c =
    let is : is_name_byte (slice_index_or c.loop-letter.rest.now 0 0) ≡ true =
    same_kind (slice_index_or c.args.word.now c.loop-letter.letter-index 0) (slice_index_or c.loop-letter.rest.now 0 0) (sym c.eq_ignore_ascii_case.ensures ∙ c.if-eq_ignore_ascii_case.true)
    (sym c.is_name_byte.ensures ∙ c.if-is_name_byte.true) in
    grind (arith, common_steps, is)

pub returns-in_default : goal.returns-in_default
returns-in_default c = elim c.in_default.branch [
  | in_default-via-then-rest-lt1 w ↦ grind (arith, common_steps)
  | in_default-via-in-len1-up+then-is_name_byte+else-eq_ignore_ascii_case w ↦ grind (arith, common_steps)
  | in_default-via-in-len1-up+else-is_name_byte w ↦
      let none = not_of_names (slice_index_or c.args.word.now c.loop-letter.letter-index 0) (drop (c.loop-letter.letter-index + 1) c.args.word.now) c.loop-letter.rest.now
      (sym w.is_name_byte.ensures ∙ w.if-is_name_byte.false) in
      grind (arith, common_steps, none)
]
