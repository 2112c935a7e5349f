use Rattle.std.proofs.Common.{sym, subst, ap, ◌∙◌, take}
use Rattle.std.specs.Str.{IsUtf8}
use Rattle.tokens.proofs.WordAscii.{front_is_text}
use Rattle.tokens.proofs.word.split_word.Goals as goal

pub returns-clause-text : goal.returns-clause-text
returns-clause-text c = subst IsUtf8 (sym (c.split_at.ensures.front ∙ ap (λ n. take n c.args.bytes.now) c.word_length.ensures.length)) (front_is_text c.args.bytes.now)
