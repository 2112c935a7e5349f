use Rattle.rows.specs.SchemaToken.{symbol_at, word_at, name_at, digits_at}
use Rattle.rows.proofs.SchemaSpelled.{said, symbol_found, word_found, name_found, digits_found}
use Rattle.rows.proofs.SchemaRead.{symbol_read, word_read, name_read, digits_read}
use Rattle.rows.proofs.SchemaReads.{of_the_grammar}
use Rattle.rows.proofs.schema_grammar.schemas_are_of_the_grammar.Goals as goal

pub returns-clause-grammar : goal.returns-clause-grammar
returns-clause-grammar c = of_the_grammar

pub returns-clause-tokens : goal.returns-clause-tokens
returns-clause-tokens c = record {
  symbols = λ s x b r. (said (symbol_at s b) r (symbol_found s b), symbol_read s x b r);
  words = λ w x b r. (said (word_at w b) r (word_found w b), word_read w x b r);
  names = λ n b r. (said (name_at b) (n, r) (name_found b), name_read n b r);
  digits = λ n b r. (said (digits_at b) (n, r) (digits_found b), digits_read n b r);
}
