pub mod Declaration
pub mod GoodTable
pub mod GoodTableLaw
pub mod SchemaGrammar
pub mod SchemaGrammarLaw
pub mod SchemaTable
pub mod SchemaToken
