pub mod MisfitKeys
pub mod WriteLeaves
pub mod WriteStep
