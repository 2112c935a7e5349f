pub mod JournalNumbering
pub mod JournalPushing
pub mod LegalViews
