pub mod Beside
pub mod Slots
pub mod Trie
pub mod TrieSize
