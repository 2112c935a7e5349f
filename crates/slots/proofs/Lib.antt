mod BesidePlaces
mod TriePlaces
mod TrieNodes
mod TrieOutcomes
