-- Size-change graphs as bits: two words of 64 bits for the arcs between eight places.
pub mod Words
pub mod How
