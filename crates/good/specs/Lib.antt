-- What the contracts of this crate share.
pub mod Reads
