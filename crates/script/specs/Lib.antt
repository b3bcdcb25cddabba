-- What the contracts of this crate cite beside the rules.
pub mod Header
pub mod Text
pub mod Run
