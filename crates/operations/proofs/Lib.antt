-- What the code asks of a good state, and what each operation finds and gives.
pub mod Good
pub mod Gives
pub mod Acts
pub mod SafeStack
pub mod CallRows
pub mod CallGives
pub mod Returns
