-- Document 01, a file for each part, in its order, and Slot, the one part of document 02 that is built (Ask 1); but what is read and written as
-- bytes, and the answers, stand before what uses them, and set-up and what any operation gives behind them.
pub mod Memory
pub mod Code
pub mod State
pub mod Bytes
pub mod Answers
pub mod SetUp
pub mod Store
pub mod Call
pub mod Return
pub mod Malloc
pub mod Free
pub mod Operations
pub mod Script
pub mod Slot
