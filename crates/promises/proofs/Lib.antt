-- The proofs of what specs/ promises.
-- section 8
pub mod Limits
pub mod Sample
-- Demand 3
pub mod Says
pub mod Sorts
pub mod Row
pub mod Shown
pub mod Holds
pub mod Store
pub mod Call
pub mod Return
pub mod Malloc
pub mod Free
pub mod SetUp
pub mod Steps
pub mod Change
pub mod Keeping
pub mod Theorem
pub mod FromC
pub mod Incident
pub mod Instance
-- demands 1 and 2, and section 10
pub mod Demand1
pub mod Room
pub mod Uniqueness
