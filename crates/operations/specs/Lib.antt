-- What the checks of the operations find, and the parts of the rules that private functions answer for.
pub mod Places
pub mod CallRows
pub mod ReturnRows
