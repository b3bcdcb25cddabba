-- What the map code asks of a place in the map.
pub mod Places
