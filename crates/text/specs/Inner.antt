-- What only the functions of this library promise each other: no promise of a call uses it.
pub mod Items
pub mod Page
