-- The move at an index of a route, and the position there, by the course of the route.
pub mod Between
pub mod Stages
pub mod Found
pub mod Plan
pub mod Ways
