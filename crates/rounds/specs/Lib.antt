-- What draining the queues of three depots makes of them.
pub mod Drains
