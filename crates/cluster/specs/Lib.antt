-- What the depots of a program are, and what a step makes of them.
pub mod Cluster
