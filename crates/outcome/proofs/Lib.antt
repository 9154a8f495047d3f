-- The laws of `outcome`.
pub mod Told
