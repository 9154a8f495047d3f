-- The laws of `storage`.
pub mod Laid
pub mod Laws
pub mod Every
