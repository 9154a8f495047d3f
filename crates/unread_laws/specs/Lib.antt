-- The definitions of `unread_laws`.
pub mod InUse
pub mod PowerCut
