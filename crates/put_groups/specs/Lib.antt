-- The scope of a key, and the groups found by the last puts of their scopes as those of the definitions.
pub mod Units
pub mod Keys
pub mod Groups
pub mod Fields
pub mod Scopes
pub mod GroupsIn
