-- Clients that keep their transactions in lists, and change these by calls by place only, make a legal history.
pub mod Handed
pub mod Clients
